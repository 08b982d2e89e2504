-- `copies_of` meets its contract: the masks passed are copies. Assumes nothing.
use Rattle.std.proofs.Common.{◌≡◌, ◌≤◌, length}
use Rattle.layers.proofs.Copying.{CopiedTo}
use Rattle.layers.proofs.copies_of.Given as goal

abbrev pub invariant-loop-k : goal.invariant-loop-k
invariant-loop-k l = (l.k ≤ 5) × (length l.mask ≡ 1156) × CopiedTo l.k l.mask l.ways
