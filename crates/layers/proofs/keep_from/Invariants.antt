-- `keep_from` meets its contract: the words passed have the bytes. Assumes nothing.
use Rattle.std.proofs.Common.{◌≤◌}
use Rattle.layers.specs.Packed.{Kept}
use Rattle.layers.proofs.keep_from.Given as goal

abbrev pub invariant-loop-k : goal.invariant-loop-k
invariant-loop-k l = (l.k ≤ l.many) × Kept l.layer l.from l.at l.k l.initial.words l.words
