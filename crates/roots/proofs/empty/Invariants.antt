-- `empty` meets its contract: the numbers below k have no choice. Assumes nothing.
use Rattle.std.proofs.Common.{◌≡◌, ◌≤◌, length}
use Rattle.roots.specs.Tournament.{Emptied}
use Rattle.roots.proofs.empty.Given as goal

abbrev pub invariant-loop-k : goal.invariant-loop-k
invariant-loop-k l = (length l.work ≡ length l.initial.work) × (l.from ≤ l.k) × (l.k ≤ l.to) × Emptied l.initial.work l.work l.from l.k
