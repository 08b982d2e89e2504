-- `raise` meets its contract: the layer is raised at the goals passed. Assumes nothing.
use Rattle.std.proofs.Common.{◌≤◌, length}
use Rattle.layers.specs.Raise.{Raised}
use Rattle.layers.proofs.raise.Given as goal

abbrev pub invariant-loop-k : goal.invariant-loop-k
invariant-loop-k l = (l.k ≤ length l.goals) × Raised l.goals l.k l.initial.layer l.layer
