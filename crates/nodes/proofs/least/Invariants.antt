-- The least of the keys so far. Assumes nothing.
use Rattle.nodes.specs.Nodes.{LeastTo}
use Rattle.nodes.proofs.least.Given as goal

abbrev pub invariant-loop-key : goal.invariant-loop-key
invariant-loop-key l = LeastTo l.keys l.key-index l.best
