-- The first k of the new keys are taken in. Assumes nothing.
use Rattle.std.proofs.Common.{◌+◌}
use Rattle.nodes.specs.Nodes.{Lows}
use Rattle.nodes.proofs.enter.Given as goal

abbrev pub invariant-loop-k : goal.invariant-loop-k
invariant-loop-k l = Lows l.limit l.work (l.from + l.k) l.lows
