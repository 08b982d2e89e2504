-- `chains_of` meets its contract: the records passed are linked. Assumes nothing.
use Rattle.std.proofs.Common.{◌≡◌, ◌≤◌, length}
use Rattle.bars.specs.Bars.{count_in, Linked}
use Rattle.bars.proofs.chains_of.Given as goal

abbrev pub invariant-loop-k : goal.invariant-loop-k
invariant-loop-k l = (l.k ≤ count_in l.records) × Linked l.records l.carrier.0 l.k l.heads l.links × (length l.links ≡ length l.initial.links)
