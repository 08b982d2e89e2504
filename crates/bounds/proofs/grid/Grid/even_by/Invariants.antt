-- No number around a place passed is too great by more than `worst`. Assumes nothing.
use Rattle.bounds.proofs.Test.{Passed}
use Rattle.bounds.proofs.grid.Grid.even_by.Given as goal

abbrev pub invariant-loop-p : goal.invariant-loop-p
invariant-loop-p g l = Passed (goal.F-post g l.counts) l.dist l.mask l.row l.p l.worst
