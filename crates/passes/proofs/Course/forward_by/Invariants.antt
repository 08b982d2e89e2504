-- `Course::forward_by` meets its contract: where the pass is at t. Assumes nothing.
use Rattle.passes.proofs.OnCourse.{SweptOn}
use Rattle.passes.proofs.Course.forward_by.Given as goal

abbrev pub invariant-loop-t : goal.invariant-loop-t
invariant-loop-t l = SweptOn l.self l.src l.dst l.t
