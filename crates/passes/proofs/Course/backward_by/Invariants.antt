-- `Course::backward_by` meets its contract: the layer of t, another to write to, and those kept. Assumes nothing.
use Rattle.std.proofs.Common.{◌≤◌}
use Rattle.passes.specs.Courses.{BackedOn}
use Rattle.passes.proofs.OnCourse.{Layer, Spare}
use Rattle.passes.proofs.Course.backward_by.Given as goal

abbrev pub invariant-loop-t : goal.invariant-loop-t
invariant-loop-t l = (l.t ≤ l.end) × Layer l.self l.end l.t l.src × Spare l.self l.dst × BackedOn l.self l.end l.t l.words
