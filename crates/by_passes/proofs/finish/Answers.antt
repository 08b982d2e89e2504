-- The backward pass from the bound finds that the task can be finished then. Assumes nothing.
use Rattle.std.proofs.Common.{◌≤◌, arith}
use Rattle.passes.specs.Courses.{sheet_of}
use Rattle.by_passes.proofs.Finding.{guess_least}
use Rattle.by_passes.proofs.finish.Goals as goal

pub returns-then-backward : goal.returns-then-backward
returns-then-backward c =
    let l : c.args.from ≤ (sheet_of c.args.course.now).horizon = omega (arith, c.horizon.ensures.value, c.if-horizon-from.false) in
    (l, guess_least _ _ _ _ _ c.args.course.now.ready c.args.from c.requires.early l c.backward.ensures.finished c.if-backward.true, c.backward.ensures.backed)
