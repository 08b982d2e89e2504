-- `Kept::trace` meets its contract: the places up to t are written, and the rest of the path follows. Assumes nothing.
use Rattle.std.proofs.Common.{◌≤◌}
use Rattle.passes.specs.Courses.{sheet_of, carrier_of, bars_of}
use Rattle.trace.proofs.Writing.{Traced}
use Rattle.trace.proofs.kept_layers.Kept.trace.Given as goal

abbrev pub invariant-loop-t : goal.invariant-loop-t
invariant-loop-t l =
    let u = l.self.course.now in
    (l.t ≤ l.self.end) × Traced (sheet_of u) (carrier_of u) u.task (bars_of u) l.self.end l.initial.out l.out l.u l.k l.t
