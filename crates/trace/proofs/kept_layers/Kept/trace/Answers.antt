-- `Kept::trace` meets its contract: the places up to t are written, and the rest of the path follows. Assumes nothing.
use Rattle.std.proofs.Common.{◌+◌, refl, arith, length-set}
use Rattle.passes.specs.Courses.{sheet_of, carrier_of, bars_of}
use Rattle.passes.proofs.Given.{begins_free}
use Rattle.trace.proofs.Seeing.{on_layer}
use Rattle.trace.proofs.Tracing.{first_visited, more_visited, all_many, begins_on_time}
use Rattle.trace.proofs.Writing.{traced_first, traced_next, next_time, all_written}
use Rattle.trace.proofs.kept_layers.Kept.trace.Goals as goal

pub loop-t-init : goal.loop-t-init
loop-t-init c =
    let s = c.args.self.now in
    let u = s.course.now in (
      omega arith,
      traced_first (sheet_of u) (carrier_of u) u.task (bars_of u) s.end _ (begins_on_time u s.end s.in_time c.requires.least) c.start-u.ensures.value
          (first_visited u c.all-goals.ensures c.start-u.ensures.value c.pad.ensures c.visit-k.ensures),
    )

pub pad-requires-in-loop-t : goal.pad-requires-in-loop-t
pad-requires-in-loop-t c =
    let s = c.args.self.now in
    let u = s.course.now in
    on_layer s (c.loop-t.t + 1) c.next_place-u.result _
    (next_time (sheet_of u) (carrier_of u) u.task (bars_of u) s.end (begins_free u.ready) c.loop-t.invariant.1 c.loop-t-test.true c.next_place-u.ensures refl)

pub visit-k-requires-in-loop-t : goal.visit-k-requires-in-loop-t
visit-k-requires-in-loop-t c = omega (arith, all_many c.args.self.now.course.now c.all-goals.ensures, c.loop-t.invariant.1.time.label)

pub loop-t-preserved : goal.loop-t-preserved
loop-t-preserved c =
    let s = c.args.self.now in
    let u = s.course.now in (
      omega arith,
      traced_next (sheet_of u) (carrier_of u) u.task (bars_of u) s.end (begins_free u.ready) c.loop-t.invariant.1 c.loop-t-test.true c.next_place-u.ensures
          (more_visited u c.all-goals.ensures c.loop-t.u _ c.pad-in-loop-t.ensures c.visit-k-in-loop-t.ensures) _ refl
          (omega (arith, length-set c.args.out.now 0 c.start-u.result, c.requires.room, s.in_time, c.loop-t-test.true)),
    )

pub returns : goal.returns
returns c =
    let s = c.args.self.now in
    let u = s.course.now in
    all_written (sheet_of u) (carrier_of u) u.task (bars_of u) s.end s.in_time c.args.out.now _ _ _ _ _ c.start-u.result _ _ _ _ c.requires.room refl c.start-u.ensures.value
    c.loop-t.invariant.1 (omega arith) c.stay.ensures refl (omega (arith, c.horizon.ensures.value)) c.last_goal-last.ensures.value
