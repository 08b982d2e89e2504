-- `first_walk` meets its contract: the walk from the start, and then the last goal. Assumes nothing.
use Rattle.std.proofs.Common.{Ok, refl, ap, arith}
use Rattle.passes.specs.Courses.{sheet_of, carrier_of, bars_of}
use Rattle.first_walk.proofs.Walking.{dead_none}
use Rattle.first_walk.proofs.Starting.{start_label, start_on, start_small, walked_barred, walked_none, walked_found}
use Rattle.first_walk.proofs.first_walk.Goals as goal

pub returns-then-not-place_free : goal.returns-then-not-place_free
returns-then-not-place_free c = walked_barred c.args.course.now.ready c.args.end _ _ c.args.out.now c.start-place.ensures.value c.place_free.ensures c.if-not-place_free.true

pub new-requires-2 : goal.new-requires-2
new-requires-2 c = start_small c.args.course.now.ready c.args.end c.start-place.ensures.value c.args.course.now.sized.0 c.pad-padded.ensures (start_label c.args.course.now.ready c.args.end c.args.course.now.goals_at c.start-place.ensures.value c.args.course.now.sized.0 c.pad-padded.ensures (rw c.all.ensures at c.visit-visited.ensures))

pub dive-requires-clause-on : goal.dive-requires-clause-on
dive-requires-clause-on c =
    let n = c.new-2.ensures in
    rw (n.0, n.1, n.2, n.3) (start_on c.args.course.now.ready c.args.end c.start-place.ensures.value c.args.course.now.sized.0 c.pad-padded.ensures (start_label c.args.course.now.ready c.args.end c.args.course.now.goals_at c.start-place.ensures.value c.args.course.now.sized.0 c.pad-padded.ensures (rw c.all.ensures at c.visit-visited.ensures)))

pub dive-requires-clause-remembers : goal.dive-requires-clause-remembers
dive-requires-clause-remembers c =
    let w = c.args.course.now in
    rw c.new.ensures (dead_none (sheet_of w) (carrier_of w) w.task (bars_of w) c.args.end)

pub returns-then-found : goal.returns-then-found
returns-then-found c =
    rw c.if-found.true
    (walked_found c.args.course.now.ready c.args.end c.start-place.ensures.value (start_label c.args.course.now.ready c.args.end c.args.course.now.goals_at c.start-place.ensures.value c.args.course.now.sized.0 c.pad-padded.ensures (rw c.all.ensures at c.visit-visited.ensures)) (rw (c.new-2.ensures.0, c.new-2.ensures.1, c.new-2.ensures.3) at c.in_ok-found.ensures.dived) (ap Ok c.if-found.true) _ c.place_free.ensures c.if-not-place_free.false c.requires.in_time c.requires.room c.stay.ensures refl
    (omega (arith, c.horizon.ensures.value)) c.last_goal-last.ensures.value)

pub returns-else-found : goal.returns-else-found
returns-else-found c = rw c.if-found.false (walked_none c.args.course.now.ready c.args.end c.start-place.ensures.value (start_label c.args.course.now.ready c.args.end c.args.course.now.goals_at c.start-place.ensures.value c.args.course.now.sized.0 c.pad-padded.ensures (rw c.all.ensures at c.visit-visited.ensures)) (rw (c.new-2.ensures.0, c.new-2.ensures.1, c.new-2.ensures.3) at c.in_ok-found.ensures.dived) (ap Ok c.if-found.false))
