-- `Course::backward_by` meets its contract: the layer of t, another to write to, and those kept. Assumes nothing.
use Rattle.std.proofs.Common.{◌≡◌, ◌+◌, ◌-◌, ◌∙◌, arith}
use Rattle.passes.proofs.OnCourse.{records_on, time_small, start_small, goal_small, back_asks, back_room, back_first, back_next, back_says}
use Rattle.passes.proofs.Course.backward_by.Goals as goal

pub invariant_of-pass : goal.invariant_of-pass
invariant_of-pass c =
    let q = back_asks c.args.self.now (c.all-goals.ensures ∙ c.turned-turned.ensures) in record { passable = c.requires.passable; on_grid = records_on c.args.self.now; few_goals = q.0; goals_on = q.1 }

pub seed-a-requires : goal.seed-a-requires
seed-a-requires c =
    let q = back_asks c.args.self.now (c.all-goals.ensures ∙ c.turned-turned.ensures) in
    (time_small c.args.self.now c.requires.in_time, goal_small c.args.self.now c.last_goal.ensures.value c.pad.ensures, q.0, q.1, records_on c.args.self.now)

pub keep-requires : goal.keep-requires
keep-requires c = back_room c.args.self.now c.args.words.now c.args.end c.requires.in_time c.requires.room

pub loop-t-init : goal.loop-t-init
loop-t-init c =
    let x = back_first c.args.self.now c.args.end (c.all-goals.ensures ∙ c.turned-turned.ensures) c.last_goal.ensures.value c.pad.ensures c.seed-a.ensures c.requires.room c.keep.ensures in
    (omega arith, x.0, x.1, x.2)

pub step-requires : goal.step-requires
step-requires c =
    let time = time_small c.args.self.now c.requires.in_time in
    let i = c.loop-t.invariant in
    (omega (arith, time, i.0), omega (arith, time, i.0))

pub keep-requires-in-loop-t : goal.keep-requires-in-loop-t
keep-requires-in-loop-t c =
    let i = c.loop-t.invariant in
    back_room c.args.self.now c.loop-t.words (c.loop-t.t - 1) (omega (arith, c.requires.in_time, i.0)) i.3.room

pub loop-t-preserved : goal.loop-t-preserved
loop-t-preserved c =
    let i = c.loop-t.invariant in
    let n : c.loop-t.t ≡ c.loop-t.t - 1 + 1 = omega (arith, c.loop-t-test.true) in
    let x = back_next c.args.self.now c.args.end n i.0 (c.all-goals.ensures ∙ c.turned-turned.ensures) i.1 i.2 i.3 c.step.ensures c.keep-in-loop-t.ensures in
    (omega (arith, i.0), x.0, x.1, x.2)

pub bounds-src-start : goal.bounds-src-start
bounds-src-start c = start_small c.args.self.now c.start.ensures.value c.pad-start.ensures

pub returns-clause-finished : goal.returns-clause-finished
returns-clause-finished c =
    let z : c.loop-t.t ≡ 0 = omega arith in
    back_says c.args.self.now c.args.end (c.all-goals.ensures ∙ c.turned-turned.ensures) c.start.ensures.value c.pad-start.ensures z c.loop-t.invariant.1 c.from.ensures

pub returns-clause-backed : goal.returns-clause-backed
returns-clause-backed c =
    let z : c.loop-t.t ≡ 0 = omega arith in
    rw z at c.loop-t.invariant.3
