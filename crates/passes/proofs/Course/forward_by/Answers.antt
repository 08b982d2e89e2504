-- `Course::forward_by` meets its contract: where the pass is at t. Assumes nothing.
use Rattle.std.proofs.Common.{◌≡◌, refl, subst, arith}
use Rattle.passes.proofs.OnCourse.{records_on, SweptOn, forth_asks, start_small, goal_small, time_small, sweep_of, sweep_first, sweep_ends, sweep_late, sweep_next}
use Rattle.passes.proofs.Course.forward_by.Goals as goal

pub invariant_of-pass : goal.invariant_of-pass
invariant_of-pass c =
    let q = forth_asks c.args.self.now c.all-goals.ensures in record { passable = c.requires.passable; on_grid = records_on c.args.self.now; few_goals = q.0; goals_on = q.1 }

pub seed-a-requires : goal.seed-a-requires
seed-a-requires c =
    let q = forth_asks c.args.self.now c.all-goals.ensures in
    (omega arith, start_small c.args.self.now c.start.ensures.value c.pad-2.ensures, q.0, q.1, records_on c.args.self.now)

pub loop-t-init : goal.loop-t-init
loop-t-init c = sweep_first c.args.self.now c.all-goals.ensures c.start.ensures.value c.pad-2.ensures c.seed-a.ensures

pub met-requires : goal.met-requires
met-requires c = goal_small c.args.self.now c.last_goal.ensures.value c.pad.ensures

pub step-requires : goal.step-requires
step-requires c =
    let u = c.args.self.now in
    let v = c.loop-t.invariant in (
      omega (arith, time_small u v.in_time),
      omega (arith, c.loop-t-test.true, c.horizon-horizon.ensures.range),
    )

pub returns-then-met : goal.returns-then-met
returns-then-met c =
    let q = sweep_of c.args.self.now c.all-goals.ensures c.requires.early c.last_goal.ensures.value c.pad.ensures c.horizon-horizon.ensures.value in
    sweep_ends c.args.self.now q c.loop-t.invariant c.met.ensures c.if-met.true

pub loop-t-preserved : goal.loop-t-preserved
loop-t-preserved c =
    let q = sweep_of c.args.self.now c.all-goals.ensures c.requires.early c.last_goal.ensures.value c.pad.ensures c.horizon-horizon.ensures.value in
    sweep_next c.args.self.now q c.loop-t.invariant c.met.ensures c.if-met.false (λ e. omega (arith, c.loop-t-test.true)) refl c.step.ensures

pub met-requires-2 : goal.met-requires-2
met-requires-2 c = goal_small c.args.self.now c.last_goal.ensures.value c.pad.ensures

pub returns-then-met-2 : goal.returns-then-met-2
returns-then-met-2 c =
    let q = sweep_of c.args.self.now c.all-goals.ensures c.requires.early c.last_goal.ensures.value c.pad.ensures c.horizon-horizon.ensures.value in
    let late : c.loop-t.t ≡ c.horizon-horizon.result = omega (arith, c.loop-t-test.false, c.loop-t.invariant.in_time, c.horizon-horizon.ensures.value) in
    sweep_ends c.args.self.now q (subst (SweptOn c.args.self.now c.loop-t.src.now c.loop-t.dst.now) late c.loop-t.invariant) c.met-2.ensures c.if-met-2.true

pub returns-else-met-2 : goal.returns-else-met-2
returns-else-met-2 c =
    let q = sweep_of c.args.self.now c.all-goals.ensures c.requires.early c.last_goal.ensures.value c.pad.ensures c.horizon-horizon.ensures.value in
    let late : c.loop-t.t ≡ c.horizon-horizon.result = omega (arith, c.loop-t-test.false, c.loop-t.invariant.in_time, c.horizon-horizon.ensures.value) in
    sweep_late c.args.self.now q (subst (SweptOn c.args.self.now c.loop-t.src.now c.loop-t.dst.now) late c.loop-t.invariant) c.met-2.ensures c.if-met-2.false refl
