-- At each carrier the answer is that of the carriers that are left. Assumes nothing.
use Rattle.std.proofs.Common.{ℕ, suc, ◌+◌, ◌<◌, ◌≡◌, refl, sym, ◌∙◌, List, None, arith, length, get_or, take, length-take-le, get_or-take}
use Rattle.deck.specs.Sheet.{sheet_cause, count_of, horizon_of}
use Rattle.meaning.proofs.Dark.{most_carriers, short_horizon, with_carriers}
use Rattle.plan_check.proofs.Flow.{flow_start, flow_over, flow_next, flow_none, path_small, pieces_length, piece_is}
use Rattle.plan_check.proofs.flowtime.Goals as goal

listed : (s tasks : List ℕ) → sheet_cause s ≡ None → length tasks ≡ 12 → length (take (count_of s) tasks) ≡ count_of s
listed s tasks ok n = length-take-le (count_of s) tasks (omega (arith, most_carriers s ok))

pub loop-i-init : goal.loop-i-init
loop-i-init c = (omega arith, flow_start _ _ _ _ refl (listed _ _ c.requires.0 c.told-tasks) (pieces_length _ _ _))

pub task_of-task-requires : goal.task_of-task-requires
task_of-task-requires c = omega (arith, most_carriers _ c.requires.0)

pub new-requires : goal.new-requires
new-requires c = with_carriers _ c.requires.0 (omega arith)

pub overflow_add-sum : goal.overflow_add-sum
overflow_add-sum c =
    omega (arith, most_carriers _ c.requires.0, short_horizon _ c.requires.0, path_small _ _ _ _ _ (rw c.new.ensures at c.path_finish.ensures) (c.in_ok-sum.was {u = tt}))

pub returns-in_err-sum : goal.returns-in_err-sum
returns-in_err-sum c =
    let l : c.loop-i.i < count_of c.args.s.now = omega arith in
    let n : c.horizon-n.result + 1 ≡ suc (horizon_of c.args.s.now) = omega arith in
    let task_is : c.task_of-task.result.0 ≡ get_or (take (count_of c.args.s.now) c.args.tasks.now) c.loop-i.i 0 =
    c.task_of-task.ensures.0 ∙ sym (get_or-take _ _ c.loop-i.i 0 l) in
    c.from_residual.ensures
    ∙ sym (c.loop-i.invariant.1 ∙ flow_none _ _ _ _ refl (listed _ _ c.requires.0 c.told-tasks) (pieces_length _ _ _) c.loop-i.sum c.loop-i.i l task_is (piece_is _ _ _ _ _ n l)
    (rw c.new.ensures at c.path_finish.ensures) (c.in_err-sum.was {u = tt}))

pub loop-i-preserved : goal.loop-i-preserved
loop-i-preserved c =
    let l : c.loop-i.i < count_of c.args.s.now = omega arith in
    let n : c.horizon-n.result + 1 ≡ suc (horizon_of c.args.s.now) = omega arith in
    let task_is : c.task_of-task.result.0 ≡ get_or (take (count_of c.args.s.now) c.args.tasks.now) c.loop-i.i 0 =
    c.task_of-task.ensures.0 ∙ sym (get_or-take _ _ c.loop-i.i 0 l) in (
      omega (arith, short_horizon _ c.requires.0, path_small _ _ _ _ _ (rw c.new.ensures at c.path_finish.ensures) (c.in_ok-sum.was {u = tt})),
      c.loop-i.invariant.1 ∙ flow_next _ _ _ _ refl (listed _ _ c.requires.0 c.told-tasks) (pieces_length _ _ _) c.loop-i.sum c.loop-i.i l task_is (piece_is _ _ _ _ _ n l)
          (rw c.new.ensures at c.path_finish.ensures) _ (c.in_ok-sum.was {u = tt}),
    )

pub returns : goal.returns
returns c = sym (c.loop-i.invariant.1 ∙ flow_over _ _ _ _ refl (listed _ _ c.requires.0 c.told-tasks) (pieces_length _ _ _) _ _ (omega arith))
