-- A cause, no such task, and the task's pair of the directory.
use Rattle.std.proofs.Common.{sym, ◌∙◌, arith}
use Rattle.deck.specs.Sheet.{sheet_cause}
use Rattle.meaning.proofs.Accepted.{none_of_ok, cause_of_err}
use Rattle.planner.proofs.Exported.{goals_refused, goals_of_none, goals_at}
use Rattle.planner.proofs.sheet_calls.planner_task_goals.Goals as goal

pub returns-in-Ok : goal.returns-in-Ok
returns-in-Ok c =
    goals_at c.args.s.now c.args.j (none_of_ok (sheet_cause c.args.s.now) _ _ (sym c.in-Ok.is ∙ c.check.ensures)) (omega (arith, c.count.ensures.value, c.if-j-count.true))
    c.pair_at-goals.ensures.value

pub returns-in_default : goal.returns-in_default
returns-in_default c =
    goals_of_none c.args.s.now c.args.j (none_of_ok (sheet_cause c.args.s.now) _ _ (sym c.in-Ok.is ∙ c.check.ensures)) (omega (arith, c.count.ensures.value, c.if-j-count.false))

pub returns-in_default-2 : goal.returns-in_default-2
returns-in_default-2 c =
    goals_refused c.args.s.now c.args.j _ (cause_of_err (sheet_cause c.args.s.now) _ _ (sym c.in_default.is ∙ c.check.ensures))
