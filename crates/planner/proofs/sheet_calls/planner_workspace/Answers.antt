-- By the sheet's cause.
use Rattle.std.proofs.Common.{sym, ◌∙◌}
use Rattle.deck.specs.Sheet.{sheet_cause}
use Rattle.meaning.proofs.Accepted.{none_of_ok, cause_of_err}
use Rattle.planner.proofs.Exported.{wanted, not_wanted}
use Rattle.planner.proofs.sheet_calls.planner_workspace.Goals as goal

pub returns-in-Ok : goal.returns-in-Ok
returns-in-Ok c =
    wanted c.args.s.now (none_of_ok (sheet_cause c.args.s.now) _ _ (sym c.in-Ok.is ∙ c.check.ensures)) c.workspace.ensures.value

pub returns-in-Err : goal.returns-in-Err
returns-in-Err c = not_wanted c.args.s.now _ (cause_of_err (sheet_cause c.args.s.now) _ _ (sym c.in-Err.is ∙ c.check.ensures))
