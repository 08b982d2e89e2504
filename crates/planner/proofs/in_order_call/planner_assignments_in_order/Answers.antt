-- A refusal has the number of its cause, and lists nothing.
use Rattle.std.proofs.Common.{Result, ℕ, subst}
use Rattle.deck.specs.declared.cause.Cause.{Cause}
use Rattle.in_order.specs.Listed.{InOrderCall}
use Rattle.planner.proofs.Exported.{refusal_exported}
use Rattle.planner.proofs.in_order_call.planner_assignments_in_order.Goals as goal

pub returns-in-Err : goal.returns-in-Err
returns-in-Err c =
    let a = c.args in
    let call = c.in_order in
    rw c.number.ensures
    (refusal_exported (subst (λ (r : Result ℕ Cause). InOrderCall a.m a.table.now a.work.now a.lists.now r call.new.work call.new.lists) c.in-Err.is call.ensures))
