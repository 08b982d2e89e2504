-- At each carrier the answer is that of the carriers that are left. Assumes nothing.
use Rattle.std.proofs.Common.{suc, ◌*◌, ◌≤◌, ◌≡◌, take}
use Rattle.deck.specs.Lists.{pieces}
use Rattle.deck.specs.Sheet.{read, count_of, horizon_of}
use Rattle.plan_check.specs.Answers.{flow_answer}
use Rattle.plan_check.proofs.Flow.{flow_from}
use Rattle.plan_check.proofs.flowtime.Given as goal

abbrev pub invariant-loop-i : goal.invariant-loop-i
invariant-loop-i l =
    (l.sum ≤ 255 * l.i)
    × (flow_answer (read l.s) (take (count_of l.s) l.tasks) (pieces (count_of l.s) (suc (horizon_of l.s)) l.paths)
    ≡ flow_from (read l.s) (take (count_of l.s) l.tasks) (pieces (count_of l.s) (suc (horizon_of l.s)) l.paths) l.sum l.i)
