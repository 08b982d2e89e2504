-- `child_path` meets its contract: the records are those of the child's constraints, and its path does not finish before its parent's.
-- Assumes nothing.
use Rattle.std.proofs.Common.{length, ap, ◌∙◌, arith}
use Rattle.expand.proofs.ChildPath.{record_room, number_small, child_linked, child_small, carrier_few, child_ready, child_found, child_written, child_later}
use Rattle.expand.proofs.child_path.Goals as goal

pub constraints-requires : goal.constraints-requires
constraints-requires c =
    let x = c.requires.by_index.2 in
    (record_room x, omega (arith, number_small x, c.requires.list_room, ap length c.new-list.ensures.lent), child_linked x, child_small x)

pub at-parent-requires : goal.at-parent-requires
at-parent-requires c = record_room c.requires.by_index.2

pub task-j-requires : goal.task-j-requires
task-j-requires c = omega (arith, c.bound_by-i.ensures, carrier_few c.requires.by_index.2)

pub finish-bound-requires : goal.finish-bound-requires
finish-bound-requires c = omega (arith, c.bound_by-i.ensures, carrier_few c.requires.by_index.2)

pub invariant_of-errand : goal.invariant_of-errand
invariant_of-errand c = record { ready = child_ready c.requires.by_index.2 c.bound_by-i.ensures (c.words.ensures ∙ c.constraints.ensures) c.at-parent.ensures c.task-j.ensures }

pub least-requires-clause-not_before : goal.least-requires-clause-not_before
least-requires-clause-not_before c =
    child_later c.requires.by_index.2 c.bound_by-i.ensures (c.words.ensures ∙ c.constraints.ensures) c.at-parent.ensures c.task-j.ensures c.finish-bound.ensures

pub least-requires-clause-workspace : goal.least-requires-clause-workspace
least-requires-clause-workspace c = c.requires.by_index.2.room

pub returns-clause-answer : goal.returns-clause-answer
returns-clause-answer c =
    child_found c.requires.by_index.2 c.bound_by-i.ensures (c.words.ensures ∙ c.constraints.ensures) c.at-parent.ensures c.task-j.ensures c.least.ensures.answer

pub returns-clause-written : goal.returns-clause-written
returns-clause-written c =
    child_written c.requires.by_index.2 c.bound_by-i.ensures (c.words.ensures ∙ c.constraints.ensures) c.at-parent.ensures c.task-j.ensures _ c.least.ensures.written
