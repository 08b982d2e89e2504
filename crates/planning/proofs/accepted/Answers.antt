-- `accepted` meets its contract: without a first assignment there is no plan; with one the search goes on from it. Assumes nothing.
use Rattle.std.proofs.Common.{arith}
use Rattle.deck.specs.Sheet.{read}
use Rattle.deck.specs.Planner.{plan_for}
use Rattle.sheet.proofs.Accepted.{count_range}
use Rattle.planning.proofs.Answering.{none_answer, some_tasks, none_found, none_written}
use Rattle.planning.proofs.accepted.Goals as goal

pub first-requires : goal.first-requires
first-requires c =
    let sheet = c.new-sheet.result in
    omega (arith, c.count.ensures.value, count_range sheet.bytes.now sheet.accepted)

pub returns-in_default : goal.returns-in_default
returns-in_default c =
    let e = rw c.new-sheet.ensures at (none_answer c.new-sheet.result.bytes.now c.new-sheet.result.accepted c.table-table.result c.table-table.ensures c.count.result c.count.ensures.value c.in_default.ensures) in
    (none_found (plan_for (read c.args.s.now)) 0 e, none_written (plan_for (read c.args.s.now)) 0 c.args.out.now e)

pub planned-requires-clause-by_index : goal.planned-requires-clause-by_index
planned-requires-clause-by_index c =
    let sheet = c.new-sheet.result in
    some_tasks sheet.bytes.now sheet.accepted c.table-table.result c.table-table.ensures c.count.result c.count.ensures.value c.in-Some.first c.in-Some.ensures
