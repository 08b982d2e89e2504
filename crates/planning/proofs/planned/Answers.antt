-- `planned` meets its contract: the first root is begun and completed, the turns come to the answer. Assumes nothing.
use Rattle.std.proofs.Common.{◌≡◌, ◌∙◌, arith, length}
use Rattle.sheet.proofs.Accepted.{count_range, limit_range}
use Rattle.turns.proofs.Turning.{room_of}
use Rattle.planning.proofs.Answering.{FirstBegun, first_begun}
use Rattle.planning.proofs.planned.Goals as goal

pub first_root-requires : goal.first_root-requires
first_root-requires c =
    let ok = c.args.given.now.sheet.now.accepted in
    let count = c.count.ensures.value in
    let first = c.requires.by_index in (
      omega (arith, count, count_range c.args.given.now.sheet.now.bytes.now ok),
      omega (arith, count, count_range c.args.given.now.sheet.now.bytes.now ok),
      omega (arith, limit_range c.args.given.now.sheet.now.bytes.now ok, room_of c.args.given.now.sheet.now.bytes.now ok c.args.work.now c.requires.room),
      (first.0, rw (count, c.args.given.now.table_is) first.1, first.2),
    )

pub complete_root-requires-clause-by_index : goal.complete_root-requires-clause-by_index
complete_root-requires-clause-by_index c =
    let long : length c.first_root.new.work ≡ length c.args.work.now = c.first_root.auto.work in
    let begun : FirstBegun c.args.given.now.sheet.now.bytes.now c.args.given.now.sheet.now.accepted c.first_root.new.work = first_begun c.args.given.now.sheet.now.bytes.now c.args.given.now.sheet.now.accepted c.count.result c.args.given.now.table.now c.args.work.now c.first_root.new.work c.args.tasks c.count.ensures.value c.args.given.now.table_is c.first_root.ensures.begun c.first_root.ensures.hold in
    let b = begun in (b.first, _, b.begun)

pub run-end-requires-clause-by_index : goal.run-end-requires-clause-by_index
run-end-requires-clause-by_index c =
    let long : length c.first_root.new.work ≡ length c.args.work.now = c.first_root.auto.work in
    let long_2 : length c.complete_root.new.work ≡ length c.args.work.now = c.complete_root.auto.work ∙ long in
    let begun : FirstBegun c.args.given.now.sheet.now.bytes.now c.args.given.now.sheet.now.accepted c.first_root.new.work = first_begun c.args.given.now.sheet.now.bytes.now c.args.given.now.sheet.now.accepted c.count.result c.args.given.now.table.now c.args.work.now c.first_root.new.work c.args.tasks c.count.ensures.value c.args.given.now.table_is c.first_root.ensures.begun c.first_root.ensures.hold in
    let b = begun in (b.first, b.others, b.all, c.complete_root.ensures.held b.first _ b.begun)
