-- `bounds_of` meets its contract: the bounds of the first j tasks are filled in. Assumes nothing.
use Rattle.std.proofs.Common.{arith}
use Prim.Native.Nat.{◌<◌}
use Rattle.deck.specs.Sheet.{read}
use Rattle.sheet.proofs.Accepted.{count_range}
use Rattle.planning.proofs.Bounding.{all_begun, part_inside, more_begun}
use Rattle.planning.proofs.bounds_of.Goals as goal

pub slice_bounds-bounds-end : goal.slice_bounds-bounds-end
slice_bounds-bounds-end c =
    let few : c.loop-j.j < 12 = omega (arith, c.loop-j-test.true, c.count-j-end.ensures.value, (count_range c.args.sheet.now.bytes.now c.args.sheet.now.accepted).1) in
    omega (arith, part_inside (read c.args.sheet.now.bytes.now) c.loop-j.j c.loop-j.table c.loop-j.invariant.1 few)

pub loop-j-preserved : goal.loop-j-preserved
loop-j-preserved c =
    let few : c.loop-j.j < 12 = omega (arith, c.loop-j-test.true, c.count-j-end.ensures.value, (count_range c.args.sheet.now.bytes.now c.args.sheet.now.accepted).1) in
    let loop = c.loop-j in
    (omega (arith, c.loop-j-test.true), more_begun (read c.args.sheet.now.bytes.now) loop.j loop.table loop.invariant.1 few c.bounds.new.table c.bounds.auto.table c.bounds.ensures)

pub returns : goal.returns
returns c = all_begun (read c.args.sheet.now.bytes.now) c.loop-j.j c.loop-j.table (omega (arith, c.loop-j-test.false, c.count-j-end.ensures.value)) c.loop-j.invariant.1
