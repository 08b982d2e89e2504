-- `tables::square` meets its contract. Assumes nothing.
use Rattle.std.proofs.Common.{arith}
use Rattle.tables.proofs.Cells.{row_more, rows_more}
use Rattle.tables.proofs.square.Goals as goal

pub loop-j-preserved : goal.loop-j-preserved
loop-j-preserved g c =
    (omega arith, rw c.put.ensures (row_more _ _ c.loop-i.i c.loop-j.j _ c.number.result c.requires.few (omega arith) c.loop-j-test.true c.number.ensures c.loop-j.invariant.1))

pub loop-i-preserved : goal.loop-i-preserved
loop-i-preserved g c = (omega arith, rows_more _ _ c.loop-i.i c.loop-j.j c.loop-j.square c.loop-j-test.false c.loop-j.invariant.1)

pub returns : goal.returns
returns g c = λ i j li lj. c.loop-i.invariant.1.done i j (omega arith) lj
