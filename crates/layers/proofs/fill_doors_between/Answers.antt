-- `fill_doors_between` meets its contract: the ways passed have their bytes. Assumes nothing.
use Rattle.std.proofs.Common.{arith}
use Rattle.bars.specs.Ways.{is_back}
use Rattle.bars.proofs.Ways.{way_at}
use Rattle.layers.proofs.Advancing.{doors_by}
use Rattle.layers.proofs.fill_doors_between.Goals as goal

pub loop-way-preserved : goal.loop-way-preserved
loop-way-preserved c =
    let a = c.args in (
      omega arith,
      doors_by a.mask.now a.row a.end (is_back a.direction) c.requires.3 c.loop-way.way-index _ (way_at c.loop-way.way-index (omega arith)) c.loop-way.invariant.1 c.way_doors.ensures,
    )
