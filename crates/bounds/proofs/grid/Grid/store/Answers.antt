-- The rows passed are copied. Assumes nothing.
use Rattle.std.proofs.Common.{arith}
use Rattle.bounds.proofs.Rows.{rows_more}
use Rattle.bounds.proofs.grid.Grid.store.Goals as goal

pub loop-y-preserved : goal.loop-y-preserved
loop-y-preserved c = rows_more _ _ _ _ (omega arith) c.loop-y.y c.loop-y-test.true (omega arith) (omega arith) _ _ c.requires c.told-layer c.loop-y.invariant _ (omega arith) _ c.copy_from_slice.ensures.after
