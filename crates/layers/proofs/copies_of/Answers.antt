-- `copies_of` meets its contract: the masks passed are copies. Assumes nothing.
use Rattle.std.proofs.Common.{arith}
use Rattle.layers.proofs.Copying.{copied_more}
use Rattle.layers.proofs.copies_of.Goals as goal

pub loop-k-preserved : goal.loop-k-preserved
loop-k-preserved c = (omega arith, c.loop-k.invariant.1, copied_more c.loop-k.k (omega arith) (omega arith) c.loop-k.invariant.1 c.loop-k.invariant.2 c.copy_from_slice.ensures.after)
