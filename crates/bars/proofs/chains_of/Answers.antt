-- `chains_of` meets its contract: the records passed are linked. Assumes nothing.
use Rattle.std.proofs.Common.{refl, arith}
use Rattle.bars.proofs.Walks.{linked_none}
use Rattle.bars.proofs.chains_of.Goals as goal

pub loop-k-init : goal.loop-k-init
loop-k-init c = (omega arith, linked_none _ _ _, refl)
