-- No number around a place passed is too great by more than `worst`. Assumes nothing.
use Rattle.std.proofs.Common.{arith, eqb-true}
use Rattle.bounds.proofs.Test.{passed_more, none_over}
use Rattle.bounds.proofs.grid.Grid.even_by.Goals as goal

pub loop-p-preserved : goal.loop-p-preserved
loop-p-preserved g c =
    passed_more _ _ _ _ c.loop-p.p c.loop-p.worst c.counts-above.result c.counts-left.result c.counts-right.result c.counts-below.result _ c.loop-p.invariant (omega arith) (omega arith)
    c.counts-above.ensures c.counts-left.ensures c.counts-right.ensures c.counts-below.ensures (cc)

pub returns : goal.returns
returns g c = λ z. none_over c.loop-p.invariant (eqb-true _ _ z) _ _ (omega arith) (omega arith)
