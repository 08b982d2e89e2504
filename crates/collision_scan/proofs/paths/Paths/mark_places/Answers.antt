-- The marks of the carriers passed are those of t. Assumes nothing.
use Rattle.std.proofs.Common.{refl, arith}
use Rattle.collision_scan.proofs.Marks.{marking_more, marking_all}
use Rattle.collision_scan.proofs.paths.Paths.mark_places.Goals as goal

pub loop-i-preserved : goal.loop-i-preserved
loop-i-preserved c =
    marking_more _ _ _ _ _ refl _ _ c.loop-i.invariant _ _ c.place-v.ensures (omega arith) (rw c.saturating_sub-s.ensures at (c.free.ensures c.if-not-free.false)) refl

pub returns : goal.returns
returns c = λ _. marking_all _ _ _ _ _ refl _ _ (omega arith) c.loop-i.invariant
