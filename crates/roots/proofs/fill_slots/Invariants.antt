-- The slots of carriers below j are filled. Assumes nothing.
use Rattle.prices.specs.Square.{copied}
use Rattle.roots.proofs.Filling.{Sofar}
use Rattle.roots.proofs.fill_slots.Given as goal

abbrev pub invariant-loop-j : goal.invariant-loop-j
invariant-loop-j l = Sofar l.m (copied l.m l.t) l.initial.work l.n l.work l.j
