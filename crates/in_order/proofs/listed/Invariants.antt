-- The first `made` assignments are listed. Assumes nothing.
use Rattle.prices.specs.Square.{copied}
use Rattle.in_order.proofs.Progress.{Progress}
use Rattle.in_order.proofs.listed.Given as goal

abbrev pub invariant-loop-made : goal.invariant-loop-made
invariant-loop-made l = Progress l.m (copied l.m l.t) l.work l.made l.initial.lists l.lists
