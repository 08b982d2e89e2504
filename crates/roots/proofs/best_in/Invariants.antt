-- The slots that are left come to the same choice. Assumes nothing.
use Rattle.std.proofs.Common.{◌≡◌, ◌-◌, length}
use Rattle.deck.specs.Lists.{count_from}
use Rattle.roots.specs.Choices.{over_slots, Inside}
use Rattle.roots.proofs.best_in.Given as goal

abbrev pub invariant-loop-j : goal.invariant-loop-j
invariant-loop-j l = record {
  choice : over_slots l.work l.n (count_from l.j (l.m - l.j)) l.best ≡ over_slots l.work l.n (count_from l.row (l.m - l.row)) l.initial.best;
  inside : Inside (length l.work) l.best;
}
