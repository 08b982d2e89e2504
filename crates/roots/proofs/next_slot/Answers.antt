-- `next_slot` meets its contract: the choice at number 0. Assumes nothing.
use Rattle.std.proofs.Common.{sym, subst}
use Rattle.roots.specs.Slots.{slots_at}
use Rattle.roots.specs.Choices.{ChosenOf}
use Rattle.roots.proofs.Winner.{winner_right}
use Rattle.roots.proofs.next_slot.Goals as goal

pub returns : goal.returns
returns c =
    let a = c.args in
    let w = a.work.now in
    λ table rest H. subst (ChosenOf a.m w H.roots (slots_at a.m w H.roots)) (sym c.win_of.ensures) (winner_right a.m w H.roots a.latest H.low H.tournament)
