-- A slot remains, or no assignment. Assumes nothing.
use Rattle.std.proofs.Common.{sym, subst}
use Rattle.prices.specs.Square.{copied}
use Rattle.roots.specs.Tournament.{FirstSlot}
use Rattle.roots.proofs.Made.{nothing_left}
use Rattle.in_order.specs.Listed.{Taken}
use Rattle.in_order.proofs.take_next.Goals as goal

pub returns-in_err-chosen : goal.returns-in_err-chosen
returns-in_err-chosen c =
    let a = c.args in
    let table = copied a.m a.t.now in
    λ rest h. subst (Taken a.m table a.work.now a.made rest) (sym c.from_residual.ensures)
    (nothing_left a.m table a.work.now a.made rest c.requires.0 h (subst (FirstSlot a.m a.work.now a.made) c.in_err-chosen.was c.next_slot.ensures))
