-- By the slot. Assumes nothing.
use Rattle.std.proofs.Common.{List, ℕ, ◌∙◌, ap}
use Rattle.records.specs.Record.{slot_at}
use Rattle.roots.proofs.Choosing.{empty_slot, full_slot, no_slot, some_slot}
use Rattle.roots.proofs.better.Goals as goal

pub returns-in-None : goal.returns-in-None
returns-in-None c =
    let a = c.args in
    let none = c.in-None.ensures ∙ ap (λ (fs : List (List ℕ)). slot_at fs a.j) c.at.ensures in
    (no_slot a.work.now a.n a.j a.b (empty_slot _ _ none), c.requires.2)

pub returns-in-Some : goal.returns-in-Some
returns-in-Some c =
    let a = c.args in
    let some = c.in-Some.ensures ∙ ap (λ (fs : List (List ℕ)). slot_at fs a.j) c.at.ensures in
    (some_slot a.work.now a.n a.j a.b _ (full_slot _ _ _ some) c.first_of.ensures.0, c.first_of.ensures.1)
