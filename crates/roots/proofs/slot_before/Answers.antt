-- The derived order of candidates is that of the slots. Assumes nothing.
use Rattle.std.proofs.Common.{refl, ◌∙◌, rules}
use Rattle.candidates.proofs.Orders.{derived_earlier}
use Rattle.roots.proofs.slot_before.Goals as goal

pub returns : goal.returns
returns c =
    c.lt.ensures ∙ derived_earlier c.kept-first.result c.kept-second.result (search rules) (search rules) ∙ rw (c.kept-first.ensures, c.kept-second.ensures, c.at.ensures, c.at-2.ensures) refl
