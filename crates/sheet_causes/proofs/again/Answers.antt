-- Each place from `from` on is compared with x.
use Rattle.std.proofs.Common.{rules, ◌-◌, refl, ◌∙◌, arith, eqb, length, get_or}
use Rattle.std.proofs.lemmas.Iterator.{YieldsList-from_range}
use Rattle.std.proofs.lemmas.Iterator.Search.{any_from_yields_List}
use Rattle.sheet_parts.proofs.Scans.{has_from}
use Rattle.sheet_causes.proofs.again.Goals as goal

pub returns : goal.returns
returns g c = λ l size read.
    any_from_yields_List (λ k. eqb c.args.x (get_or l k 0)) _ _ c.any.result c.any.ensures.ran
    (YieldsList-from_range c.args.from c.args.n (length l - c.args.from) refl (omega arith)) (λ k b q h. search (rules, read))
    ∙ has_from c.args.x l c.args.from (length l - c.args.from) refl
