-- Each place is looked for after itself.
use Rattle.std.proofs.Common.{rules, ◌+◌, not, refl, ◌∙◌, arith, length, get_or, drop}
use Rattle.std.proofs.lemmas.Iterator.{YieldsList-from_range}
use Rattle.std.proofs.lemmas.Iterator.Search.{all_from_yields_List}
use Rattle.deck.specs.Lists.{has}
use Rattle.sheet_parts.proofs.Scans.{distinct_from}
use Rattle.sheet_causes.proofs.all_differ.Goals as goal

pub returns : goal.returns
returns g c = λ l size read.
    all_from_yields_List (λ k. not (has (get_or l k 0) (drop (k + 1) l))) _ _ c.all.result c.all.ensures.ran
    (YieldsList-from_range 0 c.args.n (length l) refl (omega arith)) (λ k b q h. search (rules, read))
    ∙ distinct_from l 0 (length l) (omega arith)
