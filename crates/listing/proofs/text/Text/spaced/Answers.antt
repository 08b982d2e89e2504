-- `Text::spaced` meets its contract. Assumes nothing.
use Rattle.std.proofs.Common.{ℕ, rules, take, List, ◌∷◌, ◌++◌, ap, sym, ◌∙◌, arith, ◌≡◌}
use Rattle.deck.specs.Lists.{each}
use Rattle.deck.specs.Listing.{decimal, text, text_from, spaced}
use Rattle.listing.proofs.Buffers.{appends_none, appends_same, appends_then}
use Rattle.std.proofs.lemmas.List.{nil_from_length}
use Rattle.listing.proofs.Lines.{spaced_out, spaced_more, spaced_all}
use Rattle.listing.proofs.text.Text.spaced.Goals as goal

pub loop-other-preserved : goal.loop-other-preserved
unfolding text text_from
loop-other-preserved c =
    let so_far : List ℕ = each spaced_out (take c.loop-other.other-index c.in-Some.others.now) in
    appends_same (ap (λ x. so_far ++ (text " " ++ decimal x)) c.from-in-loop-other.ensures ∙ spaced_more c.in-Some.others.now c.loop-other.other-index (omega arith))
    (appends_then c.loop-other.invariant c.field.ensures)

pub returns-after-loop-other : goal.returns-after-loop-other
returns-after-loop-other c =
    let e : c.args.numbers.now ≡ c.from.result ∷ c.in-Some.others.now = search rules in
    appends_same (spaced_all c.from.result c.in-Some.others.now c.loop-other.other-index (omega arith) ∙ ap spaced (sym e)) (appends_then c.number.ensures c.loop-other.invariant)

pub returns-in_default : goal.returns-in_default
unfolding spaced
returns-in_default c = rw (nil_from_length _ (c.in_default.ensures {u = tt}).cases) (appends_none c.args.self.now)
