-- `Text::number` meets its contract: the digits of the tenth part come first. Assumes nothing.
use Rattle.std.proofs.Common.{sym, ap, ◌∙◌, [], ◌∷◌, ◌++◌, ◌/◌}
use Rattle.deck.specs.Listing.{decimal}
use Rattle.listing.proofs.Buffers.{appends_same, appends_then}
use Rattle.listing.proofs.Decimals.{one_digit, more_digits}
use Rattle.listing.proofs.text.Text.+number.Goals as goal

pub returns-then-n-lt10 : goal.returns-then-n-lt10
returns-then-n-lt10 t c = appends_same (ap (λ x. x ∷ []) c.digit.ensures ∙ sym (one_digit c.args.n c.if-n-lt10.true)) c.push.ensures

pub returns : goal.returns
returns t c =
    appends_same (ap (λ x. decimal (c.args.n / 10) ++ (x ∷ [])) c.digit-2.ensures ∙ sym (more_digits c.args.n c.if-n-lt10.false))
    (appends_then c.number.ensures c.push-2.ensures)
