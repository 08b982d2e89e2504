-- `listing::listing` meets its contract. Assumes nothing.
use Rattle.std.proofs.Common.{ap, sym, ◌++◌, ◌∙◌}
use Rattle.deck.specs.Listing.{decimal, text, text_from, listing_for}
use Rattle.listing.specs.Listed.{listed}
use Rattle.listing.proofs.Buffers.{appends_same}
use Rattle.listing.proofs.listing.Goals as goal

pub returns-in-Err-clause-wrote : goal.returns-in-Err-clause-wrote
unfolding listed listing_for text text_from
returns-in-Err-clause-wrote c =
    appends_same (ap (λ n. text "refused " ++ decimal n ++ text "\n") (c.from-in-Err.ensures ∙ c.from.ensures) ∙ ap (λ x. listed c.args.s.now x c.args.paths.now) (sym c.in-Err.is)) c.line.ensures
