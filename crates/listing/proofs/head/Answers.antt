-- `listing::head` meets its contract: two labels with their numbers, then the end of the line. Assumes nothing.
use Rattle.deck.specs.Listing.{decimal, text, text_from}
use Rattle.listing.proofs.Buffers.{appends_then, appends_field}
use Rattle.listing.proofs.head.Goals as goal

pub returns : goal.returns
unfolding text text_from
returns c =
    appends_then (appends_field (text " nodes ") (decimal c.args.nodes) c.field.ensures c.field-2.ensures) c.push.ensures
