-- `listing::line` meets its contract: a label with its number, then the end of the line. Assumes nothing.
use Rattle.deck.specs.Listing.{text, text_from}
use Rattle.listing.proofs.Buffers.{appends_then}
use Rattle.listing.proofs.line.Goals as goal

pub returns : goal.returns
unfolding text text_from
returns c = appends_then c.field.ensures c.push.ensures
