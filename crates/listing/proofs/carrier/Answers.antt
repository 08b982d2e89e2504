-- `listing::carrier` meets its contract: the fields of the line, one after the other. Assumes nothing.
use Rattle.std.proofs.Common.{sym}
use Rattle.deck.specs.Listing.{decimal, text, text_from, carrier_line}
use Rattle.listing.proofs.Buffers.{appends_then, appends_field}
use Rattle.listing.proofs.carrier.Goals as goal

pub returns : goal.returns
unfolding carrier_line text text_from
returns c =
    rw (sym c.finish_of.ensures)
    (appends_then
    (appends_then
    (appends_then
    (appends_field (text " finish ") (decimal c.finish_of.result)
    (appends_field (text " task ") (decimal c.args.j.0) c.field.ensures c.field-2.ensures) c.field-3.ensures)
    c.push.ensures)
    c.spaced.ensures)
    c.push-2.ensures)
