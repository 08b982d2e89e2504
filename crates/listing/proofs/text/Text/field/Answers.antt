-- `Text::field` meets its contract: the label, then the number. Assumes nothing.
use Rattle.listing.proofs.Buffers.{appends_then}
use Rattle.listing.proofs.text.Text.field.Goals as goal

pub returns : goal.returns
returns c = appends_then c.push.ensures c.number.ensures
