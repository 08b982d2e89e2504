-- `listing::plan` meets its contract: the first line and the lines of the carriers. Assumes nothing.
use Rattle.std.proofs.Common.{◌≡◌, None, rules}
use Rattle.deck.specs.Sheet.{sheet_cause}
use Rattle.deck.specs.Listing.{text, text_from}
use Rattle.listing.proofs.Buffers.{appends_then}
use Rattle.listing.proofs.plan.Goals as goal

pub returns-then-is_ok-clause-wrote : goal.returns-then-is_ok-clause-wrote
unfolding text text_from
returns-then-is_ok-clause-wrote c = let ok : sheet_cause c.args.s.now ≡ None = search rules in rw ok (appends_then c.head.ensures c.carriers.ensures)
