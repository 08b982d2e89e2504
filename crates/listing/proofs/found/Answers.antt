-- `listing::found` meets its contract: each arm is the listing of its case. Assumes nothing.
use Rattle.std.proofs.Common.{ap, sym, Ok}
use Rattle.deck.specs.Listing.{text, text_from, listing_for}
use Rattle.listing.specs.Listed.{listed}
use Rattle.listing.proofs.Buffers.{appends_same}
use Rattle.listing.proofs.found.Goals as goal

pub returns-in-Plan-clause-wrote : goal.returns-in-Plan-clause-wrote
unfolding listed listing_for text text_from
returns-in-Plan-clause-wrote c = appends_same (ap (λ x. listed c.args.s.now (Ok x) c.args.paths.now) (sym c.in-Plan.is)) c.plan.ensures.wrote

pub returns-in-NoPlan-clause-wrote : goal.returns-in-NoPlan-clause-wrote
unfolding listed listing_for text text_from
returns-in-NoPlan-clause-wrote c = appends_same (ap (λ x. listed c.args.s.now (Ok x) c.args.paths.now) (sym c.in-NoPlan.is)) c.line.ensures

pub returns-in-Spent-clause-wrote : goal.returns-in-Spent-clause-wrote
unfolding listed listing_for text text_from
returns-in-Spent-clause-wrote c = appends_same (ap (λ x. listed c.args.s.now (Ok x) c.args.paths.now) (sym c.in-Spent.is)) c.head.ensures
