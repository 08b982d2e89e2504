-- `listing::list` meets its contract: 20480 bytes hold the listing of every answer whole. Assumes nothing.
use Rattle.std.proofs.Common.{rules}
use Rattle.listing.proofs.Sizes.{whole}
use Rattle.listing.proofs.list.Goals as goal

pub returns-clause-whole : goal.returns-clause-whole
returns-clause-whole c = whole c.args.s.now c.args.paths.now (λ k. (c.type_inv.paths k).fits) c.args.answer c.listing.ensures.numbers (search rules)
