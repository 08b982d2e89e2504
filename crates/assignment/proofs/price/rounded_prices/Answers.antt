-- `assignment::price::rounded_prices` meets its contract. Assumes nothing.
use Rattle.std.proofs.Common.{arith, rules}
use Rattle.meaning.specs.Meaning.{◌at◌}
use Rattle.assignment.specs.Answers.{rounded}
use Rattle.assignment.proofs.Priced.{neg_small, prices_made}
use Rattle.assignment.proofs.price.rounded_prices.Goals as goal

pub returns : goal.returns
returns c = prices_made _ _ _ _ (λ k l. let h = c.prices.ensures.each k l in search rules)
    (λ k l. omega (arith, neg_small (rounded (c.args.columns.now at k)), c.fits-columns k)) c.prices.ensures.zero
