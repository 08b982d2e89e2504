-- `assignment::price::Duals::solved` meets its contract. Assumes nothing.
use Rattle.std.proofs.Common.{arith, rules}
use Rattle.std.proofs.iter.Serving.{serving}
use Rattle.std.proofs.lemmas.Grind.{common_steps}
use Rattle.meaning.specs.Meaning.{◌at◌}
use Rattle.assignment.proofs.Priced.{neg_small, prices_made}
use Rattle.candidates.proofs.Firsts.{weights_light}
use Rattle.assignment.proofs.Duals.{solved_serves, solved_low, solved_handed}
use Rattle.assignment.proofs.price.Duals.solved.Goals as goal

pub solve-requires : goal.solve-requires
solve-requires c = (c.requires.0, weights_light _ c.requires.0 _ _ _ c.weights-weights.ensures)

pub prices-rows-requires-clause-callable : goal.prices-rows-requires-clause-callable
prices-rows-requires-clause-callable c = λ k l.
    let s = (solved_low _ c.requires.0 _ _ _ _ _ _ c.weights-weights.ensures c.solve.ensures c.requires.1.0 c.requires.1.1 k l).0 in
    grind (serving, s)

pub prices-columns-requires-clause-callable : goal.prices-columns-requires-clause-callable
prices-columns-requires-clause-callable c = λ k l.
    let s = (solved_low _ c.requires.0 _ _ _ _ _ _ c.weights-weights.ensures c.solve.ensures c.requires.1.0 c.requires.1.1 k l).1 in
    search (rules, s)

pub returns : goal.returns
returns c = λ a least.
    let low = solved_low _ c.requires.0 _ _ _ _ _ _ c.weights-weights.ensures c.solve.ensures a least in
    let rows = prices_made _ _ _ _ (λ k l. let h = c.prices-rows.ensures.each k l in grind (arith, common_steps)) (λ k l. omega (arith, low k l)) c.prices-rows.ensures.zero in
    let columns = prices_made _ _ _ _ (λ k l. let h = c.prices-columns.ensures.each k l in grind (arith, common_steps)) (λ k l. omega (arith, neg_small (c.solve.result.prices.columns at k), low k l)) c.prices-columns.ensures.zero in
    solved_handed _ _ _ _ a least (solved_serves _ c.requires.0 _ _ _ _ _ _ c.weights-weights.ensures c.solve.ensures a least) _ _ rows columns
