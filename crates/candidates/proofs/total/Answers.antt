-- `candidates::total` meets its contract. Assumes nothing.
use Rattle.std.proofs.Common.{ℕ, arith, ◌∙◌, rules}
use Rattle.std.proofs.lemmas.Grind.{common_steps}
use Rattle.std.proofs.lemmas.Option.{gets}
use Rattle.std.proofs.lemmas.Iterator.{YieldsList-from_range, YieldsList-from_map}
use Rattle.std.proofs.lemmas.Iterator.Adapters.{fits_from_length, at_most_from_yields_List}
use Rattle.std.proofs.lemmas.Iterator.Consumers.{sum_by_from_yields_List}
use Rattle.std.proofs.lemmas.List.FromFn.{length-range_with_len}
use Rattle.std.specs.List.{range_with_len}
use Rattle.meaning.specs.Meaning.{◌at◌}
use Rattle.prices.specs.Weights.{weigh}
use Rattle.prices.specs.Square.{cell}
use Rattle.candidates.proofs.Weighing.{cost_summed}
use Rattle.candidates.proofs.total.Goals as goal

pub sum-requires-clause-fits : goal.sum-requires-clause-fits
sum-requires-clause-fits c =
    fits_from_length _ _ 12 _ (at_most_from_yields_List (YieldsList-from_range 0 c.args.m c.args.m c.map.ensures.source (omega arith)) (omega (arith, length-range_with_len 0 c.args.m))) c.map.ensures.closure (omega arith) (λ x r q k. search rules)

pub returns : goal.returns
returns c =
    let own = λ (i : ℕ). weigh (cell c.args.t.now i (c.args.tasks.now at i)) in
    let all = sum_by_from_yields_List own (range_with_len 0 c.args.m) c.map.result c.sum.result c.sum.ensures.ran (YieldsList-from_map _ own (YieldsList-from_range 0 c.args.m c.args.m c.map.ensures.source (omega arith)) c.map.ensures.closure (λ x r q k. grind (arith, common_steps, gets))) in
    all ∙ cost_summed (λ i j. weigh (cell c.args.t.now i j)) c.args.tasks.now c.args.m
