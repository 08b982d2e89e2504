-- The greatest of the times of the records. Assumes nothing.
use Rattle.std.proofs.Common.{rules, ℕ, max, map, sym, ◌∙◌, ap, arith}
use Rattle.std.specs.List.{reduce}
use Rattle.std.proofs.lemmas.Iterator.{YieldsList-from_range, YieldsList-from_map}
use Rattle.std.proofs.lemmas.Iterator.Consumers.{max_from_yields_List}
use Rattle.deck.specs.Calls.{constraint_at, constraints_of}
use Rattle.meaning.proofs.Greatest.{greatest_reduced}
use Rattle.kernel.specs.Parts.{stay_after, stay_from}
use Rattle.bars.specs.Bars.{count_in}
use Rattle.bars.proofs.Records.{stay_times}
use Rattle.bars.proofs.stay_from.Goals as goal

pub returns : goal.returns
unfolding stay_from
returns c =
    let u = c.args in
    let number : ℕ → ℕ = λ k. stay_after u.carrier c.args.g (constraint_at u.records.now k) in
    let most = max_from_yields_List c.map.result c.max.result c.max.ensures.ran (YieldsList-from_map _ number (YieldsList-from_range 0 _ (count_in u.records.now) c.map.ensures.source (omega arith)) c.map.ensures.closure (λ x r q k. search rules)) in
    c.unwrap_or.ensures ∙ greatest_reduced (map (stay_after u.carrier c.args.g) (constraints_of u.records.now)) c.max.result (most ∙ ap (reduce max) (sym (stay_times u.records.now u.carrier c.args.g)))
