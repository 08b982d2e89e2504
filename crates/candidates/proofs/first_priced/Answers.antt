-- `candidates::first_priced` meets its contract. Assumes nothing.
use Rattle.std.proofs.Common.{sym}
use Rattle.candidates.proofs.Firsts.{weights_light, tasks_low, listed_at, first_none, first_some, candidate_none, candidate_some}
use Rattle.candidates.proofs.first_priced.Goals as goal

pub solve-solution-requires : goal.solve-solution-requires
solve-solution-requires c = (c.requires, weights_light _ c.requires _ _ _ c.merged_weights-weights.ensures)

pub total-sum-requires : goal.total-sum-requires
total-sum-requires c =
    let S = c.solve-solution.ensures in
    (c.requires, λ i li. rw (c.listed-tasks.ensures, listed_at _ c.requires _ _ _ _ _ S i li) (tasks_low _ c.requires _ _ _ _ _ S i li))

pub returns-then-sum-ge-HEAVY : goal.returns-then-sum-ge-HEAVY
returns-then-sum-ge-HEAVY c =
    let S = c.solve-solution.ensures in
    let s = rw c.listed-tasks.ensures at c.total-sum.ensures in
    sym (candidate_none _ _ (first_none _ c.requires _ _ _ _ _ _ c.merged_weights-weights.ensures S _ s c.if-sum-ge-HEAVY.true))

pub returns : goal.returns
returns c =
    let S = c.solve-solution.ensures in
    let s = rw c.listed-tasks.ensures at c.total-sum.ensures in
    let f = first_some _ c.requires _ _ _ _ _ _ c.merged_weights-weights.ensures S _ s c.if-sum-ge-HEAVY.false in
    sym (candidate_some _ _ _ _ _ f.0 f.1 c.listed-tasks.ensures)
