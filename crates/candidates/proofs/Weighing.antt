-- Sums of weights carrier by carrier, and the list of 12. Assumes nothing.
use Rattle.std.proofs.Common.{Option, None, Some, IsSome, rules, get_or, ℕ, ◌+◌, ◌≤◌, ◌<◌, ◌≡◌, refl, sym, ap, ◌∙◌, List, [], ◌∷◌, map, arith, length, take, drop, ◌++◌, set, replicate, length-take-le}
use Rattle.std.proofs.lemmas.List.{take_all, take_more, take_more_set, drop-replicate}
use Rattle.std.specs.List.{sum_by, range_with_len}
use Rattle.std.proofs.lemmas.List.Sums.{sum_by-cons}
use Rattle.deck.specs.Lists.{sum}
use Rattle.meaning.proofs.Iterators.{range_same}
use Rattle.deck.specs.Calls.{task_list}
use Rattle.deck.specs.declared.Task.{Task}
use Rattle.hungarian.specs.Solving.{task_numbers}
use Rattle.hungarian.proofs.Gains.{task_at}
use Rattle.meaning.specs.Meaning.{◌at◌}
use Rattle.prices.specs.Matching.{cost}

-- the sum over the carriers, as the definition adds up
summed : (h : ℕ → ℕ) (l : List ℕ) → sum_by h l ≡ sum (map h l)
summed h [] = refl
summed h (x ∷ l) = sum_by-cons h x l ∙ ap (λ s. h x + s) (summed h l)

pub cost_summed : (c : ℕ → ℕ → ℕ) (a : List ℕ) (m : ℕ) → sum_by (λ i. c i (a at i)) (range_with_len 0 m) ≡ cost m c a
cost_summed c a m = summed (λ i. c i (a at i)) (range_with_len 0 m) ∙ ap (λ l. sum (map (λ i. c i (a at i)) l)) (range_same 0 m)

-- a carrier whose task's number is below 12 has a task
pub some_task : (l : List (Option Task)) (i : ℕ) → i < length l → task_numbers l at i < 12 → IsSome (get_or l i None)
some_task l i h low = go (get_or l i None) refl
  where
    go : (o : Option Task) → get_or l i None ≡ o → IsSome o
    go None e = absurd (omega (arith, task_at l i None h e, low))
    go (Some j) e = search rules

-- one task more is listed
pub listed_more : (task tasks : List ℕ) (i x : ℕ) → i < length tasks → i < length task → x ≡ task at i → take i tasks ≡ take i task → take (i + 1) (set tasks i x) ≡ take (i + 1) task
listed_more task tasks i x h k e t = take_more_set tasks i x h ∙ rw (e, t) (sym (take_more task i 0 k))

-- the tasks of m carriers are, and 255 follows
pub listed_all : (m i : ℕ) (task tasks : List ℕ) → m ≤ 12 → length task ≡ 12 → i ≡ m → length tasks ≡ m → take i tasks ≡ take i task → tasks ++ drop m (replicate 12 255) ≡ task_list (take m task)
listed_all m i task tasks few long e size t =
    let whole : tasks ≡ take m task = sym (take_all i tasks (omega arith)) ∙ t ∙ ap (λ k. take k task) e in
    let l : length (take m task) ≡ m = length-take-le m task (omega arith) in
    rw (whole, drop-replicate {X = ℕ} m 12 255, l) refl
