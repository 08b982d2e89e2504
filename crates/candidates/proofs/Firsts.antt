-- What the solver finds on the weights of a table: by merged weights the first assignment in order, or that there is none. Assumes
-- nothing.
use Rattle.std.proofs.Common.{None, Some, refl, ℕ, ◌≤◌, ◌<◌, ◌≡◌, sym, ap, subst, ◌∙◌, Bool, true, false, List, mul-le-mul_left, arith, length, take, get_or-take, length-take-le}
use Rattle.std.proofs.Math.Decide.{ℕ_discrete}
use Rattle.std.proofs.Math.ListN.{get_or-append}
use Rattle.deck.specs.Lists.{below}
use Rattle.deck.specs.Assignments.{barred, entry_at, sum_of, least_assignment}
use Rattle.deck.specs.Calls.{task_list}
use Rattle.meaning.specs.Meaning.{◌at◌, Assignment}
use Rattle.meaning.proofs.Lists.{sum_same, mem_below}
use Rattle.prices.specs.Matching.{cost, AtMost, Tight}
use Rattle.prices.specs.Weights.{heavy, weigh, place, place_of, merged, weights, merged_weights}
use Rattle.prices.specs.Square.{cell, copied}
use Rattle.prices.proofs.Squares.{square_at}
use Rattle.prices.proofs.Duality.{OnTight, tight_least}
use Rattle.prices.proofs.First.{weigh_open, weigh_barred, light_unbarred, unbarred_cost, merged_none, merged_first}
use Rattle.hungarian.specs.Solving.{Light, Solved}
use Rattle.tables.specs.Copies.{weight_of, Weighed}
use Rattle.candidates.specs.Candidates.{candidate_for}
use Rattle.tables.proofs.Places.{places_right}

pub weigh_low : (e : ℕ) → e ≤ barred → weigh e ≤ heavy
weigh_low e h = go (ℕ_discrete e barred)
  where
    go : Dec (e ≡ barred) → weigh e ≤ heavy
    go (yes q) = omega (arith, weigh_barred e q)
    go (no q) = omega (arith, weigh_open e q)

weight_low : (merge : Bool) (i j e : ℕ) → i < 12 → j < 12 → e ≤ barred → weight_of merge i j e ≤ 9223372036854775807
unfolding merged place
weight_low false i j e li lj h = omega (arith, weigh_low e h)
weight_low true i j e li lj h =
    omega (arith, weigh_low e h, mul-le-mul_left j place_low, lj)
  where
    place_low : place_of i ≤ 61917364224
    place_low = rw (← (places_right i li).0) (places_right i li).1

module _ (m : ℕ) (small : m ≤ 12) (merge : Bool) (t w : List ℕ) (W : Weighed m merge t w) where
  -- the weights can be added in pairs
  pub weights_light : Light m w
  weights_light i j li lj =
      rw (W.each i j li lj) (weight_low merge i j (cell t i j) (omega arith) (omega arith) (W.words i j li lj))

  -- the entries of the table that t is the working copy of
  pub copied_at : (i j : ℕ) → i < m → j < m → entry_at m (copied m t) i j ≡ cell t i j
  copied_at i j li lj = square_at m (cell t) i j li lj

  pub copied_words : AtMost m (entry_at m (copied m t)) barred
  copied_words i j li lj = rw (copied_at i j li lj) (W.words i j li lj)

  -- an assignment's cost in the weights
  pub weights_cost : (a : List ℕ) → Assignment m a → cost m (cell w) a ≡ cost m (λ i j. weight_of merge i j (entry_at m (copied m t) i j)) a
  weights_cost a h = sum_same _ _ (below m) (λ i n.
      let li = (mem_below m).0 n in
      let lj = h.tasks i li in
      W.each i (a at i) li lj ∙ ap (weight_of merge i (a at i)) (sym (copied_at i (a at i) li lj)))

module _ (m : ℕ) (small : m ≤ 12) (w u v task carrier : List ℕ) (S : Solved m w m u v task carrier) where
  pub tasks_low : (i : ℕ) → i < m → task at i < 12
  tasks_low i li = omega (arith, S.matches.matched i li)

  pub tasks_long : length task ≡ 12
  tasks_long = S.sizes.2

  taken_at : (i : ℕ) → i < m → take m task at i ≡ task at i
  taken_at i li = get_or-take m task i 0 li

  own : (i : ℕ) → i < m → carrier at (task at i) ≡ i
  own i li = S.matches.carrier_of i li (S.matches.matched i li)

  -- all rows are matched: an assignment, on tight weights
  pub solved_assignment : Assignment m (take m task)
  solved_assignment = record {
    as_many = length-take-le m task (omega (arith, tasks_long));
    tasks = λ i li. rw (taken_at i li) (S.matches.matched i li);
    once = λ i j li lj e. sym (own i li) ∙ ap (◌at◌ carrier) (sym (taken_at i li) ∙ e ∙ taken_at j lj) ∙ own j lj;
  }

  pub solved_tight : OnTight m (cell w) (◌at◌ u) (◌at◌ v) S.matches.feasible (take m task)
  solved_tight i li =
      let l = S.matches.matched i li in
      let q = S.matches.carrier_of i li l in
      let t : Tight (cell w) (◌at◌ u) (◌at◌ v) i (task at i) = subst (λ (k : ℕ). Tight (cell w) (◌at◌ u) (◌at◌ v) k (task at i)) q (S.matches.tight (task at i) l (rw q li)) in
      rw (taken_at i li) t

  -- so one of least cost
  pub solved_least : (b : List ℕ) → Assignment m b → cost m (cell w) (take m task) ≤ cost m (cell w) b
  solved_least b k = tight_least m (cell w) (◌at◌ u) (◌at◌ v) S.matches.feasible (take m task) b solved_assignment solved_tight k

  -- the list of 12
  pub listed_at : (i : ℕ) → i < m → task_list (take m task) at i ≡ task at i
  listed_at i li = get_or-append (take m task) _ 0 i (omega (arith, solved_assignment.as_many)) ∙ taken_at i li

  -- the sum of the weights that the code reckons
  pub total_cost : (c : ℕ → ℕ → ℕ) → cost m c (task_list (take m task)) ≡ cost m c (take m task)
  total_cost c = sum_same _ _ (below m) (λ i n. let li = (mem_below m).0 n in ap (c i) (listed_at i li ∙ sym (taken_at i li)))

-- BY MERGED WEIGHTS
module _ (m : ℕ) (small : m ≤ 12) (t w u v task carrier : List ℕ) (W : Weighed m true t w) (S : Solved m w m u v task carrier)
    (s : ℕ) (sum_is_lem : s ≡ cost m (λ i j. weigh (cell t i j)) (task_list (take m task))) where
  abbrev table : List ℕ
  table = copied m t

  abbrev a : List ℕ
  a = take m task

  least : (b : List ℕ) → Assignment m b → cost m (merged_weights m table) a ≤ cost m (merged_weights m table) b
  least b k =
      rw (← weights_cost m small true t w W a (solved_assignment m small w u v task carrier S), ← weights_cost m small true t w W b k)
      (solved_least m small w u v task carrier S b k)

  weight_is : s ≡ cost m (weights m table) a
  weight_is =
      sum_is_lem ∙ total_cost m small w u v task carrier S (λ i j. weigh (cell t i j))
      ∙ sum_same _ _ (below m) (λ i n.
      let li = (mem_below m).0 n in
      ap weigh (sym (copied_at m small true t w W i (a at i) li ((solved_assignment m small w u v task carrier S).tasks i li))))

  pub first_none : heavy ≤ s → least_assignment m table ≡ None
  first_none h = merged_none m small table (copied_words m small true t w W) a (solved_assignment m small w u v task carrier S) least (rw weight_is at h)

  pub first_some : s < heavy → (least_assignment m table ≡ Some a) × (s ≡ sum_of m table a)
  first_some h =
      let l = rw weight_is at h in
      let words = copied_words m small true t w W in
      let A = solved_assignment m small w u v task carrier S in
      (merged_first m small table words a A least l, weight_is ∙ unbarred_cost m small table words a (light_unbarred m small table words a A l))

-- the answers
pub candidate_none : (m : ℕ) (table : List ℕ) → least_assignment m table ≡ None → candidate_for m table (least_assignment m table) ≡ None
unfolding candidate_for
candidate_none m table e = rw e refl

pub candidate_some : (m : ℕ) (table a : List ℕ) (s : ℕ) (tasks : List ℕ) → least_assignment m table ≡ Some a → s ≡ sum_of m table a → tasks ≡ task_list a
    → candidate_for m table (least_assignment m table) ≡ Some (record { sum = s; tasks = tasks })
unfolding candidate_for
candidate_some m table a s tasks e f g = rw (e, f, g) refl
