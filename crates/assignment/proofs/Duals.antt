-- Prices that serve the least assignment: those of the solver on plain weights, or rounded ones that pass the test. Row plus column
-- price is then at most each entry that is not barred, and equals it on the chosen ones. Assumes nothing.
use Rattle.std.proofs.Common.{ℕ, ◌+◌, ◌≤◌, ◌<◌, ◌≡◌, sym, ap, subst, ◌∙◌, ◌⊎◌, inl, inr, ⊎_elim, ◌≢◌, false, List, Some, arith, get_or, take, pos, ◌+ℤ◌, ◌-ℤ◌, ◌≤ℤ◌}
use Rattle.std.proofs.lemmas.Bool.{cases_lt}
use Rattle.std.proofs.Math.ListN.{get_or-append}
use Rattle.std.proofs.Math.IntN.{ℤ, -ℤ-+ℤ_cancel}
use Rattle.deck.specs.Assignments.{barred, entry_at, sum_of, least_assignment}
use Rattle.deck.specs.Calls.{task_list}
use Rattle.meaning.specs.Meaning.{◌at◌, Assignment, Unbarred, Less}
use Rattle.meaning.proofs.Assignments.{least_assignment_meant}
use Rattle.prices.specs.Matching.{cost, AtMost}
use Rattle.prices.specs.Weights.{heavy, weigh, weights}
use Rattle.prices.specs.Square.{cell, copied}
use Rattle.prices.proofs.Squares.{square_at}
use Rattle.prices.proofs.Duality.{least_tight}
use Rattle.prices.proofs.First.{weigh_open, light_unbarred, unbarred_cost, unbarred_light}
use Rattle.hungarian.specs.Solving.{Solved}
use Rattle.tables.specs.Copies.{Weighed}
use Rattle.assignment.specs.Answers.{dearest, highest, rounded, row_of, column_of, rounded_column, tight_of, Prices, Serves, Handed}
use Rattle.candidates.proofs.Firsts.{weigh_low, copied_at, copied_words, weights_cost, solved_assignment, solved_tight}
use Rattle.assignment.proofs.Priced.{neg_below, dual_le, dual_tight}

module _ (m : ℕ) (small : m ≤ 12) (t w u v task carrier : List ℕ) (W : Weighed m false t w) (S : Solved m w m u v task carrier) where
  abbrev table : List ℕ
  table = copied m t

  abbrev words : AtMost m (entry_at m table) barred
  words = copied_words m small false t w W

  -- a plain weight is that of its entry
  weight_at_lem : (i j : ℕ) → i < m → j < m → cell w i j ≡ weigh (entry_at m table i j)
  weight_at_lem i j li lj = W.each i j li lj ∙ ap weigh (sym (copied_at m small false t w W i j li lj))

  -- no price is above the heaviest weight
  prices_low : (k : ℕ) → k < m → (u at k ≤ heavy) × (v at k ≤ heavy)
  prices_low k lk = S.bounded heavy (λ i j li lj. rw (weight_at_lem i j li lj) (weigh_low (entry_at m table i j) (words i j li lj))) k lk

  module _ (a : List ℕ) (least : least_assignment m table ≡ Some a) where
    open_a : Unbarred m table a
    open_a = (least_assignment_meant m table a least).0

    light : cost m (weights m table) a ≡ sum_of m table a
    light = unbarred_cost m small table words a open_a

    no_heavier : cost m (cell w) a ≤ cost m (cell w) (take m task)
    no_heavier =
        rw (weights_cost m small false t w W a open_a.0, weights_cost m small false t w W b B)
        (⊎_elim
        (λ l. let o = light_unbarred m small table words b B l in go o ((least_assignment_meant m table a least).1 b o))
        (λ l. omega (arith, unbarred_light m small table words a open_a, l)) (cases_lt (cost m (weights m table) b) heavy))
      where
        b : List ℕ
        b = take m task

        B : Assignment m b
        B = solved_assignment m small w u v task carrier S

        go : Unbarred m table b → (b ≡ a) ⊎ Less m table a b → cost m (weights m table) a ≤ cost m (weights m table) b
        go o (inl e) = rw e (omega arith)
        go o (inr (inl l)) = omega (arith, light, unbarred_cost m small table words b o, l)
        go o (inr (inr (e, l))) = omega (arith, light, unbarred_cost m small table words b o, e)

    -- so the least assignment is on tight entries
    tight : (i : ℕ) → i < m → u at i ≡ entry_at m table i (a at i) + v at (a at i)
    tight i li =
        let lj = open_a.0.tasks i li in
        least_tight m (cell w) (◌at◌ u) (◌at◌ v) S.matches.feasible (take m task) a (solved_assignment m small w u v task carrier S) (solved_tight m small w u v task carrier S) open_a.0 no_heavier i li
        ∙ ap (λ (x : ℕ). x + v at (a at i)) (weight_at_lem i (a at i) li lj ∙ weigh_open (entry_at m table i (a at i)) (open_a.1 i li))

    pub solved_serves : Serves m table a u v
    solved_serves = record {
      feasible = λ i j li lj. rw (← weight_at_lem i j li lj) (S.matches.feasible i j li lj);
      tight = tight;
    }

    pub solved_low : (k : ℕ) → k < m → (u at k ≤ dearest) × (v at k ≤ dearest)
    solved_low k lk = let p = prices_low k lk in (omega arith, omega arith)

-- THE SECOND RUN'S PRICES, as they are handed out
module _ (m : ℕ) (table u v a : List ℕ) (least : least_assignment m table ≡ Some a) (P : Serves m table a u v)
    (rows columns : List ℤ) (R : Prices m highest (row_of u) rows) (C : Prices m dearest (column_of v) columns) where
  pub solved_handed : Handed m table a rows columns
  solved_handed = record {
    priced = record {
      feasible = λ i j li lj n. rw (R.each i li, C.each j lj)
          (dual_le (u at i) (v at j) (entry_at m table i j) (omega (arith, P.feasible i j li lj, weigh_open (entry_at m table i j) n)));
      tight = λ i li. rw (R.each i li, C.each (a at i) ((least_assignment_meant m table a least).0.0.tasks i li))
          (dual_tight (u at i) (v at (a at i)) (entry_at m table i (a at i)) (P.tight i li));
      below = λ j lj. rw (C.each j lj) (neg_below (v at j));
    };
    small = (R.small, C.small);
    zero = (R.zero, C.zero);
  }

-- ROUNDED PRICES that pass the test
module _ (m : ℕ) (t tasks a : List ℕ) (least : least_assignment m (copied m t) ≡ Some a) (own : tasks ≡ task_list a) where
  meant : Unbarred m (copied m t) a
  meant = (least_assignment_meant m (copied m t) a least).0

  tasks_at : (i : ℕ) → i < m → tasks at i ≡ a at i
  tasks_at i li = rw own (get_or-append a _ 0 i (rw meant.0.as_many li))

  pub tasks_few : (i : ℕ) → i < m → tasks at i < m
  tasks_few i li = omega (arith, tasks_at i li, meant.0.tasks i li)

  module _ (merged : List ℕ) (rows columns : List ℤ) (C : Prices m dearest (rounded_column merged) columns) (R : Prices m highest (tight_of t tasks columns) rows)
      (F : (i j : ℕ) → i < m → j < m → (get_or rows i (pos 0) +ℤ get_or columns j (pos 0)) ≤ℤ pos (weigh (cell t i j))) where
    rounded_feasible : (i j : ℕ) → i < m → j < m → entry_at m (copied m t) i j ≢ barred → (get_or rows i (pos 0) +ℤ get_or columns j (pos 0)) ≤ℤ pos (entry_at m (copied m t) i j)
    rounded_feasible i j li lj n =
        let e = square_at m (cell t) i j li lj in
        subst (λ (x : ℕ). (get_or rows i (pos 0) +ℤ get_or columns j (pos 0)) ≤ℤ pos x) (ap weigh (sym e) ∙ weigh_open (entry_at m (copied m t) i j) n) (F i j li lj)

    rounded_tight : (i : ℕ) → i < m → (get_or rows i (pos 0) +ℤ get_or columns (a at i) (pos 0)) ≡ pos (entry_at m (copied m t) i (a at i))
    rounded_tight i li =
        let q = tasks_at i li in
        let e = square_at m (cell t) i (a at i) li (meant.0.tasks i li) in
        let row : get_or rows i (pos 0) ≡ (pos (cell t i (a at i)) -ℤ get_or columns (a at i) (pos 0)) = R.each i li ∙ ap (λ (k : ℕ). pos (cell t i k) -ℤ get_or columns k (pos 0)) q in
        ap (λ (z : ℤ). z +ℤ get_or columns (a at i) (pos 0)) row ∙ -ℤ-+ℤ_cancel (pos (cell t i (a at i))) (get_or columns (a at i) (pos 0)) ∙ ap pos (sym e)

    pub rounded_handed : Handed m (copied m t) a rows columns
    rounded_handed = record {
      priced = record { feasible = rounded_feasible; tight = rounded_tight; below = λ j lj. rw (C.each j lj) (neg_below (rounded (merged at j))) };
      small = (R.small, C.small);
      zero = (R.zero, C.zero);
    }
