-- The rows of the tree, the ways to them, and what the prices rise by. Assumes nothing.
use Rattle.std.proofs.Common.{Option, None, Some, ℕ, zero, suc, ◌+◌, ◌-◌, ◌≤◌, ◌<◌, ◌≡◌, refl, sym, ap, ◌∙◌, ◌⊎◌, inl, inr, ⊎_elim, ◌≢◌, Bool, true, false, List, [], ◌∷◌, not-suc-le-zero, eq-or-lt_of_le, le_of_suc-le-suc, add-one, arith, length, take, get_or, get_or-take, length-take-le, ◌++◌, set, length-set, get_or-set_same, get_or-set_other, eq-eqb, ne_eqb, lt-ltb, le-ltb}
use Rattle.std.proofs.Math.ListN.{get_or-append}
use Rattle.std.proofs.lemmas.Bool.{false≢true, cases_lt}
use Rattle.std.proofs.Math.Decide.{ℕ_discrete}
use Rattle.std.proofs.lemmas.List.{get_or-map}
use Rattle.meaning.specs.Meaning.{◌at◌}
use Rattle.prices.specs.Matching.{Put}
use Rattle.deck.specs.declared.Carrier.{Carrier}
use Rattle.deck.specs.declared.Task.{Task}
use Rattle.hungarian.specs.declared.Column.{Column}
use Rattle.hungarian.proofs.Columns.{blank, mark_at, near_at}
use Rattle.hungarian.specs.Solving.{task_number, carrier_number, task_numbers, carrier_numbers, marks, nears, marked, unmarked, in_tree, way_to, gain_of, row_gain}

pub put_set : {A : Type 0} (l : List A) (k : ℕ) (x d : A) → k < length l → Put (λ i. get_or l i d) k x (λ i. get_or (set l k x) i d)
put_set l k x d h = record { same = get_or-set_same l k x d h; other = λ i n. get_or-set_other l k i x d n }

-- the number of a pair that is read
pub task_at : (l : List (Option Task)) (i : ℕ) (o : Option Task) → i < length l → get_or l i None ≡ o → task_numbers l at i ≡ task_number o
task_at l i o h e = get_or-map task_number l i None 0 h ∙ ap task_number e

pub carrier_at : (l : List (Option Carrier)) (j : ℕ) (o : Option Carrier) → j < length l → get_or l j None ≡ o → carrier_numbers l at j ≡ carrier_number o
carrier_at l j o h e = get_or-map carrier_number l j None 0 h ∙ ap carrier_number e

-- one mark more
pub unmarked_set : (l : List Bool) (k : ℕ) → k < length l → marked l k ≡ false → suc (unmarked (set l k true)) ≡ unmarked l
unmarked_set [] k h e = absurd (not-suc-le-zero h)
unmarked_set (true ∷ l) zero h e = absurd (false≢true (sym e))
unmarked_set (false ∷ l) zero h e = refl
unmarked_set (true ∷ l) (suc k) h e = unmarked_set l k (le_of_suc-le-suc h) e
unmarked_set (false ∷ l) (suc k) h e = ap suc (unmarked_set l k (le_of_suc-le-suc h) e)

module _ (m r : ℕ) (task : List ℕ) (columns : List Bool) where
  pub tree_root : in_tree m r task columns r ≡ true
  unfolding in_tree
  tree_root = rw (eq-eqb r r refl)

  pub tree_column : (x : ℕ) → x ≢ r → task at x < m → in_tree m r task columns x ≡ marked columns (task at x)
  unfolding in_tree
  tree_column x n l = rw (ne_eqb x r n, lt-ltb (task at x) m l)

  pub tree_none : (x : ℕ) → x ≢ r → m ≤ task at x → in_tree m r task columns x ≡ false
  unfolding in_tree
  tree_none x n l = rw (ne_eqb x r n, le-ltb (task at x) m l)

  -- a row of the tree is r, or has a marked column
  pub tree_row : (x : ℕ) → in_tree m r task columns x ≡ true → (x ≡ r) ⊎ ((task at x < m) × (marked columns (task at x) ≡ true))
  tree_row x h = go (ℕ_discrete x r)
    where
      go : Dec (x ≡ r) → (x ≡ r) ⊎ ((task at x < m) × (marked columns (task at x) ≡ true))
      go (yes e) = inl e
      go (no e) = ⊎_elim (λ l. inr (l, sym (tree_column x e l) ∙ h)) (λ l. absurd (false≢true (sym (tree_none x e l) ∙ h))) (cases_lt (task at x) m)

pub way_root : (r : ℕ) (task near : List ℕ) → way_to r task near r ≡ 0
unfolding way_to
way_root r task near = rw (eq-eqb r r refl)

pub way_column : (r : ℕ) (task near : List ℕ) (x : ℕ) → x ≢ r → way_to r task near x ≡ near at (task at x)
unfolding way_to
way_column r task near x n = rw (ne_eqb x r n)

module _ (m r : ℕ) (task : List ℕ) (columns : List Bool) (near : List ℕ) (total x : ℕ) where
  pub gain_in : in_tree m r task columns x ≡ true → row_gain m r task columns near total x ≡ total - way_to r task near x
  unfolding row_gain
  gain_in h = rw h

  pub gain_out : in_tree m r task columns x ≡ false → row_gain m r task columns near total x ≡ 0
  unfolding row_gain
  gain_out h = rw h

  -- by the cases of the code
  pub gain_root : x ≡ r → total ≡ row_gain m r task columns near total x
  gain_root e =
      omega (arith, gain_in (ap (in_tree m r task columns) e ∙ tree_root m r task columns), ap (way_to r task near) e ∙ way_root r task near)

  pub gain_none : x ≢ r → m ≤ task at x → 0 ≡ row_gain m r task columns near total x
  gain_none n l = sym (gain_out (tree_none m r task columns x n l))

  pub gain_column : x ≢ r → task at x < m → gain_of (marked columns (task at x)) (near at (task at x)) total ≡ row_gain m r task columns near total x
  unfolding row_gain
  gain_column n l = rw (tree_column m r task columns x n l, way_column r task near x n)

-- the gain of a row that is not the root, by what is read of its task and that task's column
module _ (m r : ℕ) (tasks : List (Option Task)) (columns : List Column) (total x : ℕ) (other : x ≢ r) (long : x < length tasks) where
  pub gain_free : m ≤ 12 → get_or tasks x None ≡ None → 0 ≡ row_gain m r (task_numbers tasks) (marks columns) (nears columns) total x
  gain_free few e = gain_none m r (task_numbers tasks) (marks columns) (nears columns) total x other (omega (arith, task_at tasks x None long e))

  module _ (j : Task) (own : get_or tasks x None ≡ Some j) (low : j.0 < m) where
    number : task_numbers tasks at x ≡ j.0
    number = task_at tasks x (Some j) long own

    pub own_early : (in_tree m r (task_numbers tasks) (marks columns) x ≡ true → way_to r (task_numbers tasks) (nears columns) x ≤ total)
        → (get_or columns j.0 blank).marked ≡ true → (get_or columns j.0 blank).way.near ≤ total
    own_early h b =
        let e : in_tree m r (task_numbers tasks) (marks columns) x ≡ marked (marks columns) j.0 = tree_column m r (task_numbers tasks) (marks columns) x other (omega (arith, number)) ∙ ap (marked (marks columns)) number in
        let w : way_to r (task_numbers tasks) (nears columns) x ≡ nears columns at j.0 = way_column r (task_numbers tasks) (nears columns) x other ∙ ap (◌at◌ (nears columns)) number in
        omega (arith, h (e ∙ mark_at columns j.0 ∙ b), w, near_at columns j.0)

    pub gain_own : gain_of (get_or columns j.0 blank).marked (get_or columns j.0 blank).way.near total ≡ row_gain m r (task_numbers tasks) (marks columns) (nears columns) total x
    gain_own =
        rw (← mark_at columns j.0, ← near_at columns j.0, ← number)
        (gain_column m r (task_numbers tasks) (marks columns) (nears columns) total x other (omega (arith, number)))

-- the first n of old are raised by f, the others are as they were
pub record RaisedTo (f : ℕ → ℕ) (old : List ℕ) (n : ℕ) (new : List ℕ) : Type 0 where
  pub size : length new ≡ length old
  pub done : (k : ℕ) → k < n → new at k ≡ old at k + f k
  pub left : (k : ℕ) → n ≤ k → new at k ≡ old at k

pub raised_none : (f : ℕ → ℕ) (old : List ℕ) → RaisedTo f old 0 old
raised_none f old = record { size = refl; done = λ k l. absurd (not-suc-le-zero l); left = λ k l. refl }

pub raised_more : (f : ℕ → ℕ) (old : List ℕ) (n : ℕ) (new : List ℕ) (x : ℕ) → n < length new → x ≡ new at n + f n → RaisedTo f old n new
    → RaisedTo f old (n + 1) (set new n x)
raised_more f old n new x h e R = record {
  size = length-set new n x ∙ R.size;
  done = λ k l. ⊎_elim (λ q. rw q (get_or-set_same new n x 0 h ∙ e ∙ ap (λ (y : ℕ). y + f n) (R.left n (omega arith))))
      (λ g. get_or-set_other new n k x 0 (omega arith) ∙ R.done k g) (eq-or-lt_of_le (le_of_suc-le-suc (rw add-one at l)));
  left = λ k l. get_or-set_other new n k x 0 (omega arith) ∙ R.left k (omega arith);
}

-- of a list the first m, and the rest as it was
pub raised_all : (m : ℕ) (f : ℕ → ℕ) (old : List ℕ) (n : ℕ) (new rest : List ℕ) → m ≤ length old → m ≤ n → RaisedTo f (take m old) n new
    → (k : ℕ) → k < m → (new ++ rest) at k ≡ old at k + f k
raised_all m f old n new rest long h R k l =
    get_or-append new rest 0 k (omega (arith, R.size, length-take-le m old long)) ∙ R.done k (omega arith) ∙ ap (λ (y : ℕ). y + f k) (get_or-take m old k 0 l)
