-- The slots of a part from which an assignment is taken: they hold the others, and no two have one in common. Assumes nothing.
use Rattle.std.proofs.Common.{ℕ, zero, suc, ◌≤◌, ◌<◌, ◌≡◌, refl, sym, ap, subst, ◌∙◌, ◌⊎◌, inl, inr, ⊎_elim, ◌≢◌, Bool, true, false, cond, List, not-suc-le-zero, eq-or-lt_of_le, le_of_suc-le-suc, le_refl, arith, length, set, length-set, ext_get_or, get_or-set_same, get_or-set_other, eqb, eqb-true, eq-eqb}
use Rattle.std.proofs.lemmas.Bool.{cases_lt}
use Rattle.std.proofs.Math.Decide.{ℕ_discrete}
use Rattle.meaning.specs.Meaning.{◌at◌, Assignment}
use Rattle.meaning.proofs.Lists.{get_or_same}
use Rattle.partition.specs.Parts.{Part, InPart, none_closed, slot_part}

-- the closed tasks of slot j, before the task of a is closed too
abbrev closed_before : ℕ → List ℕ → ℕ → List ℕ
closed_before k ts j = cond (eqb j k) ts none_closed

closed_long : (k : ℕ) (ts : List ℕ) (j : ℕ) → length ts ≡ 12 → length (closed_before k ts j) ≡ 12
closed_long k ts j e = go (eqb j k)
  where
    go : (b : Bool) → length (cond b ts none_closed) ≡ 12
    go true = e
    go false = refl

pub none_closed_lem : (x : ℕ) → none_closed at x ≡ 0
none_closed_lem x = get_or_same 0 12 x

-- what it is to be in slot j: the tasks of a before carrier j, and another task for carrier j, not closed where j is the part's row
pub record InSlot (a : List ℕ) (k : ℕ) (ts : List ℕ) (j : ℕ) (x : List ℕ) : Type 0 where
  pub same : (i : ℕ) → i < j → x at i ≡ a at i
  pub differs : x at j ≢ a at j
  pub opened : j ≡ k → ts at (x at j) ≡ 0

module _ (a : List ℕ) (k : ℕ) (ts : List ℕ) (j : ℕ) (long : length ts ≡ 12) (low : a at j < 12) where
  own_closed : set (closed_before k ts j) (a at j) 1 at (a at j) ≡ 1
  own_closed = get_or-set_same (closed_before k ts j) (a at j) 1 0 (rw (closed_long k ts j long) low)

  pub of_slot : (x : List ℕ) → InPart (slot_part a k ts j) x → InSlot a k ts j x
  of_slot x p = record {
    same = p.same;
    differs = ne;
    opened = λ e. ap (λ (b : Bool). cond b ts none_closed at (x at j)) (sym (eq-eqb j k e))
        ∙ sym (get_or-set_other (closed_before k ts j) (a at j) (x at j) 1 0 ne) ∙ p.another;
  }
    where
      ne : x at j ≢ a at j
      ne e = omega (arith, own_closed, p.another, ap (λ (z : ℕ). set (closed_before k ts j) (a at j) 1 at z) e)

  pub to_slot : (x : List ℕ) → InSlot a k ts j x → InPart (slot_part a k ts j) x
  to_slot x s = record {
    same = s.same;
    another = get_or-set_other (closed_before k ts j) (a at j) (x at j) 1 0 s.differs ∙ go (eqb j k) refl;
  }
    where
      go : (b : Bool) → eqb j k ≡ b → cond b ts none_closed at (x at j) ≡ 0
      go true e = s.opened (eqb-true j k e)
      go false e = none_closed_lem (x at j)

-- the first index below n at which two lists differ
abbrev Differ : List ℕ → List ℕ → ℕ → Type 0
Differ a x n = ((i : ℕ) → i < n → x at i ≡ a at i) ⊎ ((j : ℕ) × (j < n) × ((i : ℕ) → i < j → x at i ≡ a at i) × (x at j ≢ a at j))

first_difference : (a x : List ℕ) (n : ℕ) → Differ a x n
first_difference a x zero = inl (λ i l. absurd (not-suc-le-zero l))
first_difference a x (suc n) = go (first_difference a x n) (ℕ_discrete (x at n) (a at n))
  where
    go : Differ a x n → Dec (x at n ≡ a at n) → Differ a x (suc n)
    go (inr (j, l, h, d)) e = inr (j, omega arith, h, d)
    go (inl h) (yes e) = inl (λ i l. ⊎_elim (λ q. rw q e) (h i) (eq-or-lt_of_le (le_of_suc-le-suc l)))
    go (inl h) (no e) = inr (n, le_refl (suc n), h, e)

-- of the part q, from which the assignment a is taken
module _ (m : ℕ) (small : m ≤ 12) (q : Part) (long : length q.closed ≡ 12) (low : q.row < m) (a : List ℕ) (h : Assignment m a) (p : InPart q a) where
  low_task : (j : ℕ) → j < m → a at j < 12
  low_task j l = omega (arith, h.tasks j l, small)

  pub split_rest : (x : List ℕ) → length x ≡ m → InPart q x
      → (x ≡ a) ⊎ ((j : ℕ) × (q.row ≤ j) × (j < m) × InPart (slot_part a q.row q.closed j) x)
  split_rest x e r = go (first_difference a x m)
    where
      go : Differ a x m → (x ≡ a) ⊎ ((j : ℕ) × (q.row ≤ j) × (j < m) × InPart (slot_part a q.row q.closed j) x)
      go (inl same) = inl (ext_get_or 0 x a (e ∙ sym h.as_many) (λ i l. same i (rw e at l)))
      go (inr (j, l, same, d)) =
          let after : q.row ≤ j = ⊎_elim (λ k. absurd (d (r.same j k ∙ sym (p.same j k)))) (λ k. k) (cases_lt j q.row) in
          inr (
            j,
            after,
            l,
            to_slot a q.row q.closed j long (low_task j l) x
                (record { same = same; differs = d; opened = λ f. rw f r.another }),
          )

  pub split_sub : (j : ℕ) → q.row ≤ j → j < m → (x : List ℕ) → InPart (slot_part a q.row q.closed j) x → InPart q x × (x ≢ a)
  split_sub j le l x s = (
    record { same = λ i k. t.same i (omega arith) ∙ p.same i k; another = at_row (eq-or-lt_of_le le) },
    λ e. t.differs (ap (λ (z : List ℕ). z at j) e),
  )
    where
      t : InSlot a q.row q.closed j x
      t = of_slot a q.row q.closed j long (low_task j l) x s

      at_row : (q.row ≡ j) ⊎ (q.row < j) → q.closed at (x at q.row) ≡ 0
      at_row (inl e) = subst (λ (z : ℕ). q.closed at (x at z) ≡ 0) (sym e) (t.opened (sym e))
      at_row (inr k) = rw (t.same q.row k) p.another

  pub split_apart : (j k : ℕ) → j < k → k < m → (x : List ℕ) → InPart (slot_part a q.row q.closed j) x
      → InPart (slot_part a q.row q.closed k) x → ⊥
  split_apart j k l lk x s t =
      (of_slot a q.row q.closed j long (low_task j (omega arith)) x s).differs (t.same j l)

-- the closed tasks of a slot are twelve words too
pub slot_long : (a : List ℕ) (k : ℕ) (ts : List ℕ) (j : ℕ) → length ts ≡ 12 → length (slot_part a k ts j).closed ≡ 12
slot_long a k ts j e = length-set (closed_before k ts j) (a at j) 1 ∙ closed_long k ts j e
