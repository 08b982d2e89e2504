-- A path at one time, against what the definitions say of the path from that time on. Assumes nothing.
use Rattle.std.proofs.Common.{ℕ, zero, ◌-◌, ◌≢◌, suc, ◌+◌, ◌≤◌, ◌<◌, ◌≡◌, refl, sym, ap, ◌∙◌, ◌⊎◌, inl, inr, Bool, true, false, List, eq-or-lt_of_le, arith, length, get_or, drop, eqb, T, add-one, eq-eqb, ne_eqb}
use Rattle.deck.specs.Lists.{is_nil}
use Rattle.deck.specs.Sheet.{Sheet}
use Rattle.deck.specs.Paths.{may_step, visit, left}
use Rattle.deck.specs.PlanCheck.{follows}
use Rattle.meaning.specs.Meaning.{Step}
use Rattle.meaning.proofs.Tests.{is_true, is_false}
use Rattle.meaning.proofs.Paths.{step_meant, follows_meant}
use Rattle.path_check.proofs.Parts.{rest_next, rest_none}

-- the steps, each tested
module _ (d : Sheet) (p : List ℕ) where
  abbrev may : ℕ → Bool
  may t = may_step d (get_or p t 0) (get_or p (t + 1) 0)

  pub follows_is : {r : Bool} → (r ≡ true → (t : ℕ) → t + 1 < length p → may t ≡ true) → (r ≡ false → (t : ℕ) × (t + 1 < length p) × (may t ≡ false)) → r ≡ follows d p
  follows_is {r} = go r
    where
      step : (u : ℕ) → may u ≡ true → Step d (get_or p u 0) (get_or p (suc u) 0)
      step u e = rw (← add-one) ((step_meant d (get_or p u 0) (get_or p (u + 1) 0)).fact (rw e tt))

      shut : (u : ℕ) → may u ≡ false → Step d (get_or p u 0) (get_or p (suc u) 0) → ⊥
      shut u e k = let t : T (may u) = (step_meant d (get_or p u 0) (get_or p (u + 1) 0)).test (rw add-one k) in rw e at t

      go : (r : Bool) → (r ≡ true → (t : ℕ) → t + 1 < length p → may t ≡ true) → (r ≡ false → (t : ℕ) × (t + 1 < length p) × (may t ≡ false)) → r ≡ follows d p
      go true f g = sym (is_true (follows d p) ((follows_meant d p).test (λ u l. step u (f refl u (omega arith)))))
      go false f g = let s = g refl in sym (is_false (follows d p) (λ t. shut s.0 s.2 ((follows_meant d p).fact t s.0 (omega (arith, s.1)))))

-- the goals from the n-th on, on x
module _ (x : ℕ) (gs : List ℕ) (n count : ℕ) (all : count ≡ length gs) where
  pub visit_next : n < count → get_or gs n 0 ≡ x → visit x (drop n gs) ≡ visit x (drop (n + 1) gs)
  unfolding visit
  visit_next h e = rw (rest_next 0 gs n (omega arith), eq-eqb x (get_or gs n 0) (sym e))

  pub visit_stop : n < count → (get_or gs n 0 ≡ x → ⊥) → visit x (drop n gs) ≡ drop n gs
  unfolding visit
  visit_stop h ne = rw (rest_next 0 gs n (omega arith), ne_eqb x (get_or gs n 0) (λ e. ne (sym e)))

  pub visit_over : count ≤ n → visit x (drop n gs) ≡ drop n gs
  unfolding visit
  visit_over h = rw (rest_none 0 gs n (omega arith))

-- the goals from the k-th on that are x, up to the n-th, which is not
module _ (x : ℕ) (gs : List ℕ) (n : ℕ) (inside : n ≤ length gs) (next : n < length gs → get_or gs n 0 ≢ x) where
  visit_from : (d k : ℕ) → d + k ≡ n → ((m : ℕ) → k ≤ m → m < n → get_or gs m 0 ≡ x) → visit x (drop k gs) ≡ drop n gs
  visit_from zero k e h = let q : k ≡ n = omega arith in rw q (here (eq-or-lt_of_le inside))
    where
      here : (n ≡ length gs) ⊎ (n < length gs) → visit x (drop n gs) ≡ drop n gs
      here (inl z) = visit_over x gs n (length gs) refl (omega arith)
      here (inr l) = visit_stop x gs n (length gs) refl l (next l)
  visit_from (suc d) k e h = visit_next x gs k (length gs) refl (omega arith) (h k (omega arith) (omega arith)) ∙ visit_from d (k + 1) (omega arith) (λ m a b. h m (omega arith) b)

  pub visit_run : (k : ℕ) → k ≤ n → ((m : ℕ) → k ≤ m → m < n → get_or gs m 0 ≡ x) → visit x (drop k gs) ≡ drop n gs
  visit_run k l h = visit_from (n - k) k (omega arith) h

-- the goals that are left from time t on
module _ (p gs : List ℕ) (t : ℕ) where
  pub left_next : (k n : ℕ) → t < length p → {x : ℕ} → x ≡ get_or p t 0 → visit x (drop k gs) ≡ drop n gs
      → left (drop t p) (drop k gs) ≡ left (drop (t + 1) p) (drop n gs)
  unfolding left
  left_next k n h q e = ap (λ q. left q (drop k gs)) (rest_next 0 p t h) ∙ ap (left (drop (t + 1) p)) (ap (λ x. visit x (drop k gs)) (sym q) ∙ e)

  pub left_over : (k : ℕ) → length p ≤ t → left (drop t p) (drop k gs) ≡ drop k gs
  unfolding left
  left_over k h = rw (rest_none 0 p t h)

pub none_left : (gs : List ℕ) (k : ℕ) → k ≤ length gs → eqb k (length gs) ≡ is_nil (drop k gs)
none_left gs k h = go (eq-or-lt_of_le h)
  where
    go : (k ≡ length gs) ⊎ (k < length gs) → eqb k (length gs) ≡ is_nil (drop k gs)
    go (inl e) = rw (rest_none 0 gs k (omega arith), eq-eqb k (length gs) e)
    go (inr l) = rw (rest_next 0 gs k l, ne_eqb k (length gs) (λ e. omega arith))
