-- A list put in the order of a key has the same elements, as many of them, in strict order, and a list in strict order holds no
-- element twice. Assumes nothing.
use Rattle.std.proofs.Common.{ℕ, zero, suc, ◌≤◌, ◌<◌, ◌≡◌, refl, sym, ap, subst, ◌↔◌, ◌⊎◌, inl, inr, ⊎_elim, Bool, true, false, cond, List, [], ◌∷◌, Option, None, Some, not-suc-le-zero, eq-or-lt_of_le, le_trans, le_refl, le_of_suc-le-suc, arith, length, get_or, leb, leb-true, leb-false}
use Rattle.deck.proofs.Members.{Mem, here, there, not-nil, cases_cons}
use Rattle.deck.specs.Lists.{take_least, pick_least, hand_out, first_in_order, in_order}
use Rattle.meaning.specs.Sorted.{Sorted}
use Rattle.meaning.proofs.Lists.{Took, took}
use Rattle.meaning.proofs.ListTests.{mem_at}

module _ {A : Type 0} (R : A → A → Type 0) where
  -- the element at an index stands in the relation to the one at each later index
  pub sorted_at : (l : List A) (d : A) → Sorted R l → (i j : ℕ) → i < j → j < length l → R (get_or l i d) (get_or l j d)
  sorted_at [] d h i j s t = absurd (not-suc-le-zero t)
  sorted_at (x ∷ l) d h i zero s t = absurd (not-suc-le-zero s)
  sorted_at (x ∷ l) d h zero (suc j) s t = h.0 (get_or l j d) (mem_at d l j (le_of_suc-le-suc t))
  sorted_at (x ∷ l) d h (suc i) (suc j) s t = sorted_at l d h.1 i j (le_of_suc-le-suc s) (le_of_suc-le-suc t)

  -- in a strict order no element stands twice
  pub sorted_once : ((x : A) → ¬ R x x) → (l : List A) (d : A) → Sorted R l
      → (i j : ℕ) → i < length l → j < length l → get_or l i d ≡ get_or l j d → i ≡ j
  sorted_once strict l d h i j s t e =
      let p : ¬ (i < j) = λ k. strict (get_or l j d) (rw e at (sorted_at l d h i j k t)) in
      let q : ¬ (j < i) = λ k. strict (get_or l j d) (rw e at (sorted_at l d h j i k s)) in
      omega arith

module _ {A : Type 0} (key : A → ℕ) where
  -- by the key, then by R
  abbrev pub ByKey : (A → A → Type 0) → A → A → Type 0
  ByKey R x y = (key x < key y) ⊎ ((key x ≡ key y) × R x y)

  -- the first n in order stand in the list, for any n
  pub first_among : (n : ℕ) (l : List A) {x : A} → Mem x (first_in_order key n l) → Mem x l
  first_among zero l m = absurd (not-nil m)
  first_among (suc n) l {x} m = go (take_least key l) (took key l) m (λ r k. first_among n r k)
    where
      go : (o : Option (A × List A)) → Took key l o → Mem x (hand_out (first_in_order key n) o)
          → ((r : List A) → Mem x (first_in_order key n r) → Mem x r) → Mem x l
      go None k m again = absurd (not-nil m)
      go (Some t) k m again =
          ⊎_elim (λ e. subst (λ (z : A). Mem z l) (sym e) k.0.taken) (λ u. k.0.among x (again t.1 u)) (cases_cons m)

  -- all of them, for an n that is large enough
  pub first_all : (n : ℕ) (l : List A) {x : A} → length l ≤ n → Mem x l → Mem x (first_in_order key n l)
  first_all zero [] h m = m
  first_all zero (y ∷ l) h m = absurd (not-suc-le-zero h)
  first_all (suc n) l {x} h m = go (take_least key l) (took key l) (λ r f k. first_all n r f k)
    where
      go : (o : Option (A × List A)) → Took key l o → ((r : List A) → length r ≤ n → Mem x r → Mem x (first_in_order key n r))
          → Mem x (hand_out (first_in_order key n) o)
      go None k again = absurd (not-nil (rw k at m))
      go (Some t) k again =
          ⊎_elim (λ e. here e) (λ u. there (again t.1 (omega (arith, k.0.fewer)) u)) (k.0.kept x m)

  pub first_length : (n : ℕ) (l : List A) → length l ≡ n → length (first_in_order key n l) ≡ n
  first_length zero l h = refl
  first_length (suc n) l h = go (take_least key l) (took key l) (λ r f. first_length n r f)
    where
      go : (o : Option (A × List A)) → Took key l o → ((r : List A) → length r ≡ n → length (first_in_order key n r) ≡ n)
          → length (hand_out (first_in_order key n) o) ≡ suc n
      go None k again = absurd (omega (arith, ap length k))
      go (Some t) k again = ap suc (again t.1 (omega (arith, k.0.fewer)))

  -- the list in order has the same elements
  pub in_order_mem : (l : List A) {x : A} → Mem x (in_order key l) ↔ Mem x l
  in_order_mem l = (first_among (length l) l, first_all (length l) l (le_refl (length l)))

  -- and as many
  pub in_order_length : (l : List A) → length (in_order key l) ≡ length l
  in_order_length l = first_length (length l) l refl

  module _ (R : A → A → Type 0) where
    abbrev After : Option (A × List A) → Type 0
    After None = Unit {0}
    After (Some t) = ((y : A) → Mem y t.1 → ByKey R t.0 y) × Sorted R t.1

    -- what take_least leaves of a sorted list comes after what it takes, and is sorted
    take_after : (l : List A) → Sorted R l → After (take_least key l)
    take_after [] h = tt
    take_after (x ∷ l) h = go (take_least key l) (took key l) (take_after l h.1)
      where
        split : (y : A) → R x y → (key x ≡ key y) ⊎ (key x < key y) → ByKey R x y
        split y r (inl e) = inr (e, r)
        split y r (inr k) = inl k

        pick : (t : A × List A) → Took key l (Some t) → After (Some t) → (b : Bool) → leb (key x) (key t.0) ≡ b
            → After (cond b (Some (x, l)) (Some (t.0, x ∷ t.1)))
        pick t k f true e = (λ y m. split y (h.0 y m) (eq-or-lt_of_le (le_trans (leb-true _ _ e) (k.1 y m))), h.1)
        pick t k f false e = (
          λ y m. ⊎_elim (λ q. inl (rw q (leb-false _ _ e))) (f.0 y) (cases_cons m),
          (λ y m. h.0 y (k.0.among y m), f.1),
        )

        go : (o : Option (A × List A)) → Took key l o → After o → After (pick_least key x l o)
        go None k f = (λ y m. absurd (not-nil m), tt)
        go (Some t) k f = pick t k f (leb (key x) (key t.0)) refl

    pub first_sorted : (n : ℕ) (l : List A) → Sorted R l → Sorted (ByKey R) (first_in_order key n l)
    first_sorted zero l h = tt
    first_sorted (suc n) l h = go (take_least key l) (take_after l h) (λ r s. first_sorted n r s)
      where
        go : (o : Option (A × List A)) → After o → ((r : List A) → Sorted R r → Sorted (ByKey R) (first_in_order key n r))
            → Sorted (ByKey R) (hand_out (first_in_order key n) o)
        go None f again = tt
        go (Some t) f again = (λ y m. f.0 y (first_among n t.1 m), again t.1 f.1)

    -- a list in strict order, put in the order of a key, is in the strict order by the key and then by that order
    pub in_order_sorted : (l : List A) → Sorted R l → Sorted (ByKey R) (in_order key l)
    in_order_sorted l = first_sorted (length l) l
