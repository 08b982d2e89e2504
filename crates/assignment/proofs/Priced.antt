-- Prices as signed numbers: what is within their range, and the condition that prices have to keep. Assumes nothing.
use Rattle.std.proofs.Common.{zero-le, true, ℕ, zero, suc, ◌+◌, ◌-◌, ◌≤◌, ◌<◌, ◌≡◌, refl, sym, ap, subst, ◌∙◌, ⊎_elim, Bool, true, false, cond, List, eq-or-lt_of_le, le_of_suc-le-suc, add-one, not-suc-le-zero, arith, length, get_or, drop, ◌++◌, replicate, set, get_or-set_same, get_or-set_other, ℤ, pos, negsuc, neg_ℤ, ◌+ℤ◌, ◌-ℤ◌, ◌≤ℤ◌, ltb, le→leb, le-ltb, w32, SFits}
use Rattle.std.proofs.Math.IntN.{sub_ℕ}
use Rattle.std.specs.Int.Signed.{mag, le_z_yes}
use Rattle.std.proofs.Math.ListN.{get_or-append}
use Rattle.std.proofs.lemmas.List.{get_or-replicate, get_or-append-add, drop-replicate}
use Rattle.std.specs.List.{AllWithin, range_with_len}
use Rattle.std.specs.Bool.{MatchBool}
use Rattle.std.proofs.lemmas.List.FromFn.{get_or-range_with_len, length-range_with_len}
use Rattle.deck.specs.Calls.{ZeroFrom}
use Rattle.assignment.specs.Answers.{Prices}

-- what is small fits 32 bits
pub small_fits : (z : ℤ) → mag z ≤ 9000000 → SFits w32 z
small_fits z h = record { sfits = omega arith }

mag_sub : (a b : ℕ) → mag (sub_ℕ a b) ≤ a + b
mag_sub a b = go (ltb a b)
  where
    go : (q : Bool) → mag (cond q (negsuc (b - suc a)) (pos (a - b))) ≤ a + b
    go true = omega arith
    go false = omega arith

pub mag_add : (x y : ℤ) → mag (x +ℤ y) ≤ suc (mag x + mag y)
mag_add (pos a) (pos b) = omega arith
mag_add (pos a) (negsuc b) = omega (arith, mag_sub a (suc b))
mag_add (negsuc a) (pos b) = omega (arith, mag_sub b (suc a))
mag_add (negsuc a) (negsuc b) = omega arith

mag_neg : (z : ℤ) → mag (neg_ℤ z) ≤ suc (mag z)
mag_neg (pos zero) = omega arith
mag_neg (pos (suc n)) = omega arith
mag_neg (negsuc n) = omega arith

pub mag_minus : (x y : ℤ) → mag (x -ℤ y) ≤ mag x + mag y + 2
mag_minus x y = omega (arith, mag_add x (neg_ℤ y), mag_neg y)

pub neg_small : (x : ℕ) → mag (neg_ℤ (pos x)) ≤ x
neg_small zero = omega arith
neg_small (suc x) = omega arith

pub neg_below : (x : ℕ) → neg_ℤ (pos x) ≤ℤ pos 0
neg_below zero = le_z_yes tt
neg_below (suc x) = le_z_yes tt

-- the first n of these prices meet P
pub record PricesTo (P : ℕ → ℤ → Type 0) (n : ℕ) (r : List ℤ) : Type 0 where
  pub done : (k : ℕ) → k < n → P k (get_or r k (pos 0))

pub prices_none : (P : ℕ → ℤ → Type 0) (r : List ℤ) → PricesTo P 0 r
prices_none P r = record { done = λ k l. absurd (not-suc-le-zero l) }

module _ (P : ℕ → ℤ → Type 0) where
  pub prices_more : (n : ℕ) (r : List ℤ) (y : ℤ) → n < length r → P n y → PricesTo P n r → PricesTo P (n + 1) (set r n y)
  prices_more n r y h p R = record {
    done = λ k l. ⊎_elim (λ q. rw q (subst (λ (z : ℤ). P n z) (sym (get_or-set_same r n y (pos 0) h)) p))
        (λ g. subst (λ (z : ℤ). P k z) (sym (get_or-set_other r n k y (pos 0) (omega arith))) (R.done k g)) (eq-or-lt_of_le (le_of_suc-le-suc (rw add-one at l)));
  }

  -- the prices of the first m numbers, and what follows them
  pub prices_first : (m n : ℕ) (r rest : List ℤ) → length r ≡ m → m ≤ n → PricesTo P n r → (k : ℕ) → k < m → P k (get_or (r ++ rest) k (pos 0))
  prices_first m n r rest e h R k l = subst (λ (z : ℤ). P k z) (sym (get_or-append r rest (pos 0) k (rw e l))) (R.done k (omega arith))

pub zero_after : (m : ℕ) (r : List ℤ) → length r ≡ m → m ≤ 12 → ZeroFrom m (r ++ drop m (replicate 12 (pos 0)))
zero_after m r e few = λ k l h.
    let at : length r + (k - m) ≡ k = omega (arith, e) in
    rw (drop-replicate {X = ℤ} m 12 (pos 0))
    (subst (λ (i : ℕ). get_or (r ++ replicate (12 - m) (pos 0)) i (pos 0) ≡ pos 0) at (get_or-append-add r (replicate (12 - m) (pos 0)) (k - m) (pos 0) ∙ get_or-replicate (12 - m) (k - m) (pos 0) (pos 0) (omega arith)))

pub prices_made : (m top : ℕ) (r : List ℤ) (f : ℕ → ℤ) → ((k : ℕ) → k < m → get_or r k (pos 0) ≡ f k) → ((k : ℕ) → k < m → mag (f k) ≤ top) → ZeroFrom m r → Prices m top f r
prices_made m top r f e s z = record { each = e; small = λ k l. subst (λ (y : ℤ). mag y ≤ top) (sym (e k l)) (s k l); zero = z }

-- what holds of every number that a test over a range has passed
pub all_below : (P : ℕ → Type 0) (Q : Type 0) (m : ℕ) (r : Bool) → MatchBool r (AllWithin P (range_with_len 0 m) 0 (length (range_with_len 0 m))) Q → r ≡ true → (j : ℕ) → j < m → P j
all_below P Q m r h e j l =
    let a : AllWithin P (range_with_len 0 m) 0 (length (range_with_len 0 m)) = subst (λ (b : Bool). MatchBool b (AllWithin P (range_with_len 0 m) 0 (length (range_with_len 0 m))) Q) e h in
    let z : 0 + j ≡ j = omega arith in
    subst P (get_or-range_with_len 0 m j 0 l ∙ z) (a j 0 zero-le (omega (arith, length-range_with_len 0 m)))

-- DUAL FEASIBILITY: a row price u and a column price 0 - v, which is at zero or below
pub dual_le : (u v e : ℕ) → u ≤ e + v → (pos u +ℤ neg_ℤ (pos v)) ≤ℤ pos e
dual_le u zero e h = le_z_yes (le→leb (u + 0) e (omega arith))
dual_le u (suc v) e h = go (ltb u (suc v)) refl
  where
    go : (b : Bool) → ltb u (suc v) ≡ b → cond b (negsuc (suc v - suc u)) (pos (u - suc v)) ≤ℤ pos e
    go true q = le_z_yes tt
    go false q = le_z_yes (le→leb (u - suc v) e (omega arith))

pub dual_tight : (u v e : ℕ) → u ≡ e + v → (pos u +ℤ neg_ℤ (pos v)) ≡ pos e
dual_tight u zero e h = let z : u + 0 ≡ e = omega arith in ap pos z
dual_tight u (suc v) e h =
    let z : u - suc v ≡ e = omega arith in
    ap (λ (b : Bool). cond b (negsuc (suc v - suc u)) (pos (u - suc v))) (le-ltb u (suc v) (omega arith)) ∙ ap pos z
