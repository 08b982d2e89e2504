-- The order of lists: each list comes before itself, of any two one comes before the other, and two that come before each other are one.
-- Assumes nothing.
use Rattle.std.proofs.Common.{ℕ, ◌≡◌, refl, sym, ap₂, ◌⊎◌, inl, inr, ⊎_elim, Bool, true, false, List, [], ◌∷◌, arith, ltb, ltb-true, ltb-false}
use Rattle.meaning.specs.Meaning.{Before}

pub before_refl : (p : List ℕ) → Before p p
before_refl [] = tt
before_refl (x ∷ p) = inr (refl, before_refl p)

pub before_total : (p q : List ℕ) → Before p q ⊎ Before q p
before_total [] q = inl tt
before_total (x ∷ p) [] = inr tt
before_total (x ∷ p) (y ∷ q) = go (ltb x y) refl (ltb y x) refl (before_total p q)
  where
    go : (a : Bool) → ltb x y ≡ a → (b : Bool) → ltb y x ≡ b → Before p q ⊎ Before q p → Before (x ∷ p) (y ∷ q) ⊎ Before (y ∷ q) (x ∷ p)
    go true e b f r = inl (inl (ltb-true x y e))
    go false e true f r = inr (inl (ltb-true y x f))
    go false e false f r =
        let s : x ≡ y = omega (arith, ltb-false x y e, ltb-false y x f) in
        ⊎_elim (λ h. inl (inr (s, h))) (λ h. inr (inr (sym s, h))) r

pub before_antisym : (p q : List ℕ) → Before p q → Before q p → p ≡ q
before_antisym [] [] a b = refl
before_antisym [] (y ∷ q) a b = absurd b
before_antisym (x ∷ p) [] a b = absurd a
before_antisym (x ∷ p) (y ∷ q) (inl h) (inl k) = absurd (omega arith)
before_antisym (x ∷ p) (y ∷ q) (inl h) (inr k) = absurd (omega (arith, k.0))
before_antisym (x ∷ p) (y ∷ q) (inr h) (inl k) = absurd (omega (arith, h.0))
before_antisym (x ∷ p) (y ∷ q) (inr h) (inr k) = ap₂ ◌∷◌ h.0 (before_antisym p q h.1 k.1)
