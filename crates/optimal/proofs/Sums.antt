-- Sums over the numbers below n, and lists in which one element is set. Assumes nothing.
use Rattle.std.proofs.Common.{ℕ, ◌≤◌, ◌<◌, zero-le, ◌≡◌, refl, ◌≢◌, List, [], ◌∷◌, map, arith, length, get_or, set, get_or-set_same, get_or-set_other}
use Rattle.deck.proofs.Members.{Mem, here, there}
use Rattle.std.proofs.Math.Decide.{ℕ_discrete}
use Rattle.deck.specs.Lists.{below, sum}
use Rattle.meaning.proofs.Lists.{mem_below}

sum_map_le : (l : List ℕ) (f g : ℕ → ℕ) → ((i : ℕ) → Mem i l → f i ≤ g i) → sum (map f l) ≤ sum (map g l)
sum_map_le [] f g h = zero-le
sum_map_le (x ∷ l) f g h = omega (arith, h x (here refl), sum_map_le l f g (λ i m. h i (there m)))

-- a sum grows with its terms
pub sum_le : (n : ℕ) (f g : ℕ → ℕ) → ((i : ℕ) → i < n → f i ≤ g i) → sum (map f (below n)) ≤ sum (map g (below n))
sum_le n f g h = sum_map_le (below n) f g (λ i m. h i ((mem_below n).0 m))

-- what holds at k of the new element, and elsewhere of the old ones, holds of the list in which k is set
pub set_all : {A : Type 0} (P : ℕ → A → Type 0) (n : ℕ) (l : List A) (k : ℕ) (x d : A) → k < length l → P k x
    → ((i : ℕ) → i < n → i ≢ k → P i (get_or l i d)) → (i : ℕ) → i < n → P i (get_or (set l k x) i d)
set_all P n l k x d h new old i b = go (ℕ_discrete i k)
  where
    go : Dec (i ≡ k) → P i (get_or (set l k x) i d)
    go (yes e) = rw (e, get_or-set_same l k x d h) new
    go (no e) = rw (get_or-set_other l k i x d e) (old i b e)
