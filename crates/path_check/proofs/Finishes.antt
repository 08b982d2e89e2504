-- Finishes: what the code finds, against the definition. Assumes nothing.
use Rattle.std.proofs.Common.{ℕ, ◌-◌, ◌≤◌, ◌<◌, ◌≡◌, sym, ◌⊎◌, inl, inr, List, eq-or-lt_of_le, arith, length, get_or}
use Rattle.deck.specs.Paths.{finish}
use Rattle.meaning.proofs.Finish.{finish_rests, finish_least}

-- the path is on g from t on
abbrev pub OnFrom : ℕ → List ℕ → ℕ → Type 0
OnFrom g p t = (u : ℕ) → t ≤ u → u < length p → get_or p u 0 ≡ g

module _ (g : ℕ) (p : List ℕ) (t : ℕ) (l : t ≤ length p) (on : OnFrom g p t) where
  pub finish_here : (0 < t → get_or p (t - 1) 0 ≡ g → ⊥) → t ≡ finish g p
  finish_here n = go (eq-or-lt_of_le (finish_least g p t l on))
    where
      go : (finish g p ≡ t) ⊎ (finish g p < t) → t ≡ finish g p
      go (inl e) = sym e
      go (inr h) = absurd (n (omega arith) (finish_rests g p (t - 1) (omega arith) (omega arith)))
