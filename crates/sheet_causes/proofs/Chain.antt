-- Laws of `chained`, a pair at a time: n pairs in all, of which those from k on are left. Assumes nothing.
use Rattle.std.proofs.Common.{ℕ, suc, ◌+◌, ◌-◌, ◌≤◌, ◌<◌, ◌≡◌, refl, true, false, List, add-one, arith, eqb, length, eq-eqb, ne_eqb}
use Rattle.deck.specs.Sheet.{pair_at, chained}

module _ (s : List ℕ) (n k o : ℕ) where
  pub chain_ends : n ≤ k → chained s (n - k) k o ≡ eqb o (length s)
  unfolding chained
  chain_ends h = let e : n - k ≡ 0 = omega arith in rw e refl

  -- x is the offset of the pair k, and y its length
  pub chain_breaks : {x : ℕ} → k < n → x ≡ (pair_at s k).offset → (x ≡ o → ⊥) → chained s (n - k) k o ≡ false
  unfolding chained
  chain_breaks {x} h f t =
      let e : n - k ≡ suc (n - (k + 1)) = omega arith in
      let p : eqb (pair_at s k).offset o ≡ false = rw (← f) (ne_eqb x o t) in
      rw (e, p) refl

  pub chain_goes_on : {x y : ℕ} → k < n → x ≡ (pair_at s k).offset → x ≡ o → y ≡ (pair_at s k).size
      → chained s (n - k) k o ≡ chained s (n - (k + 1)) (k + 1) (o + y)
  unfolding chained
  chain_goes_on {x} {y} h f t g =
      let e : n - k ≡ suc (n - (k + 1)) = omega arith in
      let p : eqb (pair_at s k).offset o ≡ true = rw (← f) (eq-eqb x o t) in
      rw (e, p, add-one k, g) refl
