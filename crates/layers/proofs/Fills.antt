-- Lists that a loop fills, raises or keeps from the front, one store a turn. Assumes nothing.
use Prim.Native.Nat.{ℕ, ◌+◌, ◌*◌, ◌≤◌, ◌<◌}
use Rattle.std.proofs.Common.{◌≡◌, refl, ap, ◌∙◌, subst, ◌⊎◌, inl, inr, ⊎_elim, Bool, true, false, cond, List, eq-or-lt_of_le, add-one, arith, length, get_or, set, length-set, get_or-set_same, get_or-set_other, eqb, eqb-true}
use Rattle.std.proofs.lemmas.Bool.{eqb-false}
use Rattle.layers.specs.Fill.{Filled}
use Rattle.layers.specs.Raise.{bumped, raised_by, Raised}
use Rattle.layers.specs.Packed.{FourAt, Kept}

-- an index up to p is below p or p
pub up_to : (k p : ℕ) → k < p + 1 → (k ≡ p) ⊎ (k < p)
up_to k p h = ⊎_elim (λ e. inl (omega arith)) (λ l. inr (omega arith)) (eq-or-lt_of_le h)

module _ (lo : ℕ) (f : ℕ → ℕ) (before : List ℕ) where
  pub filled_none : Filled lo lo f before before
  filled_none = record { size = refl; inside = λ p a b. absurd (omega arith); below = λ p a. refl; above = λ p a. refl }

  pub filled_more : (p : ℕ) (after : List ℕ) (v : ℕ) → lo ≤ p → p < length before → v ≡ f p → Filled lo p f before after → Filled lo (p + 1) f before (set after p v)
  filled_more p after v l h e g =
      record {
        size = length-set after p v ∙ g.size;
        inside = λ k a b. ⊎_elim (λ q. rw q (get_or-set_same after p v 0 (omega (arith, g.size)) ∙ e))
            (λ c. get_or-set_other after p k v 0 (omega arith) ∙ g.inside k a c) (up_to k p b);
        below = λ k a. get_or-set_other after p k v 0 (omega arith) ∙ g.below k a;
        above = λ k a. get_or-set_other after p k v 0 (omega arith) ∙ g.above k (omega arith);
      }

  pub filled_all : {p hi : ℕ} {after : List ℕ} → p ≡ hi → Filled lo p f before after → Filled lo hi f before after
  filled_all {after} e g = subst (λ (k : ℕ). Filled lo k f before after) e g

pub filled_as : {lo hi : ℕ} {f g : ℕ → ℕ} {before after : List ℕ} → ((p : ℕ) → f p ≡ g p) → Filled lo hi f before after → Filled lo hi g before after
filled_as e fill = record { size = fill.size; inside = λ p a b. fill.inside p a b ∙ e p; below = fill.below; above = fill.above }

module _ (goals before : List ℕ) where
  pub raised_none : Raised goals 0 before before
  raised_none = record { size = refl; at = λ p. refl }

  pub raised_more : (k : ℕ) (after : List ℕ) (g v : ℕ) → g ≡ get_or goals k 0 → g < length before → v ≡ bumped k (get_or after g 0) → Raised goals k before after
      → Raised goals (k + 1) before (set after g v)
  raised_more k after g v e h w r = rw add-one (record { size = length-set after g v ∙ r.size; at = λ p. go p (eqb p (get_or goals k 0)) refl })
    where
      go : (p : ℕ) (b : Bool) → eqb p (get_or goals k 0) ≡ b
          → get_or (set after g v) p 0 ≡ cond b (bumped k (raised_by goals k p (get_or before p 0))) (raised_by goals k p (get_or before p 0))
      go p true q =
          let i : p ≡ g = omega (arith, eqb-true p (get_or goals k 0) q) in
          rw i (get_or-set_same after g v 0 (omega (arith, r.size)) ∙ w ∙ ap (bumped k) (r.at g))
      go p false q = get_or-set_other after g p v 0 (λ i. eqb-false p (get_or goals k 0) q (i ∙ e)) ∙ r.at p

  pub raised_all : {k n : ℕ} {after : List ℕ} → k ≡ n → Raised goals k before after → Raised goals n before after
  raised_all {after} e r = subst (λ (x : ℕ). Raised goals x before after) e r

module _ (x : List ℕ) (from at : ℕ) (before : List ℕ) where
  pub kept_none : Kept x from at 0 before before
  kept_none = record { size = refl; inside = λ k h. absurd (omega arith); below = λ p a. refl; above = λ p a. refl }

  pub kept_more : (k : ℕ) (after : List ℕ) (v : ℕ) → at + k < length before → FourAt x (from + 4 * k) v → Kept x from at k before after
      → Kept x from at (k + 1) before (set after (at + k) v)
  kept_more k after v h e g =
      record {
        size = length-set after (at + k) v ∙ g.size;
        inside = λ p a. ⊎_elim (λ q. rw (q, get_or-set_same after (at + k) v 0 (omega (arith, g.size))) e)
            (λ c. rw (get_or-set_other after (at + k) (at + p) v 0 (omega arith)) (g.inside p c)) (up_to p k a);
        below = λ p a. get_or-set_other after (at + k) p v 0 (omega arith) ∙ g.below p a;
        above = λ p a. get_or-set_other after (at + k) p v 0 (omega arith) ∙ g.above p (omega arith);
      }

  pub kept_all : {k n : ℕ} {after : List ℕ} → k ≡ n → Kept x from at k before after → Kept x from at n before after
  kept_all {after} e g = subst (λ (n : ℕ). Kept x from at n before after) e g
