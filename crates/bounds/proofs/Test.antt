-- The test of a layer, place by place. Assumes nothing.
use Rattle.std.proofs.Common.{ℕ, suc, ◌+◌, ◌-◌, ◌≤◌, ◌<◌, max, min, ◌≡◌, ◌≢◌, refl, sym, subst, ◌⊎◌, inl, inr, ⊎_elim, List, eq-or-lt_of_le, arith, get_or, replicate, T}
use Rattle.std.proofs.lemmas.Bool.{cases_lt}
use Rattle.std.proofs.lemmas.List.{length-replicate, get_or-replicate}
use Rattle.std.proofs.Math.ListN.{get_or-eq_default}
use Rattle.bars.specs.Ways.{number_of, move_by, way_back, opens_by}
use Rattle.bars.specs.declared.Way.{Way}
use Rattle.bars.specs.declared.Way.TheVariants.{Above, Left, Same, Right, Below}
use Rattle.bars.proofs.Gates.{each_way}
use Rattle.bounds.specs.Graded.{Even, EvenBy, LayerBounds}

module _ (counts : ℕ → ℕ → Way → ℕ → Type 0) (x mask : List ℕ) (wide : ℕ) where
  -- what counts of the number of the place q, from which the way leads to p, is too great by no more than `worst` for a free place p
  abbrev Spot : ℕ → ℕ → ℕ → Way → Type 0
  Spot p worst q way = way ≢ Same → (r : ℕ) × counts (get_or x q 0) (get_or mask q 0) way r × (min (r - suc (get_or x p 0)) (get_or mask p 0) ≤ worst)

  -- so of each place around p
  abbrev pub Around : ℕ → ℕ → Type 0
  Around p worst = (way : Way) → Spot p worst (move_by wide p (way_back (number_of way))) way

  -- for each p of a stretch that begins at `wide` and ends before `end`
  pub record Passed (end worst : ℕ) : Type 0 where
    pub at : (p : ℕ) → wide ≤ p → p < end → Around p worst

  -- the four places around p, with what the code finds there
  around : (p a b c e worst : ℕ) → 1 ≤ wide → wide ≤ p → counts (get_or x (p - wide) 0) (get_or mask (p - wide) 0) Below a → counts (get_or x (p - 1) 0) (get_or mask (p - 1) 0) Right b
      → counts (get_or x (p + 1) 0) (get_or mask (p + 1) 0) Left c → counts (get_or x (p + wide) 0) (get_or mask (p + wide) 0) Above e
      → min (max (max a b) (max c e) - get_or x p 0 - 1) (get_or mask p 0) ≤ worst → Around p worst
  around p a b c e worst z l ka kb kc ke h way = go way
    where
      at : (way : Way) (q : ℕ) → q ≡ move_by wide p (way_back (number_of way)) → Spot p worst q way → Spot p worst (move_by wide p (way_back (number_of way))) way
      at way q e k = subst (λ (i : ℕ). Spot p worst i way) e k

      go : (way : Way) → Spot p worst (move_by wide p (way_back (number_of way))) way
      go Above = at Above (p + wide) (omega arith) (λ _. (e, ke, omega arith))
      go Left = at Left (p + 1) (omega arith) (λ _. (c, kc, omega arith))
      go Same = λ n. absurd (n refl)
      go Right = at Right (p - 1) (omega arith) (λ _. (b, kb, omega arith))
      go Below = at Below (p - wide) (omega arith) (λ _. (a, ka, omega arith))

  -- one place more
  pub passed_more : (p worst a b c e next : ℕ) → Passed p worst → 1 ≤ wide → wide ≤ p → counts (get_or x (p - wide) 0) (get_or mask (p - wide) 0) Below a
      → counts (get_or x (p - 1) 0) (get_or mask (p - 1) 0) Right b → counts (get_or x (p + 1) 0) (get_or mask (p + 1) 0) Left c
      → counts (get_or x (p + wide) 0) (get_or mask (p + wide) 0) Above e → next ≡ max worst (min (max (max a b) (max c e) - get_or x p 0 - 1) (get_or mask p 0)) → Passed (p + 1) next
  passed_more p worst a b c e next h z l ka kb kc ke n = record { at = λ q i k. go q i (eq-or-lt_of_le k) }
    where
      go : (q : ℕ) → wide ≤ q → (suc q ≡ p + 1) ⊎ (suc q < p + 1) → Around q next
      go q i (inl k) = let o : q ≡ p = omega arith in subst (λ (v : ℕ). Around v next) (sym o) (around p a b c e next z l ka kb kc ke (omega arith))
      go q i (inr k) = λ way t. let r = h.at q i (omega arith) way t in (r.0, r.1, omega (arith, r.2))

-- none of the numbers is too great
pub none_over : {counts : ℕ → ℕ → Way → ℕ → Type 0} {x mask : List ℕ} {row p worst : ℕ} → Passed counts x mask row p worst → worst ≡ 0 → (wide end : ℕ) → row ≡ wide → p ≡ end
    → EvenBy counts x mask wide end
none_over {counts} {x} {mask} {row} {p} {worst} h z wide end e f =
    subst (λ (w : ℕ). EvenBy counts x mask w end) e
    (record { at = λ q way a b k n. let r = h.at q a (omega arith) way n in (r.0, r.1, omega (arith, r.2)) })

-- numbers fall by at most one where whatever counts of them, where a place may be left, are they themselves
pub even_of : {counts : ℕ → ℕ → Way → ℕ → Type 0} {x mask : List ℕ} {wide end : ℕ} → ((d m : ℕ) (way : Way) (r : ℕ) → counts d m way r → T (opens_by m (number_of way)) → r ≡ d)
    → EvenBy counts x mask wide end → Even x mask wide end
even_of {counts} {x} {mask} {wide} {end} k h p y a b f =
    each_way (λ (y : ℕ). T (opens_by (get_or mask (move_by wide p y) 0) (way_back y)) → get_or x (move_by wide p y) 0 ≤ suc (get_or x p 0))
    (by Below (λ e. cc)) (by Right (λ e. cc)) (λ o. let i : move_by wide p 2 ≡ p = omega arith in rw i (omega arith)) (by Left (λ e. cc)) (by Above (λ e. cc)) y
  where
    by : (way : Way) → way ≢ Same → T (opens_by (get_or mask (move_by wide p (way_back (number_of way))) 0) (number_of way))
        → get_or x (move_by wide p (way_back (number_of way))) 0 ≤ suc (get_or x p 0)
    by way n o = let r = h.at p way a b f n in omega (arith, r.2, k _ _ _ _ r.1 o)

-- zeros pass the test
zeros : (q : ℕ) → get_or {A = ℕ} (replicate 1156 0) q 0 ≡ 0
zeros q = ⊎_elim (λ h. get_or-replicate {A = ℕ} 1156 q 0 0 h)
    (λ h. get_or-eq_default (replicate {A = ℕ} 1156 0) 0 {n = q} (omega (arith, length-replicate {A = ℕ} 1156 0))) (cases_lt q 1156)

pub zero_layer : (mask : List ℕ) (w h goal base : ℕ) → LayerBounds mask w h goal base (replicate 1156 0)
zero_layer mask w h goal base = record {
  even = λ p y a b m l o. rw (zeros (move_by (w + 2) p y), zeros p) (omega arith);
  ends = rw (zeros goal) (omega arith);
}
