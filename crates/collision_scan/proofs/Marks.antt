-- What the marks show: how a carrier's mark is added to them, and that the times before which there is no collision are passed over.
-- Assumes nothing.
use Rattle.std.proofs.Common.{ℕ, zero, suc, ◌+◌, ◌-◌, ◌*◌, ◌≤◌, ◌<◌, ◌≡◌, refl, sym, ap, ◌∙◌, ◌⊎◌, inl, inr, Bool, true, false, ◌&&◌, not, List, suc-mul, mul-le-mul_right, arith, add-one, length, get_or, set, length-set, get_or-set_same, get_or-set_other, eqb, eqb-true, ne_eqb}
use Rattle.std.proofs.Math.Decide.{ℕ_discrete}
use Rattle.deck.specs.Lists.{pieces, head_of}
use Rattle.deck.specs.Collisions.{place_collides, move_collides, place_collision, move_collision, first_collision}
use Rattle.collision_scan.specs.Words.{place_in, meets, exchanges}
use Rattle.collision_scan.specs.Marks.{Apart, Unexchanged, Calm, Marked, Free, Passed}
use Rattle.collision_scan.proofs.Scans.{from_time, after_places, first_of_all, time_step, moves_follow, rows_passed}
use Rattle.collision_scan.proofs.Words.{meets_is, exchanges_is}

-- the word of a carrier below m at a time below n
pub word_within : (ws : List ℕ) (m n i t : ℕ) → m * n ≤ length ws → i < m → t < n → i * n + t < length ws
word_within ws m n i t e a b = omega (arith, suc-mul i n, mul-le-mul_right n a)

both : (x y z : Bool) → (x ≡ true → y ≡ true → ⊥) → x && y && z ≡ false
both true true z h = absurd (h refl refl)
both true false z h = refl
both false y z h = refl

module _ (ws : List ℕ) (n : ℕ) where
  pub not_exchanged : (i j t : ℕ) → (place_in ws n i t ≡ place_in ws n j (t + 1) → place_in ws n i (t + 1) ≡ place_in ws n j t → ⊥)
      → exchanges ws n i j t ≡ false
  unfolding exchanges
  not_exchanged i j t h =
      both (eqb (place_in ws n i t) (place_in ws n j (t + 1))) (eqb (place_in ws n i (t + 1)) (place_in ws n j t)) (not (eqb (place_in ws n i t) (place_in ws n i (t + 1))))
      (λ a b. h (eqb-true _ _ a) (eqb-true _ _ b))

  -- a mark of s whose carrier does not take the place that i leaves
  pub free_passed : (i j s t mark : ℕ) → j ≡ mark - 16 * t → 16 * t ≤ mark → j < 16 → (place_in ws n j t ≡ place_in ws n i s → ⊥)
      → Free ws n i s t mark
  free_passed i j s t mark q a b h = record {
    unmarked = omega arith;
    other = λ k d o p. let c : j ≡ k = omega arith in h (rw c p);
  }

  -- After the marks of the carriers below k at t, where s is the time before
  pub record Marking (m s t k : ℕ) (marks : List ℕ) : Type 0 where
    pub size : length marks ≡ 1024
    pub new : (i : ℕ) → i < k → get_or marks (place_in ws n i t) 0 ≡ 16 * (t + 1) + i
    -- a mark of s is there still, or one of t has taken its place
    pub old : 0 < t → (j : ℕ) → j < m → (get_or marks (place_in ws n j s) 0 ≡ 16 * t + j) ⊎ (16 * (t + 1) ≤ get_or marks (place_in ws n j s) 0)
    pub still : 0 < t → (i j : ℕ) → i < j → i < k → j < m → exchanges ws n i j s ≡ false

  module _ (m s t : ℕ) (q : s ≡ t - 1) where
    pub marking_none : (marks : List ℕ) → length marks ≡ 1024 → (0 < t → Marked ws n m s marks) → Marking m s t 0 marks
    marking_none marks l h = record {
      size = l;
      new = λ i a. absurd (omega arith);
      old = λ p j a. inl (let e : get_or marks (place_in ws n j s) 0 ≡ 16 * (s + 1) + j = h p j a in omega arith);
      still = λ p i j a b. absurd (omega arith);
    }

    pub marking_all : (k : ℕ) (marks : List ℕ) → m ≤ k → Marking m s t k marks → Passed ws n m s t marks
    unfolding meets
    marking_all k marks h r = record {
      size = r.size;
      apart = λ i j a b. ne_eqb (place_in ws n i t) (place_in ws n j t) (λ e.
          let x : get_or marks (place_in ws n i t) 0 ≡ 16 * (t + 1) + i = r.new i (omega arith) in
          let y : get_or marks (place_in ws n j t) 0 ≡ 16 * (t + 1) + j = r.new j (omega arith) in
          omega (arith, ap (λ (v : ℕ). get_or marks v 0) e));
      unexchanged = λ p i j a b. r.still p i j a (omega arith) b;
      marked = λ i a. r.new i (omega arith);
    }

    module _ (k : ℕ) (marks : List ℕ) (r : Marking m s t k marks) (v x : ℕ) (e : v ≡ place_in ws n k t) (b : v < 1024)
        (f : Free ws n k s t (get_or marks v 0)) (g : x ≡ 16 * (t + 1) + k) where
      there : get_or (set marks v x) v 0 ≡ x
      there = get_or-set_same marks v x 0 (omega (arith, r.size))

      new_more : (i : ℕ) → i < k + 1 → Dec (i ≡ k) → get_or (set marks v x) (place_in ws n i t) 0 ≡ 16 * (t + 1) + i
      new_more i a (yes o) = rw o (rw (← e) (there ∙ g))
      new_more i a (no o) =
          let old : get_or marks (place_in ws n i t) 0 ≡ 16 * (t + 1) + i = r.new i (omega arith) in
          get_or-set_other marks v (place_in ws n i t) x 0 (λ d. omega (arith, ap (λ (p : ℕ). get_or marks p 0) d, f.unmarked)) ∙ old

      old_more : 0 < t → (j : ℕ) → j < m → Dec (place_in ws n j s ≡ v)
          → (get_or (set marks v x) (place_in ws n j s) 0 ≡ 16 * t + j) ⊎ (16 * (t + 1) ≤ get_or (set marks v x) (place_in ws n j s) 0)
      old_more p j a (yes o) = inr (rw o (omega (arith, there)))
      old_more p j a (no o) = rw (get_or-set_other marks v (place_in ws n j s) x 0 o) (r.old p j a)

      still_more : 0 < t → (i j : ℕ) → i < j → i < k + 1 → j < m → Dec (i ≡ k) → exchanges ws n i j s ≡ false
      still_more p i j a l d (no o) = r.still p i j a (omega arith) d
      still_more p i j a l d (yes o) = rw o (not_exchanged k j s (λ y z. go (r.old p j d) y z))
        where
          next : s + 1 ≡ t
          next = omega arith

          met : place_in ws n k (s + 1) ≡ place_in ws n j s → place_in ws n j s ≡ v
          met z = sym z ∙ ap (place_in ws n k) next ∙ sym e

          go : (get_or marks (place_in ws n j s) 0 ≡ 16 * t + j) ⊎ (16 * (t + 1) ≤ get_or marks (place_in ws n j s) 0)
              → place_in ws n k s ≡ place_in ws n j (s + 1) → place_in ws n k (s + 1) ≡ place_in ws n j s → ⊥
          go (inl w) y z = f.other j (ap (λ (p : ℕ). get_or marks p 0) (sym (met z)) ∙ w) (λ c. omega arith) (ap (place_in ws n j) (sym next) ∙ sym y)
          go (inr w) y z = omega (arith, ap (λ (p : ℕ). get_or marks p 0) (met z), f.unmarked)

      pub marking_more : Marking m s t (k + 1) (set marks v x)
      marking_more = record {
        size = length-set marks v x ∙ r.size;
        new = λ i a. new_more i a (ℕ_discrete i k);
        old = λ p j a. old_more p j a (ℕ_discrete (place_in ws n j s) v);
        still = λ p i j a l d. still_more p i j a l d (ℕ_discrete i k);
      }

  -- When the scan is at t, after s
  pub record Scanned (m s t : ℕ) (marks : List ℕ) : Type 0 where
    pub size : length marks ≡ 1024
    pub apart : (x : ℕ) → x < t → Apart ws n m x
    pub unexchanged : (x : ℕ) → suc x < t → Unexchanged ws n m x
    pub marked : 0 < t → Marked ws n m s marks

  pub scanned_none : (m : ℕ) (marks : List ℕ) → length marks ≡ 1024 → Scanned m 0 0 marks
  scanned_none m marks l = record {
    size = l;
    apart = λ x a. absurd (omega arith);
    unexchanged = λ x a. absurd (omega arith);
    marked = λ a. absurd (omega arith);
  }

  module _ (m s t : ℕ) (q : s ≡ t - 1) (marks : List ℕ) (r : Scanned m s t marks) where
    pub scanned_more : {next : List ℕ} → Passed ws n m s t next → Scanned m t (t + 1) next
    scanned_more p = record {
      size = p.size;
      apart = λ x a. last x a (ℕ_discrete x t);
      unexchanged = λ x a. step x a (ℕ_discrete x s);
      marked = λ a. p.marked;
    }
      where
        last : (x : ℕ) → x < t + 1 → Dec (x ≡ t) → Apart ws n m x
        last x a (yes o) = rw o p.apart
        last x a (no o) = r.apart x (omega arith)

        step : (x : ℕ) → suc x < t + 1 → Dec (x ≡ s) → Unexchanged ws n m x
        step x a (yes o) = rw o (p.unexchanged (omega arith))
        step x a (no o) = r.unexchanged x (omega arith)

    pub scanned_calm : Calm ws n m s
    scanned_calm x a = (r.apart x (omega arith), r.unexchanged x (omega arith))

-- the times before which there is no collision
module _ (m h : ℕ) (ws : List ℕ) where
  calm_step : (t : ℕ) → t < h → Apart ws (suc h) m t → Unexchanged ws (suc h) m t
      → from_time m h (pieces m (suc h) ws) t ≡ from_time m h (pieces m (suc h) ws) (t + 1)
  calm_step t l a u =
      let ps = pieces m (suc h) ws in
      time_step m h ps t (omega arith)
      ∙ rows_passed (place_collision ps t) (place_collides ps t) m (after_places m h ps t) (λ i j p q. meets_is m (suc h) ws i j t (omega arith) q (omega arith) ∙ a i j p q)
      ∙ moves_follow m h ps t l
      ∙ rows_passed (move_collision ps t) (move_collides ps t) m (from_time m h ps (t + 1)) (λ i j p q. exchanges_is m (suc h) ws i j t (omega arith) q (omega arith) ∙ u i j p q)

  calm_to : (r : ℕ) → r ≤ h → Calm ws (suc h) m r → from_time m h (pieces m (suc h) ws) 0 ≡ from_time m h (pieces m (suc h) ws) r
  calm_to zero l c = refl
  calm_to (suc r) l c =
      calm_to r (omega arith) (λ t a. c t (omega arith))
      ∙ calm_step r l (c r (omega arith)).0 (c r (omega arith)).1
      ∙ ap (from_time m h (pieces m (suc h) ws)) (add-one r)

  pub calm_first : (r : ℕ) → r ≤ h → Calm ws (suc h) m r → first_collision m h (pieces m (suc h) ws) ≡ head_of (from_time m h (pieces m (suc h) ws) r)
  calm_first r l c = first_of_all m h (pieces m (suc h) ws) ∙ ap head_of (calm_to r l c)
