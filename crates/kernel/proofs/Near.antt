-- The places around a place are those to which, and from which, a step may go; they stand rising. Assumes nothing.
use Rattle.std.proofs.Common.{ℕ, zero, suc, ◌+◌, ◌-◌, ◌*◌, ◌/◌, ◌%◌, ◌≤◌, ◌<◌, ◌≡◌, refl, sym, ap, ◌∙◌, ◌⊎◌, inl, inr, ⊎_elim, Bool, true, false, List, [], ◌∷◌, mod-lt, div-add-mod', suc-mul, zero-mul, mul_comm, mul-le-mul_right, div-lt_iff_lt-mul, mod-eq_of_lt, arith, T, leb→le, le→leb, ltb→lt, lt→ltb}
use Rattle.deck.proofs.Members.{Mem, here, there, not-nil, cases_cons}
use Rattle.std.proofs.Math.Nat.{add-div_right, add-mod_right, mul-add-div_right, mul-add-mod_self_right, div-eq_of_lt}
use Rattle.deck.specs.Sheet.{Sheet, area}
use Rattle.meaning.specs.Meaning.{OneApart, NextTo}
use Rattle.meaning.specs.Sorted.{Sorted}
use Rattle.kernel.specs.Near.{cons_if, has_above, has_left, has_right, has_below, near}

pub in_first : (b : Bool) (x : ℕ) (l : List ℕ) → T b → Mem x (cons_if b x l)
in_first true x l t = here refl
in_first false x l t = absurd t

pub in_rest : (b : Bool) (x : ℕ) (l : List ℕ) {y : ℕ} → Mem y l → Mem y (cons_if b x l)
in_rest true x l m = there m
in_rest false x l m = m

pub cases_if : (b : Bool) (x : ℕ) (l : List ℕ) {y : ℕ} → Mem y (cons_if b x l) → (T b × (y ≡ x)) ⊎ Mem y l
cases_if true x l m = ⊎_elim (λ e. inl (tt, e)) (λ n. inr n) (cases_cons m)
cases_if false x l m = inr m

-- x in front of a rising list of greater numbers
rising_if : (b : Bool) (x : ℕ) (l : List ℕ) → (T b → (y : ℕ) → Mem y l → x < y) → Sorted ◌<◌ l → Sorted ◌<◌ (cons_if b x l)
rising_if true x l h s = (h tt, s)
rising_if false x l h s = s

pub wide_of : (w h u : ℕ) → u < w * h → 0 < w
wide_of zero h u l = absurd (omega (arith, zero-mul h))
wide_of (suc w) h u l = omega arith

-- the row and the column of a place one row on
pub below_row : (w u : ℕ) → 0 < w → ((u + w) / w ≡ suc (u / w)) × ((u + w) % w ≡ u % w)
below_row w u h = (omega (arith, add-div_right u h), add-mod_right u w)

-- the row and the column of the place to the right
pub right_row : (w u : ℕ) → suc (u % w) < w → ((u + 1) / w ≡ u / w) × ((u + 1) % w ≡ suc (u % w))
right_row w u h =
    let z : 0 < w = omega arith in
    let e : u + 1 ≡ u / w * w + suc (u % w) = omega (arith, div-add-mod' u w) in (
      rw e (mul-add-div_right z (u / w) (suc (u % w)) ∙ omega (arith, div-eq_of_lt h)),
      rw e (mul-add-mod_self_right (u / w) w (suc (u % w)) ∙ mod-eq_of_lt h),
    )

-- the row and the column of the place to the left
pub left_row : (w u : ℕ) → 0 < w → 0 < u % w → ((u - 1) / w ≡ u / w) × ((u - 1) % w ≡ u % w - 1)
left_row w u z h =
    let k : u - 1 ≡ u / w * w + (u % w - 1) = omega (arith, div-add-mod' u w) in
    let b : u % w - 1 < w = omega (arith, mod-lt u z) in (
      rw k (mul-add-div_right z (u / w) (u % w - 1) ∙ omega (arith, div-eq_of_lt b)),
      rw k (mul-add-mod_self_right (u / w) w (u % w - 1) ∙ mod-eq_of_lt b),
    )

-- places of one row, one column apart; and of one column, one row apart
right_of : (w u v : ℕ) → u / w ≡ v / w → suc (u % w) ≡ v % w → v ≡ u + 1
right_of w u v a b =
    let e : u / w * w ≡ v / w * w = ap (λ (x : ℕ). x * w) a in omega (arith, div-add-mod' u w, div-add-mod' v w)

below_of : (w u v : ℕ) → u % w ≡ v % w → suc (u / w) ≡ v / w → v ≡ u + w
below_of w u v a b =
    let e : suc (u / w) * w ≡ v / w * w = ap (λ (x : ℕ). x * w) b in
    omega (arith, div-add-mod' u w, div-add-mod' v w, suc-mul (u / w) w)

one_apart_turned : (a b : ℕ) → OneApart a b → OneApart b a
one_apart_turned a b (inl e) = inr e
one_apart_turned a b (inr e) = inl e

module _ (d : Sheet) where
  -- the same seen from either place: a law of `NextTo`, not of `Beside`, which a step asks for
  pub next_turned : (u v : ℕ) → NextTo d.width u v → NextTo d.width v u
  next_turned u v (inl (a, b)) = inl (sym a, one_apart_turned (u % d.width) (v % d.width) b)
  next_turned u v (inr (a, b)) = inr (sym a, one_apart_turned (u / d.width) (v / d.width) b)

  -- the places next to a place are among those around it
  pub next_near : (u v : ℕ) → u < area d → v < area d → NextTo d.width u v → Mem v (near d u)
  next_near u v a b h = go h
    where
      z : 0 < d.width
      z = wide_of d.width d.height u a

      from_here : (x : ℕ) → Mem x (u ∷ cons_if (has_right d u) (u + 1) (cons_if (has_below d u) (u + d.width) [])) → Mem x (near d u)
      from_here x m =
          in_rest (has_above d u) (u - d.width) (cons_if (has_left d u) (u - 1) (u ∷ cons_if (has_right d u) (u + 1) (cons_if (has_below d u) (u + d.width) [])))
          (in_rest (has_left d u) (u - 1) (u ∷ cons_if (has_right d u) (u + 1) (cons_if (has_below d u) (u + d.width) [])) m)

      go : NextTo d.width u v → Mem v (near d u)
      go (inl (a, inl e)) =
          let i : v ≡ u + 1 = right_of d.width u v a e in
          let l : suc (u % d.width) < d.width = omega (arith, mod-lt v z) in
          let t : T (has_right d u) = lt→ltb (suc (u % d.width)) d.width l in
          rw i (from_here (u + 1) (there (in_first (has_right d u) (u + 1) (cons_if (has_below d u) (u + d.width) []) t)))
      go (inl (a, inr e)) =
          let i : u ≡ v + 1 = right_of d.width v u (sym a) e in
          let l : 0 < u % d.width = omega arith in
          let t : T (has_left d u) = lt→ltb 0 (u % d.width) l in
          let k : v ≡ u - 1 = omega arith in
          rw k
          (in_rest (has_above d u) (u - d.width) (cons_if (has_left d u) (u - 1) (u ∷ cons_if (has_right d u) (u + 1) (cons_if (has_below d u) (u + d.width) [])))
          (in_first (has_left d u) (u - 1) (u ∷ cons_if (has_right d u) (u + 1) (cons_if (has_below d u) (u + d.width) [])) t))
      go (inr (a, inl e)) =
          let i : v ≡ u + d.width = below_of d.width u v a e in
          let l : u + d.width < area d = omega arith in
          let t : T (has_below d u) = lt→ltb (u + d.width) (area d) l in
          rw i
          (from_here (u + d.width) (there (in_rest (has_right d u) (u + 1) (cons_if (has_below d u) (u + d.width) []) (in_first (has_below d u) (u + d.width) [] t))))
      go (inr (a, inr e)) =
          let i : u ≡ v + d.width = below_of d.width v u (sym a) e in
          let l : d.width ≤ u = omega arith in
          let t : T (has_above d u) = le→leb d.width u l in
          let k : v ≡ u - d.width = omega arith in
          rw k (in_first (has_above d u) (u - d.width) (cons_if (has_left d u) (u - 1) (u ∷ cons_if (has_right d u) (u + 1) (cons_if (has_below d u) (u + d.width) []))) t)

  pub self_near : (u : ℕ) → Mem u (near d u)
  self_near u =
      in_rest (has_above d u) (u - d.width) (cons_if (has_left d u) (u - 1) (u ∷ cons_if (has_right d u) (u + 1) (cons_if (has_below d u) (u + d.width) [])))
      (in_rest (has_left d u) (u - 1) (u ∷ cons_if (has_right d u) (u + 1) (cons_if (has_below d u) (u + d.width) [])) (here refl))

  -- each place around is the place itself or one next to it, and on the grid
  pub above_next : (u : ℕ) → u < area d → T (has_above d u) → NextTo d.width u (u - d.width)
  above_next u a t =
      let e : u ≡ (u - d.width) + d.width = omega (arith, leb→le d.width u t) in
      let r = below_row d.width (u - d.width) (wide_of d.width d.height u a) in
      inr (ap (λ (x : ℕ). x % d.width) e ∙ r.1, inr (sym (ap (λ (x : ℕ). x / d.width) e ∙ r.0)))

  pub left_next : (u : ℕ) → u < area d → T (has_left d u) → NextTo d.width u (u - 1)
  left_next u a t =
      let z : 0 < d.width = wide_of d.width d.height u a in
      let h : 0 < u % d.width = ltb→lt 0 (u % d.width) t in
      let r = left_row d.width u z h in
      inl (sym r.0, inr (omega (arith, r.1)))

  pub right_next : (u : ℕ) → T (has_right d u) → NextTo d.width u (u + 1)
  right_next u t = let r = right_row d.width u (ltb→lt (suc (u % d.width)) d.width t) in inl (sym r.0, inl (sym r.1))

  -- the place to the right is in the same row, so on the grid
  pub right_inside : (u : ℕ) → u < area d → T (has_right d u) → u + 1 < area d
  right_inside u a t =
      let z : 0 < d.width = wide_of d.width d.height u a in
      let l : suc (u % d.width) < d.width = ltb→lt (suc (u % d.width)) d.width t in
      let r : u / d.width < d.height = (div-lt_iff_lt-mul z).1 (rw (mul_comm d.height d.width) a) in
      let m = mul-le-mul_right d.width r in
      omega (arith, m, suc-mul (u / d.width) d.width, div-add-mod' u d.width, mul_comm d.height d.width)

  pub below_next : (u : ℕ) → u < area d → NextTo d.width u (u + d.width)
  below_next u a = let r = below_row d.width u (wide_of d.width d.height u a) in inr (sym r.1, inl (sym r.0))

  pub near_rising : 0 < d.width → (u : ℕ) → Sorted ◌<◌ (near d u)
  near_rising z u =
      rising_if (has_above d u) (u - w) (cons_if (has_left d u) (u - 1) (u ∷ cons_if (has_right d u) (u + 1) (cons_if (has_below d u) (u + w) [])))
      (λ t y m. ⊎_elim (λ e. over_left (leb→le d.width u t) e.0 e.1) (λ n. under_self y n (λ g. omega (arith, leb→le d.width u t, z)))
      (cases_if (has_left d u) (u - 1) (u ∷ cons_if (has_right d u) (u + 1) (cons_if (has_below d u) (u + w) [])) m))
      (rising_if (has_left d u) (u - 1) (u ∷ cons_if (has_right d u) (u + 1) (cons_if (has_below d u) (u + w) []))
      (λ t y m. under_self y m (λ g. omega (arith, nonzero t))) (
        λ y m. greater y m,
        rising_if (has_right d u) (u + 1) (cons_if (has_below d u) (u + w) [])
            (λ t y m. ⊎_elim (λ e. omega (arith, e.1, ltb→lt (suc (u % d.width)) d.width t)) (λ n. absurd (not-nil n)) (cases_if (has_below d u) (u + w) [] m))
            (rising_if (has_below d u) (u + w) [] (λ t y m. absurd (not-nil m)) tt),
      ))
    where
      w : ℕ
      w = d.width

      nonzero : T (has_left d u) → 0 < u
      nonzero t = omega (arith, ltb→lt 0 (u % d.width) t, div-add-mod' u d.width)

      greater : (y : ℕ) → Mem y (cons_if (has_right d u) (u + 1) (cons_if (has_below d u) (u + d.width) [])) → u < y
      greater y m = ⊎_elim (λ e. omega (arith, e.1)) (λ n. ⊎_elim (λ e. omega (arith, e.1, z)) (λ k. absurd (not-nil k)) (cases_if (has_below d u) (u + d.width) [] n))
          (cases_if (has_right d u) (u + 1) (cons_if (has_below d u) (u + d.width) []) m)

      under_self : {x : ℕ} (y : ℕ) → Mem y (u ∷ cons_if (has_right d u) (u + 1) (cons_if (has_below d u) (u + d.width) [])) → (Unit {0} → x < u) → x < y
      under_self y m h = ⊎_elim (λ e. omega (arith, h tt, e)) (λ n. omega (arith, h tt, greater y n)) (cases_cons m)

      over_left : {y : ℕ} → d.width ≤ u → T (has_left d u) → y ≡ u - 1 → u - d.width < y
      over_left l t e = omega (arith, e, ltb→lt 0 (u % d.width) t, mod-lt u z)
