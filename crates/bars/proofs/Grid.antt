-- The padded grid: no two places have one padded number, and the places around a place are one and one row apart; past the
-- grid's edge lies the border. Assumes nothing.
use Rattle.std.proofs.lemmas.Bool.{cases_lt}
use Prim.Native.Nat.{ℕ, suc, ◌+◌, ◌-◌, ◌*◌, ◌/◌, ◌%◌, ◌≤◌, ◌<◌}
use Rattle.std.proofs.Common.{◌≡◌, sym, ap, ◌∙◌, ⊎_elim, mod-lt, div-add-mod', suc-mul, add-mul, mul-add, mul-le-mul, mul_comm, mul-le-mul_right, div-lt_iff_lt-mul, arith, T, leb→le, le→leb, ltb→lt, lt→ltb}
use Rattle.std.proofs.Math.Nat.{add-div_right, mul-add-div_right, div-eq_of_lt}
use Rattle.deck.specs.Sheet.{Sheet, area}
use Rattle.kernel.specs.Near.{has_above, has_left, has_right, has_below}
use Rattle.kernel.proofs.Near.{wide_of, left_row, right_row}
use Rattle.bars.specs.Padded.{pad_of, Border}

-- places of different rows lie more than two apart
rows_apart : (w u v : ℕ) → 0 < w → u / w < v / w → pad_of w u + 3 ≤ pad_of w v
rows_apart w u v z h =
    let a = mul-le-mul_right w h in
    omega (arith, a, suc-mul (u / w) w, div-add-mod' u w, div-add-mod' v w, mod-lt u z)

-- places whose padded numbers are at most two apart are in one row
one_row : (w u v : ℕ) → 0 < w → pad_of w u < pad_of w v + 3 → pad_of w v < pad_of w u + 3 → u / w ≡ v / w
one_row w u v z a b = ⊎_elim (λ h. absurd (omega (arith, rows_apart w u v z h)))
    (λ h. ⊎_elim (λ k. absurd (omega (arith, rows_apart w v u z k))) (λ k. omega arith) (cases_lt (v / w) (u / w))) (cases_lt (u / w) (v / w))

pub pad_inj : (w u v : ℕ) → 0 < w → pad_of w u ≡ pad_of w v → u ≡ v
pad_inj w u v z e = omega (arith, one_row w u v z (omega arith) (omega arith))

-- the padded numbers of one row
pub pad_row : (w y x : ℕ) → 0 < w → x < w → pad_of w (y * w + x) ≡ y * (w + 2) + w + 3 + x
pad_row w y x z h = omega (arith, mul-add-div_right z y x, div-eq_of_lt h, mul-add y w 2)

-- one row on
pub pad_below : (w v : ℕ) → 0 < w → pad_of w (v + w) ≡ pad_of w v + (w + 2)
pad_below w v z = omega (arith, add-div_right v z)

-- the size of the padded grid
pub size_of : (w h : ℕ) → (w + 2) * (h + 1) ≡ w * h + 2 * h + w + 2
size_of w h = omega (arith, add-mul w 2 (h + 1), mul-add w h 1)

pub size_small : (w h : ℕ) → w ≤ 32 → h ≤ 32 → w * h ≤ 1024
size_small w h a b = mul-le-mul a b

module _ (d : Sheet) (v : ℕ) (on : v < area d) where
  wide : 0 < d.width
  wide = wide_of d.width d.height v on

  pub pad_least : d.width + 2 ≤ pad_of d.width v
  pad_least = omega arith

  pub pad_most : pad_of d.width v < (d.width + 2) * (d.height + 1)
  pad_most =
      let r : v / d.width < d.height = (div-lt_iff_lt-mul wide).1 (rw (mul_comm d.height d.width) on) in
      omega (arith, size_of d.width d.height)

  -- from above
  pub pad_above : T (has_above d v) → pad_of d.width (v - d.width) ≡ pad_of d.width v - (d.width + 2)
  pad_above t =
      let l : d.width ≤ v = leb→le d.width v t in
      let e : v - d.width + d.width ≡ v = omega arith in
      omega (arith, rw e at (pad_below d.width (v - d.width) wide))

  pub border_above : ¬ T (has_above d v) → Border d (pad_of d.width v - (d.width + 2))
  border_above n u k e =
      let l : v < d.width = ⊎_elim (λ h. h) (λ h. absurd (n (le→leb d.width v h))) (cases_lt v d.width) in
      omega (arith, div-eq_of_lt l)

  pub pad_left : T (has_left d v) → pad_of d.width (v - 1) ≡ pad_of d.width v - 1
  pad_left t =
      let l : 0 < v % d.width = ltb→lt 0 (v % d.width) t in
      let s = left_row d.width v wide l in
      omega (arith, div-add-mod' v d.width)

  pub border_left : ¬ T (has_left d v) → Border d (pad_of d.width v - 1)
  border_left n u k e =
      let l : v % d.width ≡ 0 = ⊎_elim (λ h. absurd (n (lt→ltb 0 (v % d.width) h))) (λ h. omega arith) (cases_lt 0 (v % d.width)) in
      let r = one_row d.width u v wide (omega arith) (omega arith) in
      let p : u / d.width * d.width ≡ v / d.width * d.width = ap (λ (x : ℕ). x * d.width) r in
      omega (arith, div-add-mod' u d.width, div-add-mod' v d.width)

  pub pad_right : T (has_right d v) → pad_of d.width (v + 1) ≡ pad_of d.width v + 1
  pad_right t =
      let s = right_row d.width v (ltb→lt (suc (v % d.width)) d.width t) in
      omega (arith, s.0)

  pub border_right : ¬ T (has_right d v) → Border d (pad_of d.width v + 1)
  border_right n u k e =
      let l : d.width ≤ suc (v % d.width) = ⊎_elim (λ h. absurd (n (lt→ltb (suc (v % d.width)) d.width h))) (λ h. h) (cases_lt (suc (v % d.width)) d.width) in
      let r = one_row d.width u v wide (omega arith) (omega arith) in
      let p : u / d.width * d.width ≡ v / d.width * d.width = ap (λ (x : ℕ). x * d.width) r in
      omega (arith, div-add-mod' u d.width, div-add-mod' v d.width, mod-lt u wide)

  pub border_below : ¬ T (has_below d v) → Border d (pad_of d.width v + (d.width + 2))
  border_below n u k e =
      let l : area d ≤ v + d.width = ⊎_elim (λ h. absurd (n (lt→ltb (v + d.width) (area d) h))) (λ h. h) (cases_lt (v + d.width) (area d)) in
      let i = pad_inj d.width u (v + d.width) wide (e ∙ sym (pad_below d.width v wide)) in
      omega arith
