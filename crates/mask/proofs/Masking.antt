-- The mask, made row by row out of the sheet's grid bytes. Assumes nothing.
use Rattle.std.proofs.Common.{ℕ, zero, suc, ◌+◌, ◌-◌, ◌*◌, ◌≤◌, ◌<◌, max, ◌≡◌, refl, sym, ap, ◌∙◌, subst, true, List, [], ◌∷◌, length, get_or, take, drop, replicate, None, T, ltb, arith, ⊎_elim, mul-add, add-mul, suc-mul, mul_comm, mul-le-mul_right, div-lt_iff_lt-mul, ltb→lt, lt-ltb}
use Rattle.std.proofs.lemmas.Bool.{cases_lt}
use Rattle.std.specs.List.{fold, between}
use Rattle.std.proofs.lemmas.List.{length-replicate, get_or-replicate}
use Rattle.std.proofs.Math.ListN.{get_or-eq_default}
use Rattle.std.proofs.lemmas.List.Edits.{length-between, get_or-between}
use Rattle.deck.specs.Sheet.{Sheet, read, area, cause, grid_pair, grid_stretch}
use Rattle.meaning.proofs.Accepted.{accepted, accepted_inside, directory_says}
use Rattle.sheet.proofs.Accepted.{width_range, height_range, grid_length}
use Rattle.bars.specs.Padded.{pad_of, shade_of, shade, MaskOf}
use Rattle.bars.proofs.Grid.{pad_row, size_of, size_small}
use Rattle.layers.specs.Fill.{Filled}
use Rattle.mask.specs.Mask.{Most, Plain, Masked}

-- none of the bytes is greater than the greatest
pub most_fold : (a : ℕ) (l : List ℕ) → (a ≤ fold max a l) × Most l (fold max a l)
most_fold a [] = (omega arith, λ k h. absurd (omega arith))
most_fold a (b ∷ l) = let r = most_fold (max a b) l in (omega (arith, r.0), at r)
  where
    at : (max a b ≤ fold max (max a b) l) × Most l (fold max (max a b) l) → Most (b ∷ l) (fold max (max a b) l)
    at r zero h = omega (arith, r.0)
    at r (suc k) h = r.1 k (omega arith)

module _ (s : List ℕ) (ok : cause s ≡ None) where
  abbrev d : Sheet
  d = read s

  abbrev w : ℕ
  w = (read s).width

  z : 0 < w
  z = (width_range s ok).0

  grid_size : (grid_stretch s).size ≡ area d
  grid_size = ((directory_says s).fact (accepted s ok).directory).0.0.1

  pub grid_inside : (grid_stretch s).offset + area d ≤ length s
  grid_inside = let e = accepted_inside s ok grid_pair (omega arith) in omega (arith, grid_size)

  -- the part of the sheet with the grid's bytes
  pub grid_part : {o n : ℕ} → o ≡ (grid_stretch s).offset → n ≡ area d → take (o + n - o) (drop o s) ≡ d.grid
  grid_part {o} {n} e f = let q : o + n - o ≡ (grid_stretch s).size = omega (arith, grid_size) in rw (q, e) refl

  shade_at : (v : ℕ) → v < area d → shade_of (get_or d.grid v 0) ≡ shade d v
  unfolding shade
  shade_at v h = rw (lt-ltb v (area d) h) refl

  rows_in : (y : ℕ) → y < d.height → y * w + w ≤ area d
  rows_in y h = omega (arith, suc-mul y w, mul-le-mul_right w h, mul_comm d.height w)

  -- a row of the grid: its length, its bytes, and where the mask has room for it
  abbrev row : ℕ → List ℕ
  row y = between (y * w) (y * w + w) d.grid

  pub row_end : (y : ℕ) → y < d.height → y * w + w ≤ length d.grid
  row_end y h = omega (arith, rows_in y h, grid_length s ok)

  row_length : (y : ℕ) → y < d.height → length (row y) ≡ w
  row_length y h = length-between d.grid (y * w) (y * w + w) (row_end y h) ∙ omega arith

  row_at : (y x : ℕ) → x < w → get_or (row y) x 0 ≡ get_or d.grid (y * w + x) 0
  row_at y x h = get_or-between d.grid (y * w) (y * w + w) x 0 (omega arith)

  pub row_room : (y : ℕ) → y < d.height → y * (w + 2) + w + 3 + length (row y) ≤ 1156
  row_room y h = omega (
    arith,
    row_length y h,
    suc-mul y (w + 2),
    mul-le-mul_right (w + 2) h,
    mul_comm d.height (w + 2),
    size_of w d.height,
    mul-add (w + 2) d.height 1,
    size_small w d.height (width_range s ok).1 (height_range s ok).1,
    (width_range s ok).1,
    (height_range s ok).1,
  )

  -- of bytes without lanes each row is without lanes
  pub row_plain : (y : ℕ) → y < d.height → fold max 0 d.grid < 2 → Plain (row y)
  row_plain y h l k b =
      let x : k < w = omega (arith, row_length y h) in
      rw (row_at y k x) (omega (arith, (most_fold 0 d.grid).1 (y * w + k) (omega (arith, row_end y h))))

  pub mask_none : Masked d 0 (replicate 1156 0)
  mask_none = record { size = length-replicate {A = ℕ} 1156 0; inside = λ v h. absurd (omega arith); border = λ p b. zeros p }
    where
      zeros : (q : ℕ) → get_or {A = ℕ} (replicate 1156 0) q 0 ≡ 0
      zeros q = ⊎_elim (λ h. get_or-replicate {A = ℕ} 1156 q 0 0 h)
          (λ h. get_or-eq_default (replicate {A = ℕ} 1156 0) 0 {n = q} (omega (arith, length-replicate {A = ℕ} 1156 0))) (cases_lt q 1156)

  -- one row more
  pub mask_more : (y : ℕ) → y < d.height → (before after : List ℕ) → Masked d (y * w) before
      → Filled (y * (w + 2) + w + 3) (y * (w + 2) + w + 3 + length (row y)) (λ p. shade_of (get_or (row y) (p - (y * (w + 2) + w + 3)) 0)) before after
      → Masked d ((y + 1) * w) after
  mask_more y h before after m f =
      let e : (y + 1) * w ≡ y * w + w = omega (arith, add-mul y 1 w) in
      rw e (record {
        size = f.size ∙ m.size;
        inside = λ v l. ⊎_elim (λ a. f.below (pad_of w v) (lower v a) ∙ m.inside v a) (λ a. new v a l) (cases_lt v (y * w));
        border = λ p b. ⊎_elim
            (λ a. f.below p a ∙ m.border p (λ v l. b v (omega arith)))
            (λ a. ⊎_elim
            (λ c. absurd (b (y * w + (p - (y * (w + 2) + w + 3))) (omega arith) (pad_row w y (p - (y * (w + 2) + w + 3)) z (omega arith) ∙ omega arith)))
            (λ c. f.above p (omega (arith, row_length y h)) ∙ m.border p (λ v l. b v (omega arith))) (cases_lt p (y * (w + 2) + w + 3 + w)))
            (cases_lt p (y * (w + 2) + w + 3));
      })
    where
      lower : (v : ℕ) → v < y * w → pad_of w v < y * (w + 2) + w + 3
      lower v a = omega (arith, (div-lt_iff_lt-mul z).1 a, mul-add y w 2)

      new : (v : ℕ) → y * w ≤ v → v < y * w + w → get_or after (pad_of w v) 0 ≡ shade d v
      new v a b =
          let x : ℕ = v - y * w in
          let q : v ≡ y * w + x = omega arith in
          let p : pad_of w v ≡ y * (w + 2) + w + 3 + x = ap (pad_of w) q ∙ pad_row w y x z (omega arith) in
          let g : pad_of w v - (y * (w + 2) + w + 3) ≡ x = omega arith in
          f.inside (pad_of w v) (omega arith) (omega (arith, row_length y h))
          ∙ ap (λ (k : ℕ). shade_of (get_or (row y) k 0)) g
          ∙ ap shade_of (row_at y x (omega arith) ∙ ap (λ (k : ℕ). get_or d.grid k 0) (sym q))
          ∙ shade_at v (omega (arith, rows_in y h))

  pub mask_all : (n : ℕ) (mask : List ℕ) → n ≡ d.height → Masked d (n * w) mask → MaskOf d mask
  mask_all n mask e m =
      let q : n * w ≡ area d = ap (λ (k : ℕ). k * w) e ∙ mul_comm d.height w in
      record { size = m.size; inside = λ v h. m.inside v (omega arith); border = λ p b. m.border p (λ v h. b v (omega arith)) }

  -- the same in the numbers of the code
  module _ {w1 : ℕ} {grid : List ℕ} (ew : w1 ≡ w) (eg : grid ≡ d.grid) (y : ℕ) (h : y < d.height) where
    abbrev code_row : List ℕ
    code_row = take (y * w1 + w1 - y * w1) (drop (y * w1) grid)

    pub code_end : y * w1 + w1 ≤ length grid
    code_end = rw (ew, eg) (row_end y h)

    pub code_asks : (y * (w1 + 2) + w1 + 3 + length code_row ≤ 1156) × (ltb (fold max 0 grid) 2 ≡ true → Plain code_row)
    code_asks = (rw (ew, eg) (row_room y h), λ t. rw (ew, eg) (row_plain y h (ltb→lt (fold max 0 d.grid) 2 (subst (λ (g : List ℕ). T (ltb (fold max 0 g) 2)) eg (subst T (sym t) tt)))))

    pub code_more : (before after : List ℕ) → Masked d (y * w) before
        → Filled (y * (w1 + 2) + w1 + 3) (y * (w1 + 2) + w1 + 3 + length code_row) (λ p. shade_of (get_or code_row (p - (y * (w1 + 2) + w1 + 3)) 0)) before after
        → Masked d ((y + 1) * w) after
    code_more before after m f = mask_more y h before after m
        (subst (λ (l : List ℕ). Filled (y * (w + 2) + w + 3) (y * (w + 2) + w + 3 + length (take (y * w + w - y * w) (drop (y * w) l)))
        (λ p. shade_of (get_or (take (y * w + w - y * w) (drop (y * w) l)) (p - (y * (w + 2) + w + 3)) 0)) before after) eg
        (subst (λ (k : ℕ). Filled (y * (k + 2) + k + 3) (y * (k + 2) + k + 3 + length (take (y * k + k - y * k) (drop (y * k) grid)))
        (λ p. shade_of (get_or (take (y * k + k - y * k) (drop (y * k) grid)) (p - (y * (k + 2) + k + 3)) 0)) before after) ew f))
