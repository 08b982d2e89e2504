-- A layer copied to the table row by row. Assumes nothing.
use Rattle.std.proofs.Common.{ℕ, ◌+◌, ◌-◌, ◌*◌, ◌≤◌, ◌<◌, ◌≡◌, ap, ◌∙◌, ⊎_elim, List, suc-mul, add-mul, mul-add, mul_comm, mul-le-mul_right, arith, length, get_or, rules, drop, sym}
use Rattle.std.proofs.lemmas.Bool.{cases_lt}
use borrow.Rule.Slice.PartMut.{put_mid, same_len_mid}
use Rattle.std.specs.List.{between}
use Rattle.std.proofs.lemmas.List.{places, length-drop, length-take-le}
use Rattle.std.proofs.lemmas.List.Edits.{length-between, get_or-between}
use Rattle.bars.specs.Padded.{pad_of}
use Rattle.bars.proofs.Grid.{pad_row, size_small}
use Rattle.layers.specs.Fill.{Filled}
use Rattle.layers.proofs.Fills.{filled_all}

rows_in : (w h y : ℕ) → y < h → y * w + w ≤ w * h
rows_in w h y l = omega (arith, suc-mul y w, mul-le-mul_right w l, mul_comm h w)

-- a part of a list with another written over it
filled_part : (xs ys : List ℕ) (a k : ℕ) → a + k ≤ length xs → length ys ≡ k → Filled a (a + k) (λ p. get_or ys (p - a) 0) xs (put_mid a k xs ys)
filled_part xs ys a k l e = record {
  size = same_len_mid a k xs ys (e ∙ sym (length-take-le k (drop a xs) (omega (arith, length-drop a xs))));
  inside = λ p b c. search (rules, places);
  below = λ p b. search (rules, places);
  above = λ p b. search (rules, places);
}

module _ (layer : List ℕ) (w h at : ℕ) (z : 1 ≤ w) where
  -- what the table has at p
  abbrev pub entry : ℕ → ℕ
  entry p = get_or layer (pad_of w (p - at)) 0

  -- after the row y is copied
  pub rows_more : (y : ℕ) → y < h → w ≤ 32 → h ≤ 32 → (first table : List ℕ) → at + w * h ≤ length first → length layer ≡ 1156 → Filled at (at + y * w) entry first table
      → (k : ℕ) → k ≡ w → (row : List ℕ) → row ≡ between (y * (w + 2) + w + 3) (y * (w + 2) + w + 3 + w) layer
      → Filled at (at + (y + 1) * w) entry first (put_mid (at + y * w) k table row)
  rows_more y l a b first table r n f k e row c =
      let from : ℕ = y * (w + 2) + w + 3 in
      let in_layer : from + w ≤ 1156 = omega (arith, mul-add y w 2, rows_in w h y l, size_small w h a b) in
      let long : length row ≡ k = rw c (length-between layer from (from + w) (omega arith) ∙ omega arith) in
      let g = filled_part table row (at + y * w) k (omega (arith, rows_in w h y l, f.size)) long in
      filled_all at entry first (omega (arith, add-mul y 1 w)) (record {
        size = g.size ∙ f.size;
        inside = λ p a b. ⊎_elim (λ i. g.below p i ∙ f.inside p a i) (λ i. g.inside p i b ∙ same p i (omega arith)) (cases_lt p (at + y * w));
        below = λ p a. g.below p (omega arith) ∙ f.below p a;
        above = λ p a. g.above p a ∙ f.above p (omega arith);
      })
    where
      same : (p : ℕ) → at + y * w ≤ p → p < at + y * w + w → get_or row (p - (at + y * w)) 0 ≡ entry p
      same p a b =
          let q : p - at ≡ y * w + (p - (at + y * w)) = omega arith in
          rw c (get_or-between layer (y * (w + 2) + w + 3) (y * (w + 2) + w + 3 + w) (p - (at + y * w)) 0 (omega arith)
          ∙ ap (λ (i : ℕ). get_or layer i 0) (rw q (omega (arith, pad_row w y (p - (at + y * w)) z (omega arith)))))
