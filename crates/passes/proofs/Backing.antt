-- The layers of the backward pass in the workspace: each has room, and writing one leaves the others. Assumes nothing.
use Rattle.std.proofs.Common.{ℕ, suc, ◌+◌, ◌-◌, ◌*◌, ◌≤◌, ◌<◌, ◌≡◌, ap, ap₂, ◌∙◌, subst, List, length, get_or, ltb, arith, ⊎_elim, le_trans, eq-or-lt_of_le, mul-le-mul, mul-le-mul_right, suc-mul}
use Rattle.sheet.proofs.Accepted.{start_on_grid}
use Rattle.deck.specs.Sheet.{read, area, start_of, goals_of}
use Rattle.deck.specs.Calls.{constraints_of}
use Rattle.deck.specs.declared.Carrier.{Carrier}
use Rattle.deck.specs.declared.Task.{Task}
use Rattle.kernel.specs.Labels.{all_goals}
use Rattle.kernel.specs.Kernel.{hind}
use Rattle.bars.specs.Padded.{pad_of, Holds}
use Rattle.layers.specs.Packed.{Kept, words_for, Laid}
use Rattle.layers.proofs.Keeping.{kept_laid, laid_stays, words_fit}
use Rattle.passes.specs.Ready.{Ready, Sized, layer_at, Backed}
use Rattle.passes.proofs.Given.{wide_one, wide_most, high_most, horizon_most, all_counted}

module _ (s : List ℕ) (i : Carrier) (j : Task) (mask rs : List ℕ) (r : Ready s i j mask rs) where
  abbrev many : ℕ
  many = words_for (read s).width (read s).height

  -- how much that is at most
  pub rows_small : ((read s).width + 2) * (read s).height ≤ 1088
  rows_small = mul-le-mul {n₂ = 34} {m₂ = 32} (omega (arith, wide_most r)) (high_most r)

  pub words_small : many ≤ 272
  words_small = omega (arith, rows_small)

  pub times_words : (t : ℕ) → t ≤ (read s).horizon → t * many ≤ 69360
  times_words t h = le_trans (mul-le-mul {n₂ = 255} {m₂ = 272} (omega (arith, horizon_most r)) words_small) (omega arith)

  -- the layer of each time has room
  pub layer_in : (t : ℕ) → t ≤ (read s).horizon → layer_at s t + words_for (read s).width (read s).height ≤ suc (read s).horizon * area (read s)
  layer_in t l =
      let a = mul-le-mul {n₁ = suc t} {m₁ = many} {n₂ = suc (read s).horizon} {m₂ = area (read s)} (omega arith) (words_fit (read s).width (read s).height (wide_one r)) in
      omega (arith, suc-mul t many)

module _ (s : List ℕ) (i : Carrier) (j : Task) (mask rs : List ℕ) (r : Ready s i j mask rs) (w h : ℕ) (sized : Sized s w h) where
  -- the same in the numbers of the code
  pub code_rows : (w + 2) * h ≤ 1088
  code_rows = rw (sized.0, sized.1) (rows_small s i j mask rs r)

  pub code_times : (t : ℕ) → t ≤ (read s).horizon → t * words_for w h ≤ 69360
  code_times t l = rw (sized.0, sized.1) (times_words s i j mask rs r t l)

  pub layer_room : (t : ℕ) (words : List ℕ) → t ≤ (read s).horizon → suc (read s).horizon * area (read s) ≤ length words → t * words_for w h + words_for w h ≤ length words
  layer_room t words l room = rw (sized.0, sized.1) (omega (arith, layer_in s i j mask rs r t l))

  -- and later times have later words
  layers_apart : (t u : ℕ) → t < u → layer_at s t + words_for (read s).width (read s).height ≤ layer_at s u
  layers_apart t u l = omega (arith, suc-mul t (words_for (read s).width (read s).height), mul-le-mul_right (words_for (read s).width (read s).height) l)

  -- what is kept, in the sheet's numbers
  kept_at_sheet : (t : ℕ) {x before after : List ℕ} → Kept x (w + 2) (t * words_for w h) (words_for w h) before after → Kept x ((read s).width + 2) (layer_at s t) (words_for (read s).width (read s).height) before after
  kept_at_sheet t {x} {before} {after} k = subst (λ (z : ℕ). Kept x (z + 2) (t * words_for z (read s).height) (words_for z (read s).height) before after) sized.0
      (subst (λ (z : ℕ). Kept x (w + 2) (t * words_for w z) (words_for w z) before after) sized.1 k)

  -- the first layer of the pass
  pub backed_first : (end : ℕ) {layer words after : List ℕ} → suc (read s).horizon * area (read s) ≤ length words
      → Holds (read s) layer (hind (read s) i j (constraints_of rs) 0 end) → Kept layer (w + 2) (end * words_for w h) (words_for w h) words after
      → Holds (read s) layer (hind (read s) i j (constraints_of rs) (end - end) end) × Backed s i j rs end end after
  backed_first end {layer} {words} {after} room hs k =
      let z : end - end ≡ 0 = omega arith in
      let q = kept_at_sheet end k in (
        rw z hs,
        record {
          room = omega (arith, q.size);
          layers = λ u a b. let e : u ≡ end = omega arith in rw (e, z) (kept_laid (read s) layer (hind (read s) i j (constraints_of rs) 0 end) (layer_at s end) hs q);
        },
      )

  -- one layer more
  pub backed_next : (end t : ℕ) {layer words after : List ℕ} → t < end → Backed s i j rs end (t + 1) words
      → Holds (read s) layer (hind (read s) i j (constraints_of rs) (end - t) t) → Kept layer (w + 2) (t * words_for w h) (words_for w h) words after
      → Backed s i j rs end t after
  backed_next end t {layer} {words} {after} l b hs k =
      let q = kept_at_sheet t k in
      record {
        room = omega (arith, q.size, b.room);
        layers = λ u a x. ⊎_elim
            (λ e. subst (λ (z : ℕ). Laid (read s) after (layer_at s z) (hind (read s) i j (constraints_of rs) (end - z) z)) e
            (kept_laid (read s) layer (hind (read s) i j (constraints_of rs) (end - t) t) (layer_at s t) hs q))
            (λ m. laid_stays (read s) (hind (read s) i j (constraints_of rs) (end - u) u) (layer_at s u) words after
            (λ p y z. q.above p (omega (arith, layers_apart t u m))) (b.layers u (omega arith) x))
            (eq-or-lt_of_le a);
      }

  -- the answer, read off the layer of time 0 at the start
  pub back_answer : (end p v n : ℕ) {x : List ℕ} → Holds (read s) x (hind (read s) i j (constraints_of rs) (end - 0) 0)
      → n ≡ length (goals_of (read s) j) → p ≡ pad_of w (start_of (read s) i) → v ≡ get_or x p 0
      → ltb n v ≡ ltb (all_goals (read s) j) (hind (read s) i j (constraints_of rs) end 0 (start_of (read s) i))
  back_answer end p v n {x} hs en ep ev =
      let z : end - 0 ≡ end = omega arith in
      let y : Holds (read s) x (hind (read s) i j (constraints_of rs) end 0) = subst (λ (k : ℕ). Holds (read s) x (hind (read s) i j (constraints_of rs) k 0)) z hs in
      ap₂ ltb (all_counted r en)
      (ev ∙ ap (λ (k : ℕ). get_or x k 0) (ep ∙ ap (λ (k : ℕ). pad_of k (start_of (read s) i)) sized.0) ∙ y.inside (start_of (read s) i) (start_on_grid s r.accepted i))
