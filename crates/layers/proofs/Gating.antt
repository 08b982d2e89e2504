-- Bytes of the mask in the code's tests, of a lane and of a way's bit, and the doors made of them. Assumes nothing.
use Prim.Native.Nat.{ℕ, ◌+◌, ◌-◌, ◌*◌, ◌≤◌, max, min}
use Rattle.std.proofs.Common.{◌≡◌, refl, sym, subst, ⊎_elim, ◌≢◌, Bool, true, false, cond, List, arith, get_or}
use Rattle.std.specs.Prelude.{Option, None, Some}
use Rattle.std.specs.Borrow.{Bor}
use Rattle.bars.specs.Ways.{turn_of, opens_by}
use Rattle.layers.specs.Fill.{Filled}
use Rattle.layers.specs.Step.{Plain, door_at, Doors, Passable, bytes_of}
use Rattle.layers.proofs.Fills.{up_to}

-- one place more is no lane
pub plain_more : (mask : List ℕ) (wide p : ℕ) {w r : ℕ} → get_or mask p 0 ≤ 255 → r ≡ max w (min (get_or mask p 0) (255 - get_or mask p 0))
    → (w ≡ 0 → Plain mask wide p) → r ≡ 0 → Plain mask wide (p + 1)
plain_more mask wide p {w} {r} l e f z q lo hi some =
    ⊎_elim (λ k. let h : get_or mask p 0 ≢ 0 = subst (λ (i : ℕ). get_or mask i 0 ≢ 0) k some in
    subst (λ (i : ℕ). get_or mask i 0 ≡ 255) (sym k) (omega arith)) (λ k. f (omega arith) q lo k some) (up_to q p hi)

-- the byte of a way at the index at + p
pub way_byte : (mask : List ℕ) (at p turn wide x : ℕ) {r : ℕ} → r ≡ cond (opens_by (get_or mask (p + turn - wide) 0) x) (get_or mask p 0) 0
    → r ≡ cond (opens_by (get_or mask (at + p - at + turn - wide) 0) x) (get_or mask (at + p - at) 0) 0
way_byte mask at p turn wide x h = let e : at + p - at ≡ p = omega arith in rw e h

-- the bytes that a loop fills with the place that is left so far on, forward and backward
module _ (mask : List ℕ) (wide end x : ℕ) (before after : List ℕ) where
  abbrev Made : ℕ → ℕ → Type 0
  Made turn y = Filled (1156 * x + wide) (1156 * x + end) (λ q. cond (opens_by (get_or mask (q - 1156 * x + turn - wide) 0) y) (get_or mask (q - 1156 * x) 0) 0) before after

  abbrev Door : Bool → Type 0
  Door back = Filled (1156 * x + wide) (1156 * x + end) (λ q. door_at mask wide back x (q - 1156 * x)) before after

  pub back_doors : {back : Bool} → back ≡ true → Made wide x → Door back
  back_doors e f = subst Door (sym e) f

  pub forth_doors : {back : Bool} {turn : ℕ} → back ≡ false → turn ≡ turn_of wide x → Made turn (4 - x) → Door back
  forth_doors e t f = subst Door (sym e) (subst (λ (k : ℕ). Made k (4 - x)) t f)

-- the doors that a pass has, as a list of bytes, which may be empty
pub doors_of : (mask : List ℕ) (w h : ℕ) (back : Bool) (doors : Option (Bor (List ℕ))) → Passable mask w h back doors → Doors mask w h back (bytes_of doors)
doors_of mask w h back None g = record { none = λ _. g.none refl; five = λ n. absurd (n refl) }
doors_of mask w h back (Some ways) g = let f = g.five ways refl in record { none = λ e. absurd (omega (arith, f.size)); five = λ _. f }
