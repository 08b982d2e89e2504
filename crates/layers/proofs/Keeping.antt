-- A layer that is kept is read back, and stays where other words are written. Assumes nothing.
use Prim.Native.Nat.{ℕ, zero, suc, ◌+◌, ◌-◌, ◌*◌, ◌/◌, ◌%◌, ◌^◌, ◌≤◌, ◌<◌}
use Rattle.std.proofs.Common.{◌≡◌, refl, ap, ◌∙◌, List, mul-add, add-mul, mul-le-mul_right, arith, get_or}
use Rattle.deck.specs.Sheet.{Sheet, area}
use Rattle.bars.specs.Padded.{pad_of, Holds}
use Rattle.bars.proofs.Grid.{pad_least, pad_most}
use Rattle.layers.specs.Packed.{byte_in, Kept, words_for, Laid}

-- a byte of a word by a power of two
pub byte_shifted : (x k : ℕ) → k < 4 → x / 2 ^ (8 * k) % 256 ≡ byte_in x k
byte_shifted x zero h = omega arith
byte_shifted x (suc zero) h = refl
byte_shifted x (suc (suc zero)) h = refl
byte_shifted x (suc (suc (suc zero))) h = refl
byte_shifted x (suc (suc (suc (suc k)))) h = absurd (omega arith)

-- the words that are kept reach over the rows of the grid
words_reach : (w h : ℕ) → (w + 2) * h ≤ 4 * words_for w h
words_reach w h = omega arith

rows_of : (w h : ℕ) → (w + 2) * (h + 1) ≡ (w + 2) * h + (w + 2)
rows_of w h = omega (arith, mul-add (w + 2) h 1)

-- the byte of a place is among those kept
pub byte_in_lem : (d : Sheet) (v : ℕ) → v < area d → (pad_of d.width v - (d.width + 2)) / 4 < words_for d.width d.height
byte_in_lem d v h = omega (arith, pad_least d v h, pad_most d v h, rows_of d.width d.height, words_reach d.width d.height)

pub kept_laid : (d : Sheet) (x : List ℕ) (f : ℕ → ℕ) (at : ℕ) {before after : List ℕ} → Holds d x f
    → Kept x (d.width + 2) at (words_for d.width d.height) before after → Laid d after at f
kept_laid d x f at {before} {after} h k v l =
    let q : ℕ = pad_of d.width v - (d.width + 2) in
    let e : (d.width + 2) + 4 * (q / 4) + q % 4 ≡ pad_of d.width v = omega (arith, pad_least d v l) in
    k.inside (q / 4) (byte_in_lem d v l) (q % 4) (omega arith) ∙ ap (λ (z : ℕ). get_or x z 0) e ∙ h.inside v l

-- words written elsewhere leave it
pub laid_stays : (d : Sheet) (f : ℕ → ℕ) (at : ℕ) (work after : List ℕ)
    → ((p : ℕ) → at ≤ p → p < at + words_for d.width d.height → get_or after p 0 ≡ get_or work p 0) → Laid d work at f → Laid d after at f
laid_stays d f at work after same laid v l =
    let q : ℕ = pad_of d.width v - (d.width + 2) in
    ap (λ (z : ℕ). byte_in z (q % 4)) (same (at + q / 4) (omega arith) (omega (arith, byte_in_lem d v l))) ∙ laid v l

-- a layer takes no more words than the grid has places
pub words_fit : (w h : ℕ) → 1 ≤ w → words_for w h ≤ w * h
words_fit w h a =
    let e : (w + 2) * h ≡ w * h + 2 * h = add-mul w 2 h in
    let b : h ≤ w * h = omega (arith, mul-le-mul_right h a) in
    omega arith
