-- Layers kept four bytes to a word. Assumes nothing.
use Rattle.std.specs.Prelude.{ℕ, zero, suc, ◌+◌, ◌-◌, ◌*◌, ◌/◌, ◌%◌, ◌≤◌, ◌<◌, ◌≡◌, List, length, get_or}
use Rattle.deck.specs.Sheet.{Sheet, area}
use Rattle.bars.specs.Padded.{pad_of}

-- the byte k of a word
abbrev pub byte_in : ℕ → ℕ → ℕ
byte_in x zero = x % 256
byte_in x (suc zero) = x / 256 % 256
byte_in x (suc (suc zero)) = x / 65536 % 256
byte_in x (suc (suc (suc k))) = x / 16777216 % 256

-- the bytes of x from p on stand in the word
abbrev pub FourAt : List ℕ → ℕ → ℕ → Type 0
FourAt x p word = (b : ℕ) → b < 4 → byte_in word b ≡ get_or x (p + b) 0

-- words of the list after from `at` on hold the bytes of x from `from` on, and elsewhere it is as it was
pub record Kept (x : List ℕ) (from at words : ℕ) (before after : List ℕ) : Type 0 where
  pub size : length after ≡ length before
  pub inside : (k : ℕ) → k < words → FourAt x (from + 4 * k) (get_or after (at + k) 0)
  pub below : (p : ℕ) → p < at → get_or after p 0 ≡ get_or before p 0
  pub above : (p : ℕ) → at + words ≤ p → get_or after p 0 ≡ get_or before p 0

-- the byte k of the bytes that are kept from the word at on
abbrev pub kept_at : List ℕ → ℕ → ℕ → ℕ
kept_at work at k = byte_in (get_or work (at + k / 4) 0) (k % 4)

-- how many words the rows of a grid take on the padded grid
abbrev pub words_for : ℕ → ℕ → ℕ
words_for w h = ((w + 2) * h + 3) / 4

-- the layer that is kept from the word at on has f at each place
abbrev pub Laid : Sheet → List ℕ → ℕ → (ℕ → ℕ) → Type 0
Laid d work at f = (v : ℕ) → v < area d → kept_at work at (pad_of d.width v - (d.width + 2)) ≡ f v
