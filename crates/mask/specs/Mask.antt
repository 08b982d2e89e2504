-- The mask of a sheet, as far as it is made. Assumes nothing.
use Rattle.std.specs.Prelude.{ℕ, ◌≤◌, ◌<◌, ◌≡◌, ◌≢◌, List, length, get_or}
use Rattle.deck.specs.Sheet.{Sheet}
use Rattle.bars.specs.Padded.{pad_of, shade}

-- none of the numbers is greater than r
abbrev pub Most : List ℕ → ℕ → Type 0
Most l r = (k : ℕ) → k < length l → get_or l k 0 ≤ r

-- they are grid bytes without lanes
abbrev pub Plain : List ℕ → Type 0
Plain l = Most l 1

-- the mask has the first n places of the sheet, and is 0 elsewhere
pub record Masked (d : Sheet) (n : ℕ) (mask : List ℕ) : Type 0 where
  pub size : length mask ≡ 1156
  pub inside : (v : ℕ) → v < n → get_or mask (pad_of d.width v) 0 ≡ shade d v
  pub border : (p : ℕ) → ((v : ℕ) → v < n → pad_of d.width v ≢ p) → get_or mask p 0 ≡ 0
