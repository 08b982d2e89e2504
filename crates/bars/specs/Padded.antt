-- The padded grid: rows of width w + 2 with a border around the grid, so that the places around a place are always one and one
-- row apart. A layer is a number for each padded place. Assumes nothing.
use Rattle.std.specs.Prelude.{ℕ, ◌+◌, ◌*◌, ◌/◌, ◌≤◌, ◌<◌, ◌≡◌, ◌≢◌, Bool, cond, List, length, get_or, T, ltb, eqb}
use Rattle.deck.specs.Sheet.{Sheet, area, grid_byte}

-- the padded number of a place
abbrev pub pad_of : ℕ → ℕ → ℕ
pad_of w v = v + 2 * (v / w) + w + 3

-- the length of a padded row, and the place from which on there are only places past the grid
abbrev pub row_of : ℕ → ℕ
row_of w = w + 2

abbrev pub end_of : ℕ → ℕ → ℕ
end_of w h = (w + 2) * (h + 1)

-- the places of the padded grid: 34 rows of 34
abbrev pub cells : ℕ
cells = 1156

-- a padded place on the border, or past the grid
abbrev pub Border : Sheet → ℕ → Type 0
Border d p = (v : ℕ) → v < area d → pad_of d.width v ≢ p

-- the layer has f at each place, and 0 on the border
pub record Holds (d : Sheet) (x : List ℕ) (f : ℕ → ℕ) : Type 0 where
  pub size : length x ≡ cells
  pub inside : (v : ℕ) → v < area d → get_or x (pad_of d.width v) 0 ≡ f v
  pub border : (p : ℕ) → Border d p → get_or x p 0 ≡ 0

-- what the mask says of a grid byte: 0 for a blocked place; else 224, so that every label passes, and the bits of the ways by which the
-- place may be left (1 above, 2 left, 4 the place itself, 8 right, 16 below): all of them, or of a lane two
abbrev pub shade_of : ℕ → ℕ
shade_of b = cond (eqb b 1) 0 (cond (eqb b 2) 229 (cond (eqb b 3) 236 (cond (eqb b 4) 244 (cond (eqb b 5) 230 255))))

-- what it says of a place
unfoldable pub shade : Sheet → ℕ → ℕ
shade d v = cond (ltb v (area d)) (shade_of (grid_byte d v)) 0

-- the mask of a sheet
abbrev pub MaskOf : Sheet → List ℕ → Type 0
MaskOf d mask = Holds d mask (shade d)

-- a byte of a mask that lets labels through, which are below 224, if b, and else none
pub record Gate (b : Bool) (m : ℕ) : Type 0 where
  pub lets : T b → 224 ≤ m
  pub shuts : ¬ T b → m ≡ 0
