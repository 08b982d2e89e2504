-- What the tests of a step take of a sheet. Assumes nothing.
use Rattle.std.specs.Prelude.{ℕ, ◌≡◌, List, length}
use Rattle.deck.specs.Sheet.{Sheet, area}

-- w is the width of the sheet, and g its grid, with a byte for each place
pub record GridOf (d : Sheet) (w : ℕ) (g : List ℕ) : Type 0 where
  pub across : w ≡ d.width
  pub bytes : g ≡ d.grid
  pub whole : length g ≡ area d
