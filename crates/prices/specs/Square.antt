-- Tables of m rows and m columns, and the working copies of them that the code has, twelve entries to a row. Assumes nothing.
use Rattle.std.specs.Prelude.{ℕ, ◌+◌, ◌*◌, List, map}
use Rattle.deck.specs.Lists.{below, each}
use Rattle.meaning.specs.Meaning.{◌at◌}

-- the table of f, row by row
unfoldable pub square : ℕ → (ℕ → ℕ → ℕ) → List ℕ
square m f = each (λ i. map (λ j. f i j) (below m)) (below m)

-- the number for row i and column j of a list of twelve to a row
abbrev pub cell : List ℕ → ℕ → ℕ → ℕ
cell l i j = l at (i * 12 + j)

-- the m × m table of which a list of 144 entries is the working copy
abbrev pub copied : ℕ → List ℕ → List ℕ
copied m work = square m (cell work)
