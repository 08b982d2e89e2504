-- The paths of carriers as the words of one list, n to a carrier. Assumes nothing.
use Rattle.std.specs.Prelude.{ℕ, ◌+◌, ◌*◌, ◌≤◌, Bool, ◌&&◌, not, List, length, get_or, eqb}

-- the place of carrier i at t
abbrev pub place_in : List ℕ → ℕ → ℕ → ℕ → ℕ
place_in ws n i t = get_or ws (i * n + t) 0

-- the whole path of carrier i stands in the list
abbrev pub Row : List ℕ → ℕ → ℕ → Type 0
Row ws n i = i * n + n ≤ length ws

-- the carriers i and j are on one place at t
unfoldable pub meets : List ℕ → ℕ → ℕ → ℕ → ℕ → Bool
meets ws n i j t = eqb (place_in ws n i t) (place_in ws n j t)

-- between t and t + 1 they exchange two places
unfoldable pub exchanges : List ℕ → ℕ → ℕ → ℕ → ℕ → Bool
exchanges ws n i j t =
    eqb (place_in ws n i t) (place_in ws n j (t + 1)) && eqb (place_in ws n i (t + 1)) (place_in ws n j t)
    && not (eqb (place_in ws n i t) (place_in ws n i (t + 1)))
