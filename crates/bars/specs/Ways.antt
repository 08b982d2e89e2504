-- The five ways of a step: above, left, to the place itself, right, below. Assumes nothing.
use Rattle.std.specs.Prelude.{ℕ, zero, suc, ◌+◌, ◌-◌, ◌*◌, ◌/◌, ◌%◌, ◌^◌, Bool, true, false, cond, Option, None, Some, List, [], ◌∷◌, ◌||◌, eqb}
use Rattle.deck.specs.Sheet.{Sheet, grid_byte}
use Rattle.kernel.specs.Near.{has_above, has_left, has_right, has_below}
use Rattle.bars.specs.declared.Direction.{Direction}
use Rattle.bars.specs.declared.Direction.TheVariants.{Forward, Backward}
use Rattle.bars.specs.declared.Way.{Way}
use Rattle.bars.specs.declared.Way.TheVariants.{Above, Left, Same, Right, Below}

-- a way's number
abbrev pub number_of : Way → ℕ
number_of Above = 0
number_of Left = 1
number_of Same = 2
number_of Right = 3
number_of Below = 4

-- the ways in the order of their numbers
abbrev pub all_ways : List Way
all_ways = Above ∷ Left ∷ Same ∷ Right ∷ Below ∷ []

-- a way's number, and 5 for none
abbrev pub number_if : Option Way → ℕ
number_if None = 5
number_if (Some x) = number_of x

-- a pass that goes backward
abbrev pub is_back : Direction → Bool
is_back Forward = false
is_back Backward = true

-- how far the way x leads on a grid of width w, plus w
abbrev pub turn_of : ℕ → ℕ → ℕ
turn_of w zero = 0
turn_of w (suc zero) = w - 1
turn_of w (suc (suc zero)) = w
turn_of w (suc (suc (suc zero))) = w + 1
turn_of w (suc (suc (suc (suc x)))) = 2 * w

-- the number to which the way x leads from u, in rows of width w
abbrev pub move_by : ℕ → ℕ → ℕ → ℕ
move_by w u x = u + turn_of w x - w

-- the place by the way x, and whether the grid has it
abbrev pub place_by : Sheet → ℕ → ℕ → ℕ
place_by d u x = move_by d.width u x

abbrev pub has_by : Sheet → ℕ → ℕ → Bool
has_by d u zero = has_above d u
has_by d u (suc zero) = has_left d u
has_by d u (suc (suc zero)) = true
has_by d u (suc (suc (suc zero))) = has_right d u
has_by d u (suc (suc (suc (suc x)))) = has_below d u

-- the way back from there
abbrev pub way_back : ℕ → ℕ
way_back x = 4 - x

-- whether a place with the grid byte b may be left by the way x to another place: north is above, east right, south below, west left
abbrev pub byte_leaves : ℕ → ℕ → Bool
byte_leaves b x = cond (eqb b 2) (eqb x 0) (cond (eqb b 3) (eqb x 3) (cond (eqb b 4) (eqb x 4) (cond (eqb b 5) (eqb x 1) true)))

-- whether the place u may be left by the way x; waiting is always allowed
unfoldable pub leaves : Sheet → ℕ → ℕ → Bool
leaves d u x = eqb x 2 || byte_leaves (grid_byte d u) x

-- the byte m of the mask has the bit of the way x
unfoldable pub opens_by : ℕ → ℕ → Bool
opens_by m x = eqb (m / 2 ^ x % 2) 1
