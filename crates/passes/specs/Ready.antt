-- What the two passes are given for one carrier and one task of an accepted sheet, and what the backward pass leaves in the
-- workspace. Assumes nothing.
use Rattle.std.specs.Prelude.{ℕ, suc, ◌+◌, ◌-◌, ◌*◌, ◌≤◌, ◌<◌, ◌≡◌, List, reverse, length, T, None}
use Rattle.deck.specs.Sheet.{read, area, count_of, goals_of, last_goal, cause}
use Rattle.deck.specs.Calls.{constraints_of, good_records}
use Rattle.deck.specs.declared.Carrier.{Carrier}
use Rattle.deck.specs.declared.Task.{Task}
use Rattle.kernel.specs.Parts.{rest_from}
use Rattle.kernel.specs.Kernel.{hind, meets_at}
use Rattle.bars.specs.Padded.{MaskOf}
use Rattle.bars.specs.Bars.{count_in}
use Rattle.layers.specs.Raise.{GoalsAt}
use Rattle.layers.specs.Packed.{words_for, Laid}

-- an accepted sheet with its mask, a carrier and a task of it, and good records
pub record Ready (s : List ℕ) (i : Carrier) (j : Task) (mask rs : List ℕ) : Type 0 where
  pub accepted : cause s ≡ None
  pub carrier_in : i.0 < count_of s
  pub task_in : j.0 < count_of s
  pub masked : MaskOf (read s) mask
  pub records : T (good_records (read s) rs)

-- the size is that of the sheet's grid
abbrev pub Sized : List ℕ → ℕ → ℕ → Type 0
Sized s w h = (w ≡ (read s).width) × (h ≡ (read s).height)

-- the task's goals on the padded grid, and the same in reverse
abbrev pub GoalsOf : List ℕ → Task → List ℕ → Type 0
GoalsOf s j goals = GoalsAt (read s).width (goals_of (read s) j) goals (length goals)

abbrev pub Turned : List ℕ → Task → List ℕ → Type 0
Turned s j goals = GoalsAt (read s).width (reverse (goals_of (read s) j)) goals (length goals)

-- a time from which the carrier may stay on its last goal, and before which it cannot finish
pub record Early (s : List ℕ) (i : Carrier) (j : Task) (rs : List ℕ) (from : ℕ) : Type 0 where
  pub stay : rest_from (read s) i (last_goal (read s) j) (constraints_of rs) ≤ from
  pub early : (n : ℕ) → n ≤ (read s).horizon → T (meets_at (read s) i j (constraints_of rs) n) → from ≤ n

-- how many words of workspace the passes take: a link for each record, and the layers
abbrev pub room_for : List ℕ → List ℕ → ℕ
room_for s rs = count_in rs + suc (read s).horizon * area (read s)

-- where the layer of a time begins, in the words past the links
abbrev pub layer_at : List ℕ → ℕ → ℕ
layer_at s t = t * words_for (read s).width (read s).height

-- the layers from time t up to `end`, of the backward pass from `end`, stand in these words
pub record Backed (s : List ℕ) (i : Carrier) (j : Task) (rs : List ℕ) (end t : ℕ) (words : List ℕ) : Type 0 where
  pub room : suc (read s).horizon * area (read s) ≤ length words
  pub layers : (u : ℕ) → t ≤ u → u ≤ end → Laid (read s) words (layer_at s u) (hind (read s) i j (constraints_of rs) (end - u) u)
