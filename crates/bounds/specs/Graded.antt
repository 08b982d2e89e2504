-- What is tested of the bounds: they fall by at most one with each step, and not at all where a goal is visited. Assumes nothing.
use Rattle.std.specs.Prelude.{ℕ, suc, ◌+◌, ◌*◌, ◌≤◌, ◌<◌, ◌≡◌, ◌≢◌, List, length, get_or, T, None}
use Rattle.deck.specs.Sheet.{Sheet, read, goals_of, last_goal, count_of, cause}
use Rattle.deck.specs.declared.Task.{Task}
use Rattle.kernel.specs.Parts.{step_free}
use Rattle.bars.specs.Padded.{MaskOf}
use Rattle.bars.specs.Ways.{number_of, move_by, way_back, opens_by}
use Rattle.bars.specs.declared.Way.{Way}
use Rattle.bars.specs.declared.Way.TheVariants.{Same}

-- for each free place p of the padded places from `wide` to end - 1: at a place around it, by the way y, that may be left to p the
-- number is greater by at most one
abbrev pub Even : List ℕ → List ℕ → ℕ → ℕ → Type 0
Even x mask wide end =
    (p y : ℕ) → wide ≤ p → p < end → 0 < get_or mask p 0 → y < 5 → T (opens_by (get_or mask (move_by wide p y) 0) (way_back y)) → get_or x (move_by wide p y) 0 ≤ suc (get_or x p 0)

-- the same of what `counts` makes of a number, with the mask's byte of its place and the way that leads from it to p
pub record EvenBy (counts : ℕ → ℕ → Way → ℕ → Type 0) (x mask : List ℕ) (wide end : ℕ) : Type 0 where
  pub at : (p : ℕ) (way : Way) → wide ≤ p → p < end → 0 < get_or mask p 0 → way ≢ Same
      → (r : ℕ) × counts (get_or x (move_by wide p (way_back (number_of way))) 0) (get_or mask (move_by wide p (way_back (number_of way))) 0) way r × (r ≤ suc (get_or x p 0))

-- bounds of one label on the padded grid, at most `base` on its goal
pub record LayerBounds (mask : List ℕ) (w h goal base : ℕ) (x : List ℕ) : Type 0 where
  pub even : Even x mask (w + 2) ((w + 2) * (h + 1))
  pub ends : get_or x goal 0 ≤ base

-- an accepted sheet with its mask, and a task of it
pub record Given (s : List ℕ) (j : Task) (mask : List ℕ) : Type 0 where
  pub accepted : cause s ≡ None
  pub task_in : j.0 < count_of s
  pub masked : MaskOf (read s) mask

-- the table has the bounds of the labels from k on
pub record Graded (d : Sheet) (j : Task) (k : ℕ) (table : List ℕ) : Type 0 where
  pub size : length table ≡ 9216
  pub smooth : (m u v : ℕ) → k ≤ m → m ≤ length (goals_of d j) → T (step_free d u v) → get_or table (1024 * m + u) 0 ≤ suc (get_or table (1024 * m + v) 0)
  pub enters : (m : ℕ) → k ≤ m → m < length (goals_of d j) → get_or table (1024 * m + get_or (goals_of d j) m 0) 0 ≤ get_or table (1024 * suc m + get_or (goals_of d j) m 0) 0
  pub ends : get_or table (1024 * length (goals_of d j) + last_goal d j) 0 ≡ 0
