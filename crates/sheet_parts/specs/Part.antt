-- The part of the sheet that holds a task's goals, and where a part of a slice begins. Assumes nothing.
use Rattle.deck.specs.declared.cause.Cause.TheVariants.{BadNumber}
use Rattle.deck.specs.declared.Stretch.{Stretch}
use Rattle.deck.specs.Causes.{unless}
use Rattle.std.specs.Prelude.{ℕ, ◌+◌, ◌≡◌, List, ltb}
use Rattle.std.specs.Borrow.{Bor}
use Rattle.deck.specs.Sheet.{count_of, task_stretch}
use Rattle.deck.specs.Calls.{stretch_for}
use Rattle.deck.specs.declared.Task.{Task}

-- the task's stretch, or the empty one at the sheet's start where there is no such task
abbrev pub task_part : List ℕ → Task → Stretch
task_part s j = stretch_for (unless (ltb j.0 (count_of s)) BadNumber) (task_stretch s j)

-- the slice r of bytes begins at byte k of the slice s: a pointer is a block of memory and an offset in it
abbrev pub BeginsAt : ℕ → Bor (List ℕ) → Bor (List ℕ) → Type 0
BeginsAt k s r = r.ref_ptr ≡ (s.ref_ptr.0, k + s.ref_ptr.1)
