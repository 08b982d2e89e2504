-- The lower bounds of all tasks in one list, and what the walk says of the least path. Assumes nothing.
use Rattle.std.specs.Prelude.{ℕ, ◌*◌, ◌<◌, ◌≡◌, List, length, take, drop, Result, Ok, Err, Some}
use Rattle.deck.specs.Sheet.{Sheet}
use Rattle.deck.specs.Calls.{path_found, path_written}
use Rattle.deck.specs.declared.Task.{Task}
use Rattle.bounds.specs.Low.{Low}
use Rattle.passes.specs.declared.Errand.{Errand}
use Rattle.by_passes.specs.Asked.{sheet_of, path_of, NotBefore}
use Rattle.scratch.specs.declared.NoneBefore.{NoneBefore}

-- 9216 bytes to a task
pub record Bounded (d : Sheet) (bounds : List ℕ) : Type 0 where
  pub long : length bounds ≡ 110592
  pub low : (j : Task) → j.0 < d.count → Low d j (take 9216 (drop (9216 * j.0) bounds))

-- the least path is found, with its finish, and written; or none finishes before a time, and nothing is written
abbrev pub SoughtFor : Errand → List ℕ → List ℕ → Result ℕ NoneBefore → Type 0
SoughtFor e before after (Ok t) = (Some t ≡ path_found (sheet_of e) e.task (path_of e)) × (after ≡ path_written (path_of e) before)
SoughtFor e before after (Err t) = NotBefore e t.0 × (after ≡ before)
