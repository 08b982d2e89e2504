-- What the search for the finish answers. Assumes nothing.
use Rattle.std.specs.Prelude.{ℕ, suc, ◌≤◌, List, Option, None, Some}
use Rattle.passes.specs.Courses.{sheet_of, LeastOn, BackedOn}
use Rattle.passes.specs.declared.Course.{Course}

-- the least time within the horizon, with the layers from it in the words, or that there is none
abbrev pub Finished : Course → List ℕ → Option ℕ → Type 0
Finished c words None = (t : ℕ) × (suc (sheet_of c).horizon ≤ t) × LeastOn c t
Finished c words (Some end) = (end ≤ (sheet_of c).horizon) × LeastOn c end × BackedOn c end 0 words
