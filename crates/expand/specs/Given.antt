-- The sheet that is searched, and a workspace with room for the search. Assumes nothing.
use Rattle.std.specs.Prelude.{ℕ, ◌≤◌, List, length}
use Rattle.deck.specs.Sheet.{Sheet, read}
use Rattle.deck.specs.Calls.{workspace_for}
use Rattle.expand.specs.declared.given.Given.{Given}

abbrev pub sheet_of : Given → Sheet
sheet_of g = read g.sheet.now.bytes.now

abbrev pub Room : Given → List ℕ → Type 0
Room g work = workspace_for (sheet_of g) ≤ length work
