-- What the exported calls leave in the words that are lent to them, by the definitions of the calls and of their numbers.
-- Assumes nothing.
use Rattle.deck.specs.declared.Stretch.{Stretch}
use Rattle.std.specs.Prelude.{ℕ, ◌≡◌, ◌≢◌, List, [], ◌∷◌, length, ℤ, Option, None}
use Rattle.deck.specs.Sheet.{Sheet, read}
use Rattle.deck.specs.Calls.{workspace_of, path_cause, path_answer_for, PathCall, assignment_cause, assignment_answer_for, AssignmentCall, overwrite, search_answer, SearchCall}
use Rattle.path.specs.Meant.{Meant as PathMeant}
use Rattle.assignment.specs.Meant.{Meant as AssignmentMeant}
use Rattle.in_order.specs.Listed.{lists_of, room_for, listed_for}
use Rattle.deck.specs.Causes.{accepted_else}
use Rattle.deck.specs.Numbers.{cause_number}
use Rattle.deck.specs.declared.cause.Cause.{Cause}
use Rattle.deck.specs.declared.Carrier.{Carrier}
use Rattle.deck.specs.declared.Task.{Task}
use Rattle.optimal.specs.Demand.{RightCall}
use Rattle.board_lines.specs.Board.{board_numbers}
use Rattle.board_lines.specs.Board.{lines_for}
use Rattle.board_lines.specs.Stands.{BoardStands}

-- the words of workspace that an accepted sheet asks for, by its cause; 0 for any other
unfoldable pub workspace_wanted : Option Cause → Sheet → ℕ
workspace_wanted c d = accepted_else c (workspace_of d) 0

abbrev pub stretch_numbers : Stretch → List ℕ
stretch_numbers r = r.offset ∷ r.size ∷ []

-- THE EXPORTED CALLS say what the calls say, with the numbers in place of the answer that they are those of. One carrier's least path
pub record PathExport (s : List ℕ) (i : Carrier) (j : Task) (work out rs numbers work' out' : List ℕ) : Type 0 where
  pub call : PathCall s i j work out rs numbers work' out'
  pub meant : PathMeant s i j work out rs (path_answer_for (path_cause s i j (length work) (length out) rs) (read s) i j rs) out'

-- the least assignment
pub record AssignmentExport (m : ℕ) (table tasks : List ℕ) (rows columns : List ℤ) (numbers : List ℕ) : Type 0 where
  pub call : AssignmentCall m table numbers tasks rows columns
  pub meant : AssignmentMeant m table (assignment_answer_for (assignment_cause m table) m table) tasks

-- the assignments in order: the lent words and the numbers afterwards
pub record InOrderExport (m : ℕ) (table work lists work' lists' numbers : List ℕ) : Type 0 where
  pub numbered : numbers ≡ cause_number (assignment_cause m table) ∷ length (listed_for (assignment_cause m table) (room_for (length work) (length lists)) m table) ∷ []
  pub listed : lists' ≡ overwrite (lists_of (listed_for (assignment_cause m table) (room_for (length work) (length lists)) m table)) lists
  pub unwritten : assignment_cause m table ≢ None → work' ≡ work

-- the search
pub record SearchExport (s work out numbers work' out' : List ℕ) : Type 0 where
  pub call : SearchCall s work out numbers work' out'
  -- demand 3: a plan is one and has least flowtime, without a plan there is none, and no plan is below the bound of a spent search
  pub right : RightCall (read s) (search_answer s (length work) (length out)) out'

-- the gate board: numbers and lent words as those of the search, and the lines as numbers
pub record BoardExport (s work out numbers lines work' out' : List ℕ) : Type 0 where
  pub searched : SearchExport s work out numbers work' out'
  pub lined : lines ≡ board_numbers (lines_for (read s) (search_answer s (length work) (length out)) out')
  -- what the lines say of a plan; without a plan they are zeros
  pub stands : BoardStands (read s) (search_answer s (length work) (length out)) out' (lines_for (read s) (search_answer s (length work) (length out)) out')
