-- Document 02, "The gate board": the whole result of the call. Assumes nothing.
use Rattle.std.specs.Prelude.{ℕ, ◌≤◌, ◌≡◌, List, length, None, Result, Ok, Err}
use Rattle.deck.specs.Sheet.{read, sheet_cause}
use Rattle.deck.specs.Calls.{plan_words, search_answer, SearchCall}
use Rattle.deck.specs.declared.cause.Cause.{Cause}
use Rattle.deck.specs.declared.SearchAnswer.{SearchAnswer}
use Rattle.deck.specs.declared.SearchAnswer.TheVariants.{Plan, NoPlan, Spent}
use Rattle.board_lines.specs.Board.{lines_for}
use Rattle.board_lines.specs.declared.Line.{Line}

-- of the words lent, the numbers of the answer, the lines, and the words as they stand afterwards
pub record BoardCall (s work out numbers : List ℕ) (lines : List Line) (work' out' : List ℕ) : Type 0 where
  -- "takes what the search takes, has the search run, and hands back its answer"; "a refusal's number is passed on"
  pub searched : SearchCall s work out numbers work' out'
  -- "and up to 12 records"
  pub lined : lines ≡ lines_for (read s) (search_answer s (length work) (length out)) out'

-- where the answer says plan, the sheet is accepted, and the output has the words of its paths
abbrev pub Written : List ℕ → ℕ → Result SearchAnswer Cause → Type 0
Written s out (Ok (Plan tasks f n b)) = (sheet_cause s ≡ None) × (plan_words (read s) ≤ out)
Written s out (Ok (NoPlan n)) = Unit {0}
Written s out (Ok (Spent n b)) = Unit {0}
Written s out (Err c) = Unit {0}
