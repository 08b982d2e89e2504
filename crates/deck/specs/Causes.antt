-- Document 01, "When the planner declines": the number of each cause, in the order in which they are tried. Assumes nothing.
use Rattle.std.specs.Prelude.{ℕ, Bool, cond, Option, None, Some, Result, Ok, Err}
use Rattle.deck.specs.declared.cause.Cause.{Cause}
use Rattle.deck.specs.declared.cause.Cause.TheVariants.{ShortSheet, BadHeader, BadDirectory, BadGrid, BadStart, BadGoal, SharedLastGoal, BadNumber, BadRecords, BadCount, ShortWorkspace, WrongLength}

abbrev pub number : Cause → ℕ
-- CAUSES IN THE SHEET ITSELF. "under 8 bytes", by document 02 "one to seven bytes"
number ShortSheet = 1
-- "header byte outside its range"
number BadHeader = 2
-- "directory cut off or breaking a pair's rule"
number BadDirectory = 3
-- "grid byte above 1"
number BadGrid = 4
-- "start off grid, blocked or shared"
number BadStart = 5
-- "goal off grid or blocked"
number BadGoal = 6
-- "two tasks with one last goal"
number SharedLastGoal = 7
-- CAUSES IN WHAT ELSE A CALL TAKES. "carrier or task number not below m"
number BadNumber = 8
-- "constraint list not in fives, over 4096 records, .."
number BadRecords = 9
-- "count m outside 1 to 12, or table not m × m"
number BadCount = 12
-- "workspace short"
number ShortWorkspace = 10
-- "output under m × (H + 1) words for the search, under H + 1 for one path; for collision and plan check, paths not exactly m × (H + 1)"
number WrongLength = 11

-- the cause where its test fails
abbrev pub unless : Bool → Cause → Option Cause
unless ok c = cond ok None (Some c)

-- "Causes are tried in this order": the first that holds
infixr 20 ◌or_else◌
abbrev pub ◌or_else◌ : Option Cause → Option Cause → Option Cause
None or_else d = d
(Some c) or_else d = Some c

module _ {A : Type 0} where
  -- what a call answers: its answer, or the cause for which it declines
  abbrev pub answer_unless : Option Cause → A → Result A Cause
  answer_unless None a = Ok a
  answer_unless (Some c) a = Err c

  -- what a call leaves or hands out where it is accepted, and where it declines
  abbrev pub accepted_else : Option Cause → A → A → A
  accepted_else None a b = a
  accepted_else (Some c) a b = b
