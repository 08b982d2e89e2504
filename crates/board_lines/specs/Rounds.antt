-- Worked boards: of a sheet, of an answer and of the words of output, the twelve lines as numbers. The answers to the starred rounds
-- are those of `deck`, but for flowtime, nodes and bound, which are on no board and here 0. Assumes nothing.
use Rattle.std.specs.Prelude.{ℕ, ◌-◌, ◌≡◌, List, [], ◌∷◌, ◌++◌, length, replicate, Result, Ok, Err}
use Rattle.deck.specs.Sheet.{read}
use Rattle.deck.specs.Calls.{task_list}
use Rattle.deck.specs.Rounds.{sheet, crossing}
use Rattle.deck.specs.declared.cause.Cause.{Cause}
use Rattle.deck.specs.declared.cause.Cause.TheVariants.{ShortWorkspace}
use Rattle.deck.specs.declared.SearchAnswer.{SearchAnswer}
use Rattle.deck.specs.declared.SearchAnswer.TheVariants.{Plan, NoPlan, Spent}
use Rattle.board_lines.specs.Board.{lines_for, board_numbers}

pub record BoardRound : Type 0 where
  pub bytes : List ℕ
  pub answer : Result SearchAnswer Cause
  pub words : List ℕ
  -- the numbers of the lines of a plan, four to a line
  pub filled : List ℕ

abbrev pub Holds : BoardRound → Type 0
Holds r =
    board_numbers (lines_for (read r.bytes) r.answer r.words)
    ≡ r.filled ++ replicate (48 - length r.filled) 0

-- a plan's board; the word after its paths is 9
abbrev pub planned : (sheet tasks paths lines : List ℕ) → BoardRound
planned s a ws ls = record { bytes = s; answer = Ok (Plan (task_list a) 0 0 0); words = ws ++ (9 ∷ []); filled = ls }

-- without a plan: the output holds what it held
abbrev pub unplanned : (sheet : List ℕ) → Result SearchAnswer Cause → BoardRound
unplanned s a = record { bytes = s; answer = a; words = replicate 9 1; filled = [] }

abbrev pub boards : List BoardRound
boards =
    -- round 1: one carrier on its gate. The line is there, and all its numbers are 0
    planned (sheet 1 1 0 4096 (0 ∷ []) ((0 ∷ []) ∷ [])) (0 ∷ []) (0 ∷ []) (0 ∷ 0 ∷ 0 ∷ 0 ∷ [])
    -- round 6 with N 18: the second carrier is there first
    ∷ planned (crossing 2 2 3 18) (1 ∷ 0 ∷ []) (0 ∷ 2 ∷ 3 ∷ 1 ∷ 1 ∷ 0 ∷ 0 ∷ 0 ∷ []) (0 ∷ 1 ∷ 0 ∷ 1 ∷ 1 ∷ 0 ∷ 1 ∷ 3 ∷ [])
    -- equal finishes: by last goal, which here is neither the carriers' order nor the tasks'
    ∷ planned (sheet 3 1 0 1 (2 ∷ 0 ∷ 1 ∷ []) ((1 ∷ []) ∷ (2 ∷ []) ∷ (0 ∷ []) ∷ [])) (1 ∷ 2 ∷ 0 ∷ []) (2 ∷ 0 ∷ 1 ∷ [])
    (0 ∷ 1 ∷ 2 ∷ 0 ∷ 1 ∷ 2 ∷ 0 ∷ 0 ∷ 2 ∷ 0 ∷ 1 ∷ 0 ∷ [])
    -- the finish comes before the last goal
    ∷ planned (sheet 4 1 1 1 (1 ∷ 3 ∷ []) ((0 ∷ []) ∷ (3 ∷ []) ∷ [])) (0 ∷ 1 ∷ []) (1 ∷ 0 ∷ 3 ∷ 3 ∷ []) (3 ∷ 1 ∷ 1 ∷ 0 ∷ 0 ∷ 0 ∷ 0 ∷ 1 ∷ [])
    -- the finish is not the first time on the gate
    ∷ planned (sheet 2 1 2 1 (0 ∷ []) ((1 ∷ 0 ∷ []) ∷ [])) (0 ∷ []) (0 ∷ 1 ∷ 0 ∷ []) (0 ∷ 0 ∷ 0 ∷ 2 ∷ [])
    -- round 5 with N 6 and N 5, and a refusal: no line
    ∷ unplanned (crossing 2 1 2 6) (Ok (NoPlan 0))
    ∷ unplanned (crossing 2 1 2 5) (Ok (Spent 0 0))
    ∷ unplanned (crossing 2 1 2 5) (Err ShortWorkspace)
    -- a dark house: a plan without a line
    ∷ planned [] [] [] []
    ∷ []
