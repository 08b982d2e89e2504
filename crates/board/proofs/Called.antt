-- From what the search promises to what the board promises. Assumes nothing.
use Rattle.std.proofs.Common.{ℕ, ◌≤◌, ◌≡◌, refl, ap, ◌∙◌, List, length, Option, None, Some, Result, Ok, Err}
use Rattle.deck.specs.Sheet.{read, sheet_cause}
use Rattle.deck.specs.Calls.{search_cause, search_answer_for, search_answer, plan_words, SearchCall}
use Rattle.deck.specs.Numbers.{search_numbers}
use Rattle.deck.proofs.Told.{search_answered}
use Rattle.deck.specs.declared.cause.Cause.{Cause}
use Rattle.deck.specs.declared.SearchAnswer.{SearchAnswer}
use Rattle.deck.specs.declared.SearchAnswer.TheVariants.{Plan, NoPlan, Spent}
use Rattle.meaning.proofs.Accepted.{search_accepted}
use Rattle.optimal.specs.Demand.{RightCall}
use Rattle.board_lines.specs.Board.{lines_for}
use Rattle.board_lines.specs.Stands.{BoardStands}
use Rattle.board_lines.proofs.Standing.{stands, empty}
use Rattle.board_lines.specs.declared.Line.{Line}
use Rattle.board.specs.Call.{BoardCall, Written}

accepted_written : (s : List ℕ) (out : ℕ) → sheet_cause s ≡ None → plan_words (read s) ≤ out → (a : SearchAnswer) → Written s out (Ok a)
accepted_written s out ok words (Plan tasks f n b) = (ok, words)
accepted_written s out ok words (NoPlan n) = tt
accepted_written s out ok words (Spent n b) = tt

answer_written : (s : List ℕ) (work out : ℕ) → Written s out (search_answer s work out)
unfolding search_answer search_answer_for
answer_written s work out = go (search_cause s work out) refl
  where
    go : (c : Option Cause) → search_cause s work out ≡ c → Written s out (search_answer_for c (read s))
    go None e = let ok = search_accepted s work out e in accepted_written s out ok.0 ok.2 _
    go (Some c) e = tt

-- what is right of the answer stands on its board
right_stands : (s : List ℕ) (a : Result SearchAnswer Cause) (words : List ℕ) (out : ℕ) → Written s out a → RightCall (read s) a words
    → BoardStands (read s) a words (lines_for (read s) a words)
unfolding lines_for
right_stands s (Ok (Plan tasks f n b)) words out w ((fs, p, e), same, least) = stands s w.0 tasks words fs p
right_stands s (Ok (NoPlan n)) words out w r = empty
right_stands s (Ok (Spent n b)) words out w r = empty
right_stands s (Err c) words out w r = empty

-- THE CALL
module _ {s work out : List ℕ} (a : Result SearchAnswer Cause) {work' out' : List ℕ} (c : SearchCall s work out (search_numbers a) work' out') where
  pub call_written : Written s (length out) a
  call_written = rw (search_answered a c) (answer_written s (length work) (length out))

  pub output_written : length out' ≡ length out → Written s (length out') a
  output_written e = rw e call_written

  pub board_called : {lines : List Line} → lines ≡ lines_for (read s) a out' → BoardCall s work out (search_numbers a) lines work' out'
  board_called h = record { searched = c; lined = h ∙ ap (λ x. lines_for (read s) x out') (search_answered a c) }

  pub board_right : {lines : List Line} → RightCall (read s) a out' → lines ≡ lines_for (read s) a out' → BoardStands (read s) a out' lines
  board_right r h = rw h (right_stands s a out' (length out) call_written r)
