-- From what the calls ensure of their answers to what the exported calls leave in the words lent. Assumes nothing.
use Rattle.std.proofs.Common.{ℕ, ◌≤◌, ◌<◌, ◌≡◌, refl, sym, ap, subst, ◌∙◌, List, [], ◌∷◌, length, ℤ, lt-ltb, le-ltb, Option, None, Some, Result, Ok, Err}
use Rattle.std.specs.Prelude.{⊤}
use Rattle.deck.specs.declared.Stretch.{Stretch}
use Rattle.std.proofs.lemmas.Result.{MatchResult-at_ok}
use Rattle.meaning.proofs.Accepted.{cause_of_err}
use Rattle.deck.specs.Sheet.{read, sheet_cause, task, count_of, pair_at, task_pair}
use Rattle.deck.specs.Causes.{number, answer_unless}
use Rattle.deck.specs.Calls.{workspace_of, goals_cause, goals_call, PathCall, assignment_cause, AssignmentCall, search_answer, SearchCall}
use Rattle.deck.specs.Numbers.{cause_number, found_numbers, path_numbers, assignment_numbers, sum_told, search_numbers}
use Rattle.deck.proofs.Told.{path_answered, assignment_answered, search_answered}
use Rattle.deck.specs.declared.Carrier.{Carrier}
use Rattle.deck.specs.declared.Task.{Task}
use Rattle.deck.specs.declared.Assignment.{Assignment}
use Rattle.deck.specs.declared.cause.Cause.{Cause}
use Rattle.deck.specs.declared.SearchAnswer.{SearchAnswer}
use Rattle.meaning.specs.Meaning.{◌at◌}
use Rattle.optimal.specs.Demand.{RightCall}
use Rattle.path.specs.Meant.{Meant as PathMeant}
use Rattle.assignment.specs.Meant.{Meant as AssignmentMeant}
use Rattle.numbers.specs.Small.{SmallNumber, SmallAssignment, SmallSearch}
use Rattle.planner.specs.Exports.{workspace_wanted, stretch_numbers, PathExport, AssignmentExport, InOrderExport, SearchExport, BoardExport}
use Rattle.in_order.specs.Listed.{listed_for, InOrderCall}
use Rattle.board_lines.specs.Board.{board_numbers}
use Rattle.board_lines.specs.Small.{SmallLines}
use Rattle.board_lines.specs.declared.Line.{Line}
use Rattle.board_lines.specs.Board.{lines_for}
use Rattle.board_lines.specs.Stands.{BoardStands}
use Rattle.board.specs.Call.{BoardCall}
use Rattle.board.proofs.Called.{call_written}
use Rattle.planner.proofs.Sizes.{path_small, assignment_small, search_small, board_small}

-- THE SHEET
pub wanted : {n : ℕ} (s : List ℕ) → sheet_cause s ≡ None → n ≡ workspace_of (read s) → n ≡ workspace_wanted (sheet_cause s) (read s)
unfolding workspace_wanted
wanted s e f = rw e f

pub not_wanted : (s : List ℕ) (c : Cause) → sheet_cause s ≡ Some c → 0 ≡ workspace_wanted (sheet_cause s) (read s)
unfolding workspace_wanted
not_wanted s c e = rw e refl

-- where the goals of a task stand
pub goals_refused : (s : List ℕ) (j : ℕ) (c : Cause) → sheet_cause s ≡ Some c → (0 ∷ 0 ∷ []) ≡ stretch_numbers (goals_call s (task j))
unfolding goals_call goals_cause
goals_refused s j c e = rw e refl

pub goals_of_none : (s : List ℕ) (j : ℕ) → sheet_cause s ≡ None → count_of s ≤ j → (0 ∷ 0 ∷ []) ≡ stretch_numbers (goals_call s (task j))
unfolding goals_call goals_cause
goals_of_none s j e h = rw (e, le-ltb j (count_of s) h)

pub goals_at : {r : Stretch} (s : List ℕ) (j : ℕ) → sheet_cause s ≡ None → j < count_of s → r ≡ pair_at s (task_pair j)
    → (r.offset ∷ r.size ∷ []) ≡ stretch_numbers (goals_call s (task j))
unfolding goals_call goals_cause
goals_at s j e h p = rw (e, lt-ltb j (count_of s) h, p)

-- ONE CARRIER'S LEAST PATH
module _ {s : List ℕ} {i : Carrier} {j : Task} {work out rs : List ℕ} (r : Result (Option ℕ) Cause) {work' out' : List ℕ} where
  pub path_answer_small : PathCall s i j work out rs (path_numbers r) work' out' → SmallNumber r
  path_answer_small p = subst SmallNumber (sym (path_answered r p)) (path_small s i j _ _ rs)

  pub path_exported : {numbers : List ℕ} → PathCall s i j work out rs (path_numbers r) work' out' → PathMeant s i j work out rs r out' → numbers ≡ found_numbers r
      → PathExport s i j work out rs numbers work' out'
  path_exported p q e = record {
    call = subst (λ l. PathCall s i j work out rs l work' out') (sym e) p;
    meant = subst (λ a. PathMeant s i j work out rs a out') (path_answered r p) q;
  }

-- THE LEAST ASSIGNMENT
small_sum : (r : Result (Option Assignment) Cause) → SmallNumber (sum_told r) → SmallAssignment r
small_sum (Ok (Some a)) h = h
small_sum (Ok None) h = tt
small_sum (Err c) h = tt

module _ {m : ℕ} {table : List ℕ} (r : Result (Option Assignment) Cause) {tasks : List ℕ} {rows columns : List ℤ} where
  pub kind_small : AssignmentCall m table (assignment_numbers r) tasks rows columns → ((i : ℕ) → table at i < 65536) → SmallAssignment r
  kind_small a words = small_sum r (subst SmallNumber (sym (assignment_answered r a)) (assignment_small m table words))

  pub assignment_exported : {numbers : List ℕ} → AssignmentCall m table (assignment_numbers r) tasks rows columns → AssignmentMeant m table (sum_told r) tasks
      → numbers ≡ assignment_numbers r → AssignmentExport m table tasks rows columns numbers
  assignment_exported a q e = record {
    call = subst (λ l. AssignmentCall m table l tasks rows columns) (sym e) a;
    meant = subst (λ x. AssignmentMeant m table x tasks) (assignment_answered r a) q;
  }

-- THE ASSIGNMENTS IN ORDER
module _ {m : ℕ} {table work lists work' lists' : List ℕ} where
  pub count_exported : {k : ℕ} → InOrderCall m table work lists (Ok k) work' lists' → InOrderExport m table work lists work' lists' (0 ∷ k ∷ [])
  count_exported {k} p = record { numbered = go (assignment_cause m table) _ p.answer; listed = p.written; unwritten = p.unwritten }
    where
      go : (c : Option Cause) (n : ℕ) → Ok k ≡ answer_unless c n → (0 ∷ k ∷ []) ≡ (cause_number c ∷ n ∷ [])
      go None n e = ap (λ x. 0 ∷ x ∷ []) (MatchResult-at_ok {E = Cause} (λ x. x ≡ n) (λ _. ⊤) k (sym e) refl)
      go (Some c) n e = absurd (MatchResult-at_ok {E = Cause} (λ _. ⊥) (λ _. ⊤) k (sym e) tt)

  pub refusal_exported : {c : Cause} → InOrderCall m table work lists (Err c) work' lists' → InOrderExport m table work lists work' lists' (number c ∷ 0 ∷ [])
  unfolding listed_for
  refusal_exported {c} p =
      let e = cause_of_err (assignment_cause m table) _ c p.answer in
      record { numbered = rw e refl; listed = p.written; unwritten = p.unwritten }

-- THE SEARCH
module _ {s work out : List ℕ} (r : Result SearchAnswer Cause) {work' out' : List ℕ} where
  pub search_answer_small : SearchCall s work out (search_numbers r) work' out' → SmallSearch r
  search_answer_small p = subst SmallSearch (sym (search_answered r p)) (search_small s _ _)

  pub search_exported : {numbers : List ℕ} → SearchCall s work out (search_numbers r) work' out' → RightCall (read s) r out' → numbers ≡ search_numbers r
      → SearchExport s work out numbers work' out'
  search_exported p q e = record {
    call = subst (λ l. SearchCall s work out l work' out') (sym e) p;
    right = subst (λ a. RightCall (read s) a out') (search_answered r p) q;
  }

-- THE GATE BOARD
module _ {s work out : List ℕ} (r : Result SearchAnswer Cause) (ls : List Line) {work' out' : List ℕ} (p : BoardCall s work out (search_numbers r) ls work' out') where
  pub lines_small : BoardStands (read s) r out' ls → SmallLines ls
  lines_small q = board_small s out' ls (length out) r (call_written r p.searched) q

  pub board_exported : {numbers lines : List ℕ} → RightCall (read s) r out' → BoardStands (read s) r out' ls → numbers ≡ search_numbers r → lines ≡ board_numbers ls
      → BoardExport s work out numbers lines work' out'
  board_exported q h e f =
      let a = search_answered r p.searched in
      record {
        searched = search_exported r p.searched q e;
        lined = f ∙ ap board_numbers p.lined;
        stands = subst (λ x. BoardStands (read s) x out' (lines_for (read s) (search_answer s (length work) (length out)) out')) a (subst (BoardStands (read s) r out') p.lined h);
      }
