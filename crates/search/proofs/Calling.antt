-- The causes of the call in order, and the record of the call, refused and accepted. Assumes nothing.
use Rattle.std.proofs.Common.{ℕ, ◌<◌, ◌≤◌, zero-le, ◌≡◌, refl, sym, ap, ◌∙◌, ◌≢◌, List, [], ◌∷◌, arith, length, le-leb, None, Some, Result, Ok, Err}
use Rattle.std.proofs.lemmas.Bool.{lt-leb}
use Rattle.deck.specs.declared.cause.Cause.{Cause}
use Rattle.deck.specs.declared.cause.Cause.TheVariants.{ShortWorkspace, WrongLength}
use Rattle.deck.specs.Sheet.{read, cause, sheet_cause}
use Rattle.deck.specs.Planner.{plan_for, or_dark, round_of}
use Rattle.deck.specs.Calls.{workspace_for, workspace_of, plan_words, search_cause, search_found, search_written, search_answer_for, search_output_for, search_answer, search_output, SearchCall}
use Rattle.deck.specs.Numbers.{search_numbers, no_tasks}
use Rattle.deck.proofs.Told.{search_answered}
use Rattle.deck.specs.declared.SearchAnswer.{SearchAnswer}
use Rattle.deck.specs.declared.SearchAnswer.TheVariants.{Plan}
use Rattle.meaning.proofs.Accepted.{accepted_count, search_accepted}
use Rattle.meaning.proofs.Dark.{cause_with, workspace_with, round_with}
use Rattle.optimal.specs.Demand.{RightCall}
use Rattle.optimal.proofs.Written.{call_right}

-- THE CAUSES in order
module _ (s : List ℕ) (work out : ℕ) where
  pub cause_first : (c : Cause) → sheet_cause s ≡ Some c → search_cause s work out ≡ Some c
  unfolding search_cause
  cause_first c e = rw e refl

  module _ (ok : sheet_cause s ≡ None) where
    pub cause_work : work < workspace_of (read s) → search_cause s work out ≡ Some ShortWorkspace
    unfolding search_cause
    cause_work h = rw (ok, lt-leb (workspace_of (read s)) work h) refl

    module _ (e : workspace_of (read s) ≤ work) where
      pub cause_out : out < plan_words (read s) → search_cause s work out ≡ Some WrongLength
      unfolding search_cause
      cause_out h = rw (ok, le-leb (workspace_of (read s)) work e, lt-leb (plan_words (read s)) out h) refl

      pub cause_none : plan_words (read s) ≤ out → search_cause s work out ≡ None
      unfolding search_cause
      cause_none h = rw (ok, le-leb (workspace_of (read s)) work e, le-leb (plan_words (read s)) out h) refl

-- THE CALL. That of a sheet of no bytes
pub call_dark : (s work out : List ℕ) → length s ≡ 0
    → SearchCall s work out (search_numbers (Ok (Plan no_tasks 0 0 0))) work out
unfolding search_answer search_output search_answer_for search_output_for search_found search_written search_cause sheet_cause workspace_of round_of or_dark
call_dark [] work out h =
    let room = le-leb 0 (length work) zero-le in
    let words = le-leb 0 (length out) zero-le in
    record { answered = rw (room, words) refl; written = rw (room, words) refl; refused_work = λ _. refl; dark_work = λ _. refl }
call_dark (b ∷ s) work out h = absurd (omega arith)

module _ (s work out : List ℕ) where
  -- a refused one
  pub call_refused : (c : Cause) → search_cause s (length work) (length out) ≡ Some c → SearchCall s work out (search_numbers (Err c)) work out
  unfolding search_answer search_output search_answer_for search_output_for
  call_refused c e = record { answered = rw e refl; written = rw e refl; refused_work = λ _. refl; dark_work = λ _. refl }

  module _ (ok : search_cause s (length work) (length out) ≡ None) where
    -- what a sheet with bytes was lent
    pub lent : length s ≢ 0 → (cause s ≡ None) × (workspace_for (read s) ≤ length work) × (plan_words (read s) ≤ length out)
    lent n =
        let a = search_accepted s (length work) (length out) ok in
        let c : cause s ≡ None = sym (cause_with s n) ∙ a.0 in
        (c, rw (← workspace_with (read s) (accepted_count s c).0) a.1, a.2)

    -- and its answer
    pub call_answered : cause s ≡ None → (answer : SearchAnswer) (work' out' : List ℕ)
        → (answer ≡ search_found (plan_for (read s))) × (out' ≡ search_written (plan_for (read s)) out) → SearchCall s work out (search_numbers (Ok answer)) work' out'
    unfolding search_answer search_output search_answer_for search_output_for
    call_answered c answer work' out' h =
        let r = round_with (read s) (accepted_count s c).0 in
        let a : Ok answer ≡ search_answer s (length work) (length out) = rw (ok, r) (ap Ok h.0) in
        record {
          answered = ap search_numbers a;
          written = rw (ok, r) h.1;
          refused_work = λ n. absurd (n ok);
          dark_work = λ e. let z : cause [] ≡ None = rw e at c in absurd (omega (arith, (accepted_count [] z).0));
        }

  -- is right
  pub right_of : (answer : Result SearchAnswer Cause) (work' out' : List ℕ) → SearchCall s work out (search_numbers answer) work' out' → RightCall (read s) answer out'
  right_of answer work' out' c = rw (search_answered answer c, c.written) (call_right s (length work) out)
