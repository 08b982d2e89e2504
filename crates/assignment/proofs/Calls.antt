-- The whole answers of the call: the cause, none, the least assignment. Assumes nothing.
use Rattle.std.proofs.Common.{ℕ, ◌*◌, ◌≤◌, ◌<◌, ◌≢◌, ◌≡◌, refl, List, length, replicate, pos, Option, None, Some, Result, Ok, Err, arith, ◌-◌, take_at, le-leb, eq-eqb, ne_eqb}
use Rattle.std.proofs.lemmas.Bool.{lt-leb}
use Rattle.std.proofs.lemmas.List.{get_or-replicate}
use Rattle.deck.specs.Assignments.{least_assignment}
use Rattle.deck.specs.Calls.{assignment_cause, least_for, sum_found, assignment_answer_for, assignment_tasks, ZeroFrom, AssignmentCall}
use Rattle.deck.specs.Numbers.{assignment_numbers, sum_told, tasks_told, rows_told, columns_told}
use Rattle.deck.specs.declared.Assignment.{Assignment}
use Rattle.deck.specs.declared.cause.Cause.{Cause}
use Rattle.deck.specs.declared.cause.Cause.TheVariants.{BadCount}
use Rattle.meaning.proofs.Assignments.{least_assignment_lem}
use Rattle.assignment.specs.Answers.{Answered}
use Rattle.assignment.specs.Meant.{Meant}

module _ (m : ℕ) (table : List ℕ) where
  -- THE CAUSE
  pub count_low : m < 1 → assignment_cause m table ≡ Some BadCount
  unfolding assignment_cause
  count_low h = rw (lt-leb 1 m h) refl

  pub count_high : 12 < m → assignment_cause m table ≡ Some BadCount
  unfolding assignment_cause
  count_high h = rw (le-leb 1 m (omega arith), lt-leb m 12 h) refl

  pub wrong_size : 1 ≤ m → m ≤ 12 → length table ≢ m * m → assignment_cause m table ≡ Some BadCount
  unfolding assignment_cause
  wrong_size h k n = rw (le-leb 1 m h, le-leb m 12 k, ne_eqb (length table) (m * m) n) refl

  pub accepted : 1 ≤ m → m ≤ 12 → length table ≡ m * m → assignment_cause m table ≡ None
  unfolding assignment_cause
  accepted h k e = rw (le-leb 1 m h, le-leb m 12 k, eq-eqb (length table) (m * m) e) refl

  -- what the call ensures of its answer
  abbrev pub Ensured : Result (Option Assignment) Cause → Type 0
  Ensured r = AssignmentCall m table (assignment_numbers r) (tasks_told r) (rows_told r) (columns_told r) × Meant m table (sum_told r) (tasks_told r)

  no_prices : ZeroFrom 0 (replicate 12 (pos 0))
  no_prices k l h = get_or-replicate 12 k (pos 0) (pos 0) h

  pub refused : assignment_cause m table ≡ Some BadCount → Ensured (Err BadCount)
  unfolding least_for assignment_answer_for assignment_tasks
  refused e = (record { answered = rw e refl; listed = rw e refl; priced = rw e (no_prices, no_prices) }, e)

  pub none_found : assignment_cause m table ≡ None → least_assignment m table ≡ None → Ensured (Ok None)
  unfolding least_for sum_found assignment_answer_for assignment_tasks
  none_found e f = (record { answered = rw (e, f) refl; listed = rw (e, f) refl; priced = rw (e, f) (no_prices, no_prices) }, (e, rw f at (least_assignment_lem m table)))

  pub least_found : (a : Assignment) → assignment_cause m table ≡ None → Answered m table a → Ensured (Ok (Some a))
  unfolding least_for sum_found assignment_answer_for assignment_tasks
  least_found a e A =
      let l = rw A.least at (least_assignment_lem m table) in (
        record { answered = rw (e, A.least, A.sum) refl; listed = rw (e, A.least, A.tasks) refl; priced = rw (e, A.least) A.prices },
        (e, rw (A.tasks, A.sum, take_at A.list (replicate (12 - length A.list) 255) m l.0.0.as_many) (l.0, refl, l.1)),
      )
