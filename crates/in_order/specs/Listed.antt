-- The call that lists the assignments in order, and what its steps leave. Assumes nothing.
use Rattle.std.specs.Prelude.{ℕ, zero, suc, ◌+◌, ◌/◌, ◌≤◌, min, ◌≡◌, ◌≢◌, Option, None, Some, Result, IfOk, List, [], map, length, take}
use Rattle.deck.specs.Lists.{flat}
use Rattle.deck.specs.Assignments.{assignments_in_order}
use Rattle.deck.specs.Calls.{task_list, overwrite, assignment_cause}
use Rattle.roots.specs.Tournament.{SlotsHold, NextTaken}
use Rattle.deck.specs.Causes.{answer_unless, accepted_else}
use Rattle.deck.specs.declared.cause.Cause.{Cause}

-- assignments as lists of 12, one after the other
abbrev pub lists_of : List (List ℕ) → List ℕ
lists_of l = flat (map task_list l)

-- as many as there is room for: a record of 512 words each in the workspace, 12 bytes each; 4096 at most
unfoldable pub room_for : ℕ → ℕ → ℕ
room_for work lists = min (min 4096 (work / 512)) (lists / 12)

-- the assignments that are listed, by the cause
unfoldable pub listed_for : Option Cause → ℕ → ℕ → List ℕ → List (List ℕ)
listed_for c room m table = accepted_else c (take room (assignments_in_order m table)) []

-- THE CALL: its answer, and the lent words afterwards
pub record InOrderCall (m : ℕ) (table work lists : List ℕ) (r : Result ℕ Cause) (work' lists' : List ℕ) : Type 0 where
  pub answer : r ≡ answer_unless (assignment_cause m table) (length (listed_for (assignment_cause m table) (room_for (length work) (length lists)) m table))
  pub written : lists' ≡ overwrite (lists_of (listed_for (assignment_cause m table) (room_for (length work) (length lists)) m table)) lists
  pub unwritten : assignment_cause m table ≢ None → work' ≡ work
  pub low : IfOk r (λ k. k ≤ 4096)

-- ITS STEPS. What remains after `made` assignments: all of them, or those that the slots of the roots hold
abbrev pub Remaining : ℕ → List ℕ → List ℕ → ℕ → List (List ℕ) → Type 0
Remaining m table work zero rest = rest ≡ assignments_in_order m table
Remaining m table work (suc k) rest = SlotsHold m table work (suc k) rest

-- the next assignment of those that remain is taken, and this is its list; or none remains
abbrev pub Taken : ℕ → List ℕ → List ℕ → ℕ → List (List ℕ) → Option (List ℕ) → Type 0
Taken m table after made rest None = rest ≡ []
Taken m table after made rest (Some tasks) = NextTaken m table after (made + 1) rest tasks

-- the first `most` assignments in order are listed: r of them
pub record Listing (m : ℕ) (table : List ℕ) (most r : ℕ) (lists lists' : List ℕ) : Type 0 where
  pub count : r ≡ length (take most (assignments_in_order m table))
  pub written : lists' ≡ overwrite (lists_of (take most (assignments_in_order m table))) lists
