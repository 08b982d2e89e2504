-- What an answer of the least-assignment call says of assignments, by the meaning. Assumes nothing.
use Rattle.std.specs.Prelude.{ℕ, ◌≡◌, ◌⊎◌, List, take, Option, None, Some, Result, Ok, Err}
use Rattle.deck.specs.Assignments.{sum_of}
use Rattle.deck.specs.Calls.{assignment_cause}
use Rattle.deck.specs.declared.cause.Cause.{Cause}
use Rattle.meaning.specs.Meaning.{Unbarred, AllBarred, Less}

-- a is the first in the order of assignments, and n its sum
abbrev pub First : (m : ℕ) (table a : List ℕ) (n : ℕ) → Type 0
First m table a n = Unbarred m table a × (n ≡ sum_of m table a) × ((b : List ℕ) → Unbarred m table b → (b ≡ a) ⊎ Less m table a b)

-- "It answers the first in this order with its sum, or none exactly if every assignment uses a barred entry": of a call that is
-- accepted, by the sum and the first m of the tasks; else the cause. The cases exclude each other
abbrev pub Meant : (m : ℕ) (table : List ℕ) → Result (Option ℕ) Cause → (tasks : List ℕ) → Type 0
Meant m table (Ok (Some n)) tasks = (assignment_cause m table ≡ None) × First m table (take m tasks) n
Meant m table (Ok None) tasks = (assignment_cause m table ≡ None) × AllBarred m table
Meant m table (Err c) tasks = assignment_cause m table ≡ Some c
