-- A part's first assignment with its sum, and the order of two of these. Assumes nothing.
use Rattle.std.specs.Prelude.{ℕ, zero, suc, Bool, true, false, cond, List, ltb, Option, None, Some}
use Rattle.deck.specs.Assignments.{sum_of}
use Rattle.deck.specs.Calls.{task_list}
use Rattle.meaning.specs.Meaning.{◌at◌}
use Rattle.candidates.specs.declared.Candidate.{Candidate}

-- an assignment with its sum and the list of 12
abbrev pub candidate_of : ℕ → List ℕ → List ℕ → Candidate
candidate_of m table a = record { sum = sum_of m table a; tasks = task_list a }

-- or none
unfoldable pub candidate_for : ℕ → List ℕ → Option (List ℕ) → Option Candidate
candidate_for m table None = None
candidate_for m table (Some a) = Some (candidate_of m table a)

-- of the n numbers from index i on, the first that differ are less in a than in b
unfoldable pub less_from : ℕ → ℕ → (a b : List ℕ) → Bool
less_from zero i a b = false
less_from (suc n) i a b = cond (ltb (a at i) (b at i)) true (cond (ltb (b at i) (a at i)) false (less_from n (suc i) a b))

-- by sum, then by list
abbrev pub earlier : Candidate → Candidate → Bool
earlier s t = cond (ltb s.sum t.sum) true (cond (ltb t.sum s.sum) false (less_from 12 0 s.tasks t.tasks))
