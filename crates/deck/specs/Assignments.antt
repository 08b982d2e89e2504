-- Document 01, "Assignments in order". An assignment is the list of the carriers' task numbers, carrier 0 first. Assumes nothing.
use Rattle.std.specs.Prelude.{ℕ, zero, suc, ◌+◌, ◌*◌, ◌<◌, ◌≡◌, ◌≢◌, not, List, [], ◌∷◌, map, get_or, ℤ, pos, ◌+ℤ◌, ◌≤ℤ◌, eqb, Option, None, Some}
use Rattle.deck.specs.Lists.{◌at◌, below, all, select, each, in_order, head_of, sum}
use Rattle.deck.specs.Sheet.{Sheet, carrier, task}
use Rattle.deck.specs.Paths.{least_path, finish_of}
use Rattle.deck.specs.declared.Task.{Task}

-- "65535 marks none", "65535 barred"
abbrev pub barred : ℕ
barred = 65535

-- the lists of n different numbers of l, in the order of lists where l is rising
unfoldable pub arrangements : ℕ → List ℕ → List (List ℕ)
arrangements zero l = [] ∷ []
arrangements (suc n) l = each (λ x. map (λ r. x ∷ r) (arrangements n (select (λ y. not (eqb x y)) l))) l

-- every assignment of m tasks to m carriers, by list
unfoldable pub assignments : ℕ → List (List ℕ)
assignments m = arrangements m (below m)

-- the entry for carrier i and task j: rows are carriers, columns tasks, row by row
abbrev pub entry_at : ℕ → List ℕ → ℕ → ℕ → ℕ
entry_at m table i j = get_or table (i * m + j) barred

-- the entries that an assignment uses, from carrier i on
unfoldable pub entries_from : ℕ → List ℕ → ℕ → List ℕ → List ℕ
entries_from m table i [] = []
entries_from m table i (j ∷ a) = entry_at m table i j ∷ entries_from m table (suc i) a

unfoldable pub entries : ℕ → List ℕ → List ℕ → List ℕ
entries m table a = entries_from m table 0 a

-- "sum of entries"
unfoldable pub sum_of : ℕ → List ℕ → List ℕ → ℕ
sum_of m table a = sum (entries m table a)

-- the assignments that use no barred entry, by list
unfoldable pub allowed : ℕ → List ℕ → List (List ℕ)
allowed m table = select (λ a. all (λ e. not (eqb e barred)) (entries m table a)) (assignments m)

-- "ordered by sum of entries, then by list of task numbers"
unfoldable pub assignments_in_order : ℕ → List ℕ → List (List ℕ)
assignments_in_order m table = in_order (sum_of m table) (allowed m table)

-- "the first in this order", "or none exactly if every assignment uses a barred entry"
unfoldable pub least_assignment : ℕ → List ℕ → Option (List ℕ)
least_assignment m table = head_of (assignments_in_order m table)

-- "row plus column price is at most each unbarred entry and equals it on the chosen ones. Which prices is free"; "dual feasibility
-- stated at zero and below": more than the condition is promised, each column price is at most 0
pub record Priced (m : ℕ) (table tasks : List ℕ) (rows columns : List ℤ) : Type 0 where
  pub feasible : (i j : ℕ) → i < m → j < m → entry_at m table i j ≢ barred
      → (get_or rows i (pos 0) +ℤ get_or columns j (pos 0)) ≤ℤ pos (entry_at m table i j)
  pub tight : (i : ℕ) → i < m
      → (get_or rows i (pos 0) +ℤ get_or columns (tasks at i) (pos 0)) ≡ pos (entry_at m table i (tasks at i))
  pub below : (j : ℕ) → j < m → get_or columns j (pos 0) ≤ℤ pos 0

unfoldable pub entry_of : Sheet → Task → Option (List ℕ) → ℕ
entry_of d j None = barred
entry_of d j (Some p) = finish_of d j p

-- "The table entry for carrier i, task j is the finish of the least path without constraints"
unfoldable pub table_of : Sheet → List ℕ
table_of d =
    each (λ i. map (λ j. entry_of d (task j) (least_path d (carrier i) (task j) [])) (below d.count)) (below d.count)
