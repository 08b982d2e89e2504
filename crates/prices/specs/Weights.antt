-- Entries as weights: a barred entry is heavier than any assignment without one, and a merged weight holds the entry above and the
-- task number below, so that the assignment of least merged weight is the first in order. Assumes nothing.
use Rattle.std.specs.Prelude.{ℕ, zero, suc, ◌+◌, ◌-◌, ◌*◌, cond, List, [], ◌∷◌, eqb, ltb}
use Rattle.deck.specs.Assignments.{barred, entry_at}

-- above 12 × 65534, the greatest sum of entries that are not barred
abbrev pub heavy : ℕ
heavy = 786409

unfoldable pub weigh : ℕ → ℕ
weigh e = cond (eqb e barred) heavy e

-- 12 to the power k
unfoldable pub place : ℕ → ℕ
place zero = 1
place (suc k) = 12 * place k

-- the first n task numbers below 12 of a list as a number of n digits to the base 12, carrier 0 first
unfoldable pub rank : ℕ → List ℕ → ℕ
rank n [] = 0
rank zero (j ∷ a) = 0
rank (suc n) (j ∷ a) = j * place n + rank n a

-- the place of the digit of carrier i; the last carrier has none, since the others leave it one task
unfoldable pub place_of : ℕ → ℕ
place_of i = cond (ltb i 11) (place (10 - i)) 0

-- the weight of an entry for carrier i and task j, with the task's digit below it. All digits come to less than a twelfth of what
-- a weight of 1 does, so that the prices of merged weights round to those of the weights
unfoldable pub merged : ℕ → ℕ → ℕ → ℕ
merged i j e = weigh e * place 12 + j * place_of i

-- a table of entries as weights
abbrev pub weights : ℕ → List ℕ → ℕ → ℕ → ℕ
weights m table i j = weigh (entry_at m table i j)

abbrev pub merged_weights : ℕ → List ℕ → ℕ → ℕ → ℕ
merged_weights m table i j = merged i j (entry_at m table i j)
