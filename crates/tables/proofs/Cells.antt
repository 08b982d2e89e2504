-- Arrays of 144 numbers, twelve to a row, filled row by row; the tables of which they are working copies. Assumes nothing.
use Rattle.std.proofs.Common.{ℕ, ◌+◌, ◌*◌, ◌≤◌, ◌<◌, ◌≡◌, sym, ap, ◌∙◌, ⊎_elim, ◌≢◌, List, eq-or-lt_of_le, le_of_suc-le-suc, not-suc-le-zero, add-one, arith, length, set, length-set, Some, slice_get, mul-le-mul_right, suc-mul}
use Rattle.std.proofs.lemmas.Grind.{common_steps}
use Rattle.std.proofs.lemmas.Option.{gets}
use Rattle.deck.specs.Assignments.{entry_at}
use Rattle.prices.specs.Square.{cell, copied}
use Rattle.prices.proofs.Squares.{square_at, square_same, square_own}
use Rattle.partition.specs.Parts.{Part, part_entry, part_table}

-- A SQUARE of twelve to a row: the number x for row i and column j meets P i j x
module _ {T : Type 0} (P : ℕ → ℕ → T → Type 0) (m : ℕ) where
  abbrev pub Has : List T → ℕ → ℕ → Type 0
  Has w i j = (x : T) × (slice_get w (i * 12 + j) ≡ Some x) × P i j x

  -- in the rows below n
  pub record RowsTo (n : ℕ) (w : List T) : Type 0 where
    pub size : length w ≡ 144
    pub done : (i j : ℕ) → i < n → j < m → Has w i j

  -- and in the first n columns of row i
  pub record RowTo (i n : ℕ) (w : List T) : Type 0 where
    pub rows : RowsTo i w
    pub row : (j : ℕ) → j < n → Has w i j

  pub rows_none : (w : List T) → length w ≡ 144 → RowsTo 0 w
  rows_none w e = record { size = e; done = λ i j l. absurd (not-suc-le-zero l) }

  pub row_none : (i : ℕ) (w : List T) → RowsTo i w → RowTo i 0 w
  row_none i w R = record { rows = R; row = λ j l. absurd (not-suc-le-zero l) }

  pub row_more : (i n : ℕ) (w : List T) (x : T) → m ≤ 12 → i < 12 → n < m → P i n x → RowTo i n w → RowTo i (n + 1) (set w (i * 12 + n) x)
  row_more i n w x small li ln p R = record {
    rows = record { size = length-set w (i * 12 + n) x ∙ R.rows.size; done = λ k j lk lj. kept k j (omega arith) (R.rows.done k j lk lj) };
    row = λ j l. ⊎_elim (λ q. rw q (x, here, p)) (λ g. kept i j (omega arith) (R.row j g)) (eq-or-lt_of_le (le_of_suc-le-suc (rw add-one at l)));
  }
    where
      here : slice_get (set w (i * 12 + n) x) (i * 12 + n) ≡ Some x
      here = grind (arith, common_steps, gets, R.rows.size)

      kept : (k j : ℕ) → k * 12 + j ≢ i * 12 + n → Has w k j → Has (set w (i * 12 + n) x) k j
      kept k j n H = (H.0, grind (arith, common_steps, gets, H.1), H.2)

  pub rows_more : (n k : ℕ) (w : List T) → m ≤ k → RowTo n k w → RowsTo (n + 1) w
  rows_more n k w h R = record {
    size = R.rows.size;
    done = λ i j l lj. ⊎_elim (λ q. rw q (R.row j (omega arith))) (λ g. R.rows.done i j g lj) (eq-or-lt_of_le (le_of_suc-le-suc (rw add-one at l)));
  }

-- the working copy of a table
pub copied_table : (m : ℕ) (table t : List ℕ) → m ≤ 12 → length table ≡ m * m → ((i j : ℕ) → i < m → j < m → cell t i j ≡ entry_at m table i j)
    → copied m t ≡ table
copied_table m table t small e h =
    square_same m (cell t) (entry_at m table) h
    ∙ square_own m table e

-- the working copy of a part's table
pub copied_part : (m : ℕ) (table t : List ℕ) (q : Part) → m ≤ 12 → ((i j : ℕ) → i < m → j < m → cell t i j ≡ part_entry q i j (cell table i j))
    → copied m t ≡ part_table m (copied m table) q
copied_part m table t q small h =
    square_same m (cell t) (λ i j. part_entry q i j (entry_at m (copied m table) i j))
    (λ i j li lj. h i j li lj ∙ ap (part_entry q i j) (sym (square_at m (cell table) i j li lj)))

-- an entry of a table of m × m
pub index_low : (m i j : ℕ) → i < m → j < m → i * m + j < m * m
index_low m i j li lj = omega (arith, mul-le-mul_right m li, suc-mul i m)

pub square_low : (m : ℕ) → m ≤ 12 → m * m ≤ 144
square_low m h = omega (arith, mul-le-mul_right m h)
