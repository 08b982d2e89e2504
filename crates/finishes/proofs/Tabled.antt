-- The working copy of the table, column by column. Assumes nothing.
use Rattle.std.proofs.Common.{ℕ, ◌+◌, ◌*◌, ◌%◌, ◌<◌, ◌≡◌, ◌≢◌, refl, ◌∙◌, List, length, get_or, set, Option, None, ⊎_elim, arith, add-one, eq-or-lt_of_le, le_of_suc-le-suc, not-suc-le-zero, length-set, get_or-set_same, get_or-set_other}
use Rattle.deck.specs.Sheet.{Sheet, task}
use Rattle.deck.specs.Assignments.{table_of}
use Rattle.prices.specs.Square.{square, cell, copied}
use Rattle.prices.proofs.Squares.{square_same}
use Rattle.finishes.specs.Entries.{entry_for, number_of, Whole}

-- the first n entries of a column are put
pub record Put (to n : ℕ) (column : List (Option ℕ)) (before after : List ℕ) : Type 0 where
  pub size : length after ≡ 144
  pub done : (i : ℕ) → i < n → cell after i to ≡ number_of (get_or column i None)
  pub others : (x : ℕ) → x % 12 ≢ to → get_or after x 0 ≡ get_or before x 0

module _ (to : ℕ) (column : List (Option ℕ)) (before : List ℕ) where
  pub put_none : length before ≡ 144 → Put to 0 column before before
  put_none e = record { size = e; done = λ i l. absurd (not-suc-le-zero l); others = λ x n. refl }

  pub put_more : (n : ℕ) (after : List ℕ) (v : ℕ) → n < 12 → to < 12 → v ≡ number_of (get_or column n None) → Put to n column before after
      → Put to (n + 1) column before (set after (n * 12 + to) v)
  put_more n after v h l e p = record {
    size = length-set after (n * 12 + to) v ∙ p.size;
    done = λ i b. ⊎_elim
        (λ q. rw q (get_or-set_same after (n * 12 + to) v 0 (rw p.size (omega arith)) ∙ e))
        (λ g. get_or-set_other after (n * 12 + to) (i * 12 + to) v 0 (omega arith) ∙ p.done i g)
        (eq-or-lt_of_le (le_of_suc-le-suc (rw add-one at b)));
    others = λ x q. get_or-set_other after (n * 12 + to) x v 0 (λ z. q (omega arith)) ∙ p.others x q;
  }

-- the first n columns are those of the table
pub record Columns (d : Sheet) (n : ℕ) (t : List ℕ) : Type 0 where
  pub size : length t ≡ 144
  pub done : (i j : ℕ) → i < d.count → j < n → cell t i j ≡ entry_for d i (task j)

module _ (d : Sheet) where
  pub columns_none : (t : List ℕ) → length t ≡ 144 → Columns d 0 t
  columns_none t e = record { size = e; done = λ i j a l. absurd (not-suc-le-zero l) }

  pub columns_more : (n : ℕ) (column : List (Option ℕ)) (before after : List ℕ) → n < 12 → Whole d (task n) column
      → ((i : ℕ) → i < d.count → cell after i n ≡ number_of (get_or column i None))
      → ((x : ℕ) → x % 12 ≢ n → get_or after x 0 ≡ get_or before x 0) → length after ≡ 144 → Columns d n before → Columns d (n + 1) after
  columns_more n column before after small w here others e c = record {
    size = e;
    done = λ i j a l. ⊎_elim
        (λ q. rw q (here i a ∙ w i a))
        (λ g. others (i * 12 + j) (λ z. omega arith) ∙ c.done i j a g)
        (eq-or-lt_of_le (le_of_suc-le-suc (rw add-one at l)));
  }

  pub columns_all : (t : List ℕ) → Columns d d.count t → copied d.count t ≡ table_of d
  unfolding square table_of
  columns_all t c = square_same d.count (cell t) (λ i j. entry_for d i (task j)) c.done
