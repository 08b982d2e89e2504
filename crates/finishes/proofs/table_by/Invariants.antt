-- `table_by` meets its contract: the columns passed are those of the table. Assumes nothing.
use Rattle.deck.specs.Sheet.{read}
use Rattle.finishes.proofs.Tabled.{Columns}
use Rattle.finishes.proofs.table_by.Given as goal

abbrev pub invariant-loop-j : goal.invariant-loop-j
invariant-loop-j l = Columns (read l.sheet.bytes.now) l.j l.table
