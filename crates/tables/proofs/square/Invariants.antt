-- `tables::square` meets its contract. Assumes nothing.
use Rattle.std.proofs.Common.{◌≤◌}
use Rattle.tables.proofs.Cells.{RowsTo, RowTo}
use Rattle.tables.proofs.square.Given as goal

abbrev pub invariant-loop-i : goal.invariant-loop-i
invariant-loop-i g l = (l.i ≤ l.m) × RowsTo (λ i j x. goal.F-post g l.number (record { 0 = i }) (record { 0 = j }) x) l.m l.i l.square

abbrev pub invariant-loop-j : goal.invariant-loop-j
invariant-loop-j g l =
    (l.j ≤ l.m) × RowTo (λ i j x. goal.F-post g l.number (record { 0 = i }) (record { 0 = j }) x) l.m l.i l.j l.square
