-- `bounds_of` meets its contract: the bounds of the first j tasks are filled in. Assumes nothing.
use Prim.Native.Nat.{◌≤◌}
use Rattle.deck.specs.Sheet.{read}
use Rattle.planning.proofs.Bounding.{Begun}
use Rattle.planning.proofs.bounds_of.Given as goal

abbrev pub invariant-loop-j : goal.invariant-loop-j
invariant-loop-j l = (l.j ≤ l.j-end) × Begun (read l.sheet.bytes.now) l.j l.table
