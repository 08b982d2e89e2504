-- `complete_root` meets its contract. The loop's invariant: of whatever root was begun, the first i paths are written;
-- nodes made before are as they were. Assumes nothing.
use Rattle.std.proofs.Common.{◌≡◌, List, length}
use Prim.Native.Nat.{ℕ, ◌≤◌}
use Rattle.expand.specs.Given.{sheet_of}
use Rattle.deck.specs.Search.{State}
use Rattle.deck.specs.declared.Constraint.{Constraint}
use Rattle.expand.specs.Held.{Begun, Same}
use Rattle.expand.proofs.complete_root.Given as goal

abbrev pub invariant-loop-i : goal.invariant-loop-i
invariant-loop-i l =
    (l.i ≤ l.i-end) × (length l.work ≡ length l.initial.work) × Same (sheet_of l.given) l.initial.work l.work l.made
    × ((a : List ℕ) (st : State (List ℕ) Constraint) → Begun (sheet_of l.given) l.initial.work l.made a 0 st → Begun (sheet_of l.given) l.work l.made a l.i st)
