-- `starts_of` meets its contract: the first i starts are written. Assumes nothing.
use Rattle.std.proofs.Common.{◌≡◌, length, get_or}
use Prim.Native.Nat.{ℕ, ◌<◌, ◌≤◌}
use Rattle.deck.specs.Sheet.{read}
use Rattle.planning.proofs.starts_of.Given as goal

abbrev pub invariant-loop-i : goal.invariant-loop-i
invariant-loop-i l = (l.i ≤ l.i-end) × (length l.starts ≡ 12) × ((k : ℕ) → k < l.i → get_or l.starts k 0 ≡ get_or (read l.sheet.bytes.now).starts k 0)
