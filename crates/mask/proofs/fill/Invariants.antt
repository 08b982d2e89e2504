-- `mask::fill` meets its contract: the rows passed are masked. Assumes nothing.
use Rattle.std.proofs.Common.{◌*◌, ◌≤◌}
use Rattle.deck.specs.Sheet.{read}
use Rattle.mask.specs.Mask.{Masked}
use Rattle.mask.proofs.fill.Given as goal

abbrev pub invariant-loop-y : goal.invariant-loop-y
invariant-loop-y l = (l.y ≤ (read l.sheet.bytes.now).height) × Masked (read l.sheet.bytes.now) (l.y * (read l.sheet.bytes.now).width) l.mask
