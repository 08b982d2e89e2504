-- `mask::mask_row` meets its contract: the places passed are filled. Assumes nothing.
use Rattle.std.proofs.Common.{◌+◌, ◌-◌, ◌≤◌, length, get_or}
use Rattle.bars.specs.Padded.{shade_of}
use Rattle.layers.specs.Fill.{Filled}
use Rattle.mask.proofs.mask_row.Given as goal

abbrev pub invariant-loop-x : goal.invariant-loop-x
invariant-loop-x l = (l.x ≤ length l.row) × Filled l.at (l.at + l.x) (λ p. shade_of (get_or l.row (p - l.at) 0)) l.initial.mask l.mask
