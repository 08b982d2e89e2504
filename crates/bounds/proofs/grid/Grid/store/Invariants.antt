-- The rows passed are copied. Assumes nothing.
use Rattle.std.proofs.Common.{◌+◌, ◌-◌, ◌*◌, get_or}
use Rattle.bars.specs.Padded.{pad_of}
use Rattle.layers.specs.Fill.{Filled}
use Rattle.bounds.proofs.grid.Grid.store.Given as goal

abbrev pub invariant-loop-y : goal.invariant-loop-y
invariant-loop-y l = Filled l.at (l.at + l.y * l.w) (λ p. get_or l.layer (pad_of l.w (p - l.at)) 0) l.initial.table l.table
