-- `fill_way` meets its contract: the places passed have the way's bytes. Assumes nothing.
use Rattle.std.proofs.Common.{◌+◌, ◌≤◌, ◌-◌, cond, get_or}
use Rattle.bars.specs.Ways.{number_of, opens_by}
use Rattle.layers.specs.Fill.{Filled}
use Rattle.layers.proofs.fill_way.Given as goal

abbrev pub invariant-loop-p : goal.invariant-loop-p
invariant-loop-p l =
    (l.row ≤ l.p) × (l.p ≤ l.end)
    × Filled (l.at + l.row) (l.at + l.p) (λ q. cond (opens_by (get_or l.mask (q - l.at + l.turn - l.row) 0) (number_of l.way)) (get_or l.mask (q - l.at) 0) 0) l.initial.doors l.doors
