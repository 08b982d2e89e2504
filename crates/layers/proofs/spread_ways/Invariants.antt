-- `layers::spread_ways` meets its contract: the places passed are filled. Assumes nothing.
use Rattle.std.proofs.Common.{◌≤◌}
use Rattle.layers.specs.Fill.{Filled}
use Rattle.layers.specs.Spread.{spread_by}
use Rattle.layers.proofs.spread_ways.Given as goal

abbrev pub invariant-loop-p : goal.invariant-loop-p
invariant-loop-p l = (l.row ≤ l.p) × (l.p ≤ l.end) × Filled l.row l.p (spread_by l.src l.ways l.row) l.initial.dst l.dst
