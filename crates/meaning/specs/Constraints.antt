-- The constraints that a sheet can have. Assumes nothing.
use Rattle.std.specs.Prelude.{◌≤◌, ◌<◌}
use Rattle.deck.specs.Sheet.{Sheet, area}
use Rattle.deck.specs.declared.Constraint.{Constraint}
use Rattle.deck.specs.declared.Constraint.TheVariants.{Place, Move}

-- the constraint's carrier is there, its places are on the grid, and its time is in the horizon: what cause 9 asks of a record
abbrev pub InRange : Sheet → Constraint → Type 0
InRange d (Place a u t) = (a.0 < d.count) × (u < area d) × (t ≤ d.horizon)
InRange d (Move a u v t) = (a.0 < d.count) × (u < area d) × (v < area d) × (t < d.horizon)
