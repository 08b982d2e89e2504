-- Laws of the constraints of a sheet. Assumes nothing.
use Rattle.std.proofs.Common.{◌<◌, [], T}
use Rattle.deck.specs.Sheet.{Sheet}
use Rattle.deck.specs.Planner.{bound_by}
use Rattle.deck.specs.Calls.{good_records}
use Rattle.deck.specs.declared.Constraint.{Constraint}
use Rattle.deck.specs.declared.Constraint.TheVariants.{Place, Move}
use Rattle.meaning.specs.Constraints.{InRange}

pub bound_below : (d : Sheet) (c : Constraint) → InRange d c → bound_by c < d.count
bound_below d (Place a u t) g = g.0
bound_below d (Move a u v t) g = g.0

-- no records are good ones
pub no_records : (d : Sheet) → T (good_records d [])
unfolding good_records
no_records d = tt
