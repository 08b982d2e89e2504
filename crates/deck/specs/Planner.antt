-- The deck as an instance of the search. Assumes nothing.
use Rattle.std.specs.Prelude.{ℕ, cond, List, [], eqb, Option, None, Some}
use Rattle.deck.specs.Sheet.{Sheet, carrier, task}
use Rattle.deck.specs.Paths.{least_path, finish_of}
use Rattle.deck.specs.Collisions.{first_collision}
use Rattle.deck.specs.Assignments.{assignments_in_order, table_of}
use Rattle.deck.specs.Search.{Problem, Answer, plan, no_plan, searched, cheapest}
use Rattle.deck.specs.declared.Constraint.{Constraint}
use Rattle.deck.specs.declared.Constraint.TheVariants.{Place, Move}
use Rattle.deck.specs.declared.Collision.{Collision}
use Rattle.deck.specs.declared.Collision.TheVariants.{Place as PlaceCollision, Move as MoveCollision}

abbrev pub bound_by : Constraint → ℕ
bound_by (Place a u t) = a.0
bound_by (Move a u v t) = a.0

-- "gives two children, i's first: place, 'i not on u at t' and 'j not on u at t'; move, i's step barred, j's step barred"
unfoldable pub sides : Collision → Constraint × Constraint
sides (PlaceCollision t i j u) = (Place i u t, Place j u t)
sides (MoveCollision t i j u v) = (Move i u v t, Move j v u t)

unfoldable pub sides_of : Option Collision → Option (Constraint × Constraint)
sides_of None = None
sides_of (Some c) = Some (sides c)

unfoldable pub problem : Sheet → Problem (List ℕ) Constraint
problem d =
    record {
      count = d.count;
      no_path = [];
      finish = λ j p. finish_of d (task j) p;
      bound = bound_by;
      least = λ i j cs. least_path d (carrier i) (task j) cs;
      collision = λ ps. sides_of (first_collision d.count d.horizon ps);
      assignments = assignments_in_order d.count (table_of d);
    }

-- the answer that is always there (proofs/Fuel)
abbrev pub answer_or : Option (Answer (List ℕ)) → Answer (List ℕ)
answer_or None = no_plan 0
answer_or (Some a) = a

-- the search of an accepted sheet that has bytes
unfoldable pub plan_for : Sheet → Answer (List ℕ)
plan_for d = answer_or (searched (problem d) d.limit cheapest)

-- document 02, "A dark house": "a round with no carriers: plan, flowtime 0, 0 nodes, bound 0". Else the round is x, the answer of a
-- search, by whatever rule it takes its nodes
unfoldable pub or_dark : Sheet → Answer (List ℕ) → Answer (List ℕ)
or_dark d x = cond (eqb d.count 0) (plan [] [] 0 0 0) x

-- the round of an accepted sheet
unfoldable pub round_of : Sheet → Answer (List ℕ)
round_of d = or_dark d (plan_for d)
