-- The parts of the two passes for a carrier and a task of a sheet, with constraints. Assumes nothing.
use Rattle.std.specs.Prelude.{ℕ, suc, Bool, false, ◌&&◌, not, cond, List, map, eqb}
use Rattle.deck.specs.Lists.{all, greatest}
use Rattle.deck.specs.Sheet.{Sheet, free, start_of, goals_of, last_goal}
use Rattle.deck.specs.Paths.{may_step}
use Rattle.deck.specs.declared.Carrier.{Carrier}
use Rattle.deck.specs.declared.Task.{Task}
use Rattle.deck.specs.declared.Constraint.{Constraint}
use Rattle.deck.specs.declared.Constraint.TheVariants.{Place, Move}
use Rattle.kernel.specs.Layers.{Parts}
use Rattle.kernel.specs.Goals.{lowered}
use Rattle.kernel.specs.Labels.{all_goals, first_label, raised}
use Rattle.kernel.specs.Near.{near}

-- the constraint bars the carrier from u at t
abbrev pub bars_place : Carrier → ℕ → ℕ → Constraint → Bool
bars_place i t u (Place a x s) = eqb a.0 i.0 && eqb s t && eqb u x
bars_place i t u (Move a x y s) = false

-- the constraint bars the carrier from going u to v at t
abbrev pub bars_move : Carrier → ℕ → ℕ → ℕ → Constraint → Bool
bars_move i t u v (Place a x s) = false
bars_move i t u v (Move a x y s) = eqb a.0 i.0 && eqb s t && eqb u x && eqb v y

-- no constraint bars the carrier from u at t
unfoldable pub free_place : Carrier → List Constraint → ℕ → ℕ → Bool
free_place i cs t u = all (λ c. not (bars_place i t u c)) cs

unfoldable pub free_move : Carrier → List Constraint → ℕ → ℕ → ℕ → Bool
free_move i cs t u v = all (λ c. not (bars_move i t u v c)) cs

-- at t the carrier may be on u: the one name for where it may stand at a time, so that the layers do not rest on what bars it
unfoldable pub stands : Sheet → Carrier → List Constraint → ℕ → ℕ → Bool
stands d i cs t u = free_place i cs t u

-- a step from a free place to a free place
unfoldable pub step_free : Sheet → ℕ → ℕ → Bool
step_free d u v = free d u && (free d v && may_step d u v)

abbrev pub parts_of : Sheet → Carrier → Task → List Constraint → Parts
parts_of d i j cs =
    record {
      step = λ t u v. step_free d u v && free_move i cs t u v;
      stand = stands d i cs;
      succs = near d;
      preds = near d;
      start = start_of d i;
      end = last_goal d j;
      fresh = first_label d i j;
      whole = all_goals d j;
      raise = raised d j;
      lower = λ u v b. lowered v (goals_of d j) b;
    }

-- the time after which the constraint lets the carrier stay on g
abbrev pub stay_after : Carrier → ℕ → Constraint → ℕ
stay_after i g (Place a x s) = cond (eqb a.0 i.0 && eqb x g) (suc s) 0
stay_after i g (Move a x y s) = cond (eqb a.0 i.0 && eqb x g && eqb y g) (suc s) 0

-- the least time from which the constraints let the carrier stay on g
unfoldable pub stay_from : Carrier → ℕ → List Constraint → ℕ
stay_from i g cs = greatest (map (stay_after i g) cs)

-- the least time from which the carrier may stay on g: for staying what `stands` is for one time
unfoldable pub rest_from : Sheet → Carrier → ℕ → List Constraint → ℕ
rest_from d i g cs = stay_from i g cs
