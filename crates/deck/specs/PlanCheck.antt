-- The plan check of document 01, "When the planner declines" and "Path and plan". Assumes nothing.
use Rattle.std.specs.Prelude.{ℕ, suc, Bool, true, false, ◌&&◌, cond, List, [], ◌∷◌, length, take, drop, ltb, eqb, Option, None, Some}
use Rattle.deck.specs.Lists.{◌at◌, all, distinct, is_nil}
use Rattle.deck.specs.Sheet.{Sheet, carrier, task, start_of}
use Rattle.deck.specs.Paths.{may_step, serves}
use Rattle.deck.specs.Collisions.{collisions}
use Rattle.deck.specs.Search.{flowtime}
use Rattle.deck.specs.Planner.{problem}
use Rattle.deck.specs.declared.Carrier.{Carrier}
use Rattle.deck.specs.declared.Task.{Task}

-- each place of p is a step from the one before
unfoldable pub follows : Sheet → List ℕ → Bool
follows d [] = true
follows d (x ∷ []) = true
follows d (x ∷ y ∷ p) = may_step d x y && follows d (y ∷ p)

-- "A path lists H + 1 places", "begins at the carrier's start", goes by steps and serves its task
unfoldable pub is_path : Sheet → Carrier → Task → List ℕ → Bool
is_path d i j p = eqb (length p) (suc d.horizon) && eqb (p at 0) (start_of d i) && follows d p && serves d j p

-- the paths are those of carriers i, i + 1, .. for the tasks of the list
unfoldable pub are_paths : Sheet → ℕ → List ℕ → List (List ℕ) → Bool
are_paths d i [] [] = true
are_paths d i [] (p ∷ ps) = false
are_paths d i (j ∷ a) [] = false
are_paths d i (j ∷ a) (p ∷ ps) = is_path d (carrier i) (task j) p && are_paths d (suc i) a ps

-- "each task to one carrier, each carrier with one task"
unfoldable pub is_assignment : ℕ → List ℕ → Bool
is_assignment m a = eqb (length a) m && all (λ j. ltb j m) a && distinct a

-- "an assignment with a path on that sheet for each carrier and its task, and no collision"
unfoldable pub is_plan : Sheet → List ℕ → List (List ℕ) → Bool
is_plan d a ps = is_assignment d.count a && are_paths d 0 a ps && is_nil (collisions d.count d.horizon ps)

-- of a task list of 12 and the paths: the flowtime of the plan, "the sum of finishes" (Search), or none. "a task list with a repeat
-- or a number not below m among its first m, or without 255 after them, gets no"
unfoldable pub plan_check : Sheet → List ℕ → List (List ℕ) → Option ℕ
plan_check d tasks ps =
    let a = take d.count tasks in
    cond (all (eqb 255) (drop d.count tasks) && is_plan d a ps) (Some (flowtime (problem d) a ps)) None
