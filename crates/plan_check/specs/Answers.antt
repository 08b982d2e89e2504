-- The answer of the check of all paths. Assumes nothing.
use Rattle.std.specs.Prelude.{ℕ, cond, List, Option, None, Some}
use Rattle.deck.specs.Sheet.{Sheet}
use Rattle.deck.specs.Search.{flowtime}
use Rattle.deck.specs.Planner.{problem}
use Rattle.deck.specs.PlanCheck.{are_paths}

-- the flowtime of paths for the tasks of a list, whether or not they collide
unfoldable pub flow_answer : Sheet → List ℕ → List (List ℕ) → Option ℕ
flow_answer d a ps = cond (are_paths d 0 a ps) (Some (flowtime (problem d) a ps)) None
