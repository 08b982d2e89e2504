-- The answer of the check of one path. Assumes nothing.
use Rattle.std.specs.Prelude.{ℕ, cond, List, Option, None, Some}
use Rattle.deck.specs.Sheet.{Sheet}
use Rattle.deck.specs.Paths.{finish_of}
use Rattle.deck.specs.PlanCheck.{is_path}
use Rattle.deck.specs.declared.Carrier.{Carrier}
use Rattle.deck.specs.declared.Task.{Task}

-- the finish of a path that is one of the carrier for the task
unfoldable pub path_answer : Sheet → Carrier → Task → List ℕ → Option ℕ
path_answer d i j p = cond (is_path d i j p) (Some (finish_of d j p)) None
