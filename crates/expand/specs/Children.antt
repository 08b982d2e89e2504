-- The child of node n by one more constraint: what it is made of, and the task and the path of the carrier that the constraint binds.
-- Assumes nothing.
use Rattle.std.specs.Prelude.{ℕ, ◌<◌, List, ◌∷◌, Option}
use Rattle.deck.specs.Sheet.{Sheet, carrier, task}
use Rattle.deck.specs.Paths.{least_path}
use Rattle.deck.specs.Search.{task_of}
use Rattle.deck.specs.Planner.{problem, bound_by}
use Rattle.deck.specs.declared.Task.{Task}
use Rattle.deck.specs.declared.Constraint.{Constraint}
use Rattle.nodes.specs.Nodes.{node_at}
use Rattle.meaning.specs.Constraints.{InRange}
use Rattle.expand.specs.declared.given.Given.{Given}
use Rattle.expand.specs.Given.{sheet_of, Room}
use Rattle.expand.specs.Held.{Holding, NodeAt}

-- of a workspace with room: node n is held and its paths are least, and c is a constraint of the sheet
pub record Branch (g : Given) (work : List ℕ) (made latest n : ℕ) (c : Constraint) : Type 0 where
  pub room : Room g work
  pub held : Holding (sheet_of g) work made latest
  pub below : n < made
  pub node : NodeAt (sheet_of g) work n
  pub good : InRange (sheet_of g) c

abbrev pub child_task : Sheet → List ℕ → ℕ → Constraint → Task
child_task d work n c = task (task_of (problem d) (node_at d work n).tasks (bound_by c))

-- the least path under the constraints of the child
abbrev pub child_path : Sheet → List ℕ → ℕ → Constraint → Option (List ℕ)
child_path d work n c = least_path d (carrier (bound_by c)) (child_task d work n c) (c ∷ (node_at d work n).constraints)
