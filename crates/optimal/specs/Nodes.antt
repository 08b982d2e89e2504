-- What a node of the search is, and which plans it stands for. Assumes nothing.
use Rattle.std.specs.Prelude.{ℕ, ◌<◌, ◌≡◌, List, length, Some}
use Rattle.deck.specs.Search.{Problem, Node, task_of, path_at, flowtime}
use Rattle.optimal.specs.Plans.{Rules, Fits, KeepsAll, IsLeast}

module _ {Path Constraint : Type 0} (w : Problem Path Constraint) (r : Rules Path Constraint) where
  -- "A node has an assignment, constraints, the least paths under them, and a cost (their flowtime)"
  pub record IsNode (n : Node Path Constraint) : Type 0 where
    pub assigned : r.IsAsg n.tasks
    pub fits : Fits w r n.constraints
    pub a_path_each : length n.paths ≡ w.count
    pub least : (i : ℕ) → i < w.count → IsLeast w r i (task_of w n.tasks i) n.constraints (Some (path_at w n.paths i))
    pub cost_is : n.cost ≡ flowtime w n.tasks n.paths

  -- the node has the plan's assignment, and the plan keeps the node's constraints
  pub record Covers (n : Node Path Constraint) (a : List ℕ) (qs : List Path) : Type 0 where
    pub same : n.tasks ≡ a
    pub keeps : (i : ℕ) → i < w.count → KeepsAll w r i (path_at w qs i) n.constraints
