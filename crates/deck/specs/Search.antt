-- Document 01, "The search", over abstract parts: paths and constraints are any two types, and the selection rule and the
-- node limit are parameters. Assumes nothing.
use Rattle.std.specs.Prelude.{ℕ, zero, suc, ◌+◌, Bool, true, false, List, [], ◌∷◌, ◌++◌, map, length, get_or, set, leb, Option, None, Some}
use Rattle.deck.specs.Lists.{◌at◌, below, sum, take_least}

-- What the search is given
pub record Problem (Path Constraint : Type 0) : Type 0 where
  -- m
  pub count : ℕ
  -- what is read past the end of a list of paths
  pub no_path : Path
  -- the finish of a path for a task
  pub finish : ℕ → Path → ℕ
  -- the carrier that a constraint binds
  pub bound : Constraint → ℕ
  -- the least path of a carrier for a task under constraints
  pub least : ℕ → ℕ → List Constraint → Option Path
  -- the first collision of the paths, as the constraints of the two children in the order in which they are made
  pub collision : List Path → Option (Constraint × Constraint)
  -- the assignments in order
  pub assignments : List (List ℕ)

-- "A node has an assignment, constraints, the least paths under them, and a cost (their flowtime)"
pub record Node (Path Constraint : Type 0) : Type 0 where
  pub root : Bool
  pub tasks : List ℕ
  pub constraints : List Constraint
  pub paths : List Path
  pub cost : ℕ

-- The open nodes in the order of their numbers, "Nodes count from 0 as made", how many are made, and the assignments whose
-- roots are not made
pub record State (Path Constraint : Type 0) : Type 0 where
  pub opened : List (Node Path Constraint)
  pub made : ℕ
  pub rest : List (List ℕ)

-- What a selection rule takes: a node, the other open nodes in their order, and a bound that no open node costs less than
pub record Selected (Path Constraint : Type 0) : Type 0 where
  pub node : Node Path Constraint
  pub others : List (Node Path Constraint)
  pub bound : ℕ

pub data Answer (Path : Type 0) : Type 0 where
  plan : (tasks : List ℕ) (paths : List Path) (flowtime nodes bound : ℕ) → Answer Path
  no_plan : (nodes : ℕ) → Answer Path
  spent : (nodes bound : ℕ) → Answer Path

pub data Turn (Path Constraint : Type 0) : Type 0 where
  done : Answer Path → Turn Path Constraint
  more : State Path Constraint → Turn Path Constraint

module _ {Path Constraint : Type 0} (w : Problem Path Constraint) where
  abbrev pub task_of : List ℕ → ℕ → ℕ
  task_of a i = a at i

  abbrev pub path_at : List Path → ℕ → Path
  path_at ps i = get_or ps i w.no_path

  -- "Flowtime is the sum of finishes"
  abbrev pub flowtime : List ℕ → List Path → ℕ
  flowtime a ps = sum (map (λ i. w.finish (task_of a i) (path_at ps i)) (below w.count))

  abbrev pub path_or : Option Path → Path
  path_or None = w.no_path
  path_or (Some p) = p

  -- the least paths without constraints
  abbrev pub root_paths : List ℕ → List Path
  root_paths a = map (λ i. path_or (w.least i (task_of a i) [])) (below w.count)

  abbrev pub root_of : List ℕ → Node Path Constraint
  root_of a = record { root = true; tasks = a; constraints = []; paths = root_paths a; cost = flowtime a (root_paths a) }

  abbrev pub child_node : Node Path Constraint → Constraint → Path → Node Path Constraint
  child_node n c p =
      let ps = set n.paths (w.bound c) p in
      record { root = false; tasks = n.tasks; constraints = c ∷ n.constraints; paths = ps; cost = flowtime n.tasks ps }

  -- "A child without a path is not made"
  abbrev pub child_with : Node Path Constraint → Constraint → Option Path → List (Node Path Constraint)
  child_with n c None = []
  child_with n c (Some p) = child_node n c p ∷ []

  -- the child of n by one more constraint: the path of the carrier that it binds is made anew
  abbrev pub child : Node Path Constraint → Constraint → List (Node Path Constraint)
  child n c = child_with n c (w.least (w.bound c) (task_of n.tasks (w.bound c)) (c ∷ n.constraints))

  -- "if it is a root, make the root of the next assignment, where one remains"
  abbrev pub next_root : Bool → List (List ℕ) → List (Node Path Constraint)
  next_root false rest = []
  next_root true [] = []
  next_root true (a ∷ rest) = root_of a ∷ []

  abbrev pub rest_after : Bool → List (List ℕ) → List (List ℕ)
  rest_after false rest = rest
  rest_after true [] = []
  rest_after true (a ∷ rest) = rest

  -- the nodes to be made when n is expanded, in the order of their numbers: the next root, i's child, j's child
  abbrev pub to_make : Node Path Constraint → Constraint × Constraint → List (List ℕ) → List (Node Path Constraint)
  to_make n cc rest = next_root n.root rest ++ (child n cc.0 ++ child n cc.1)

  abbrev pub grown : State Path Constraint → Selected Path Constraint → List (Node Path Constraint) → State Path Constraint
  grown s k new = record { opened = k.others ++ new; made = s.made + length new; rest = rest_after k.node.root s.rest }

module _ {Path Constraint : Type 0} (w : Problem Path Constraint) (limit : ℕ)
    (choose : List (Node Path Constraint) → Option (Selected Path Constraint)) where
  -- "Where a node is to be made and N are made already: spent, with N nodes". To make the new nodes one at a time comes to
  -- the same (proofs/Limit)
  abbrev pub extend : State Path Constraint → Selected Path Constraint → List (Node Path Constraint) → Bool → Turn Path Constraint
  extend s k new true = more (grown w s k new)
  extend s k new false = done (spent limit k.bound)

  -- "If it has no collision, it is the plan. Otherwise .." it is expanded
  abbrev pub expand : State Path Constraint → Selected Path Constraint → Option (Constraint × Constraint) → Turn Path Constraint
  expand s k None = done (plan k.node.tasks k.node.paths k.node.cost s.made k.bound)
  expand s k (Some cc) =
      let new = to_make w k.node cc s.rest in
      extend s k new (leb (s.made + length new) limit)

  -- "No open node: none"
  abbrev pub turn_with : State Path Constraint → Option (Selected Path Constraint) → Turn Path Constraint
  turn_with s None = done (no_plan s.made)
  turn_with s (Some k) = expand s k (w.collision k.node.paths)

  abbrev pub turn : State Path Constraint → Turn Path Constraint
  turn s = turn_with s (choose s.opened)

  abbrev pub onward : (State Path Constraint → Option (Answer Path)) → Turn Path Constraint → Option (Answer Path)
  onward f (done a) = Some a
  onward f (more s) = f s

  -- "Repeat": none only if the turns run out, which limit + 1 of them never do (proofs/Fuel)
  abbrev pub run : ℕ → State Path Constraint → Option (Answer Path)
  run zero s = None
  run (suc n) s = onward (run n) (turn s)

  -- "Node 0 is the root of the first assignment; without one the answer is none, 0 nodes"
  abbrev pub search_from : List (List ℕ) → Option (Answer Path)
  search_from [] = Some (no_plan 0)
  search_from (a ∷ rest) = run (suc limit) (record { opened = root_of w a ∷ []; made = 1; rest = rest })

  unfoldable pub searched : Option (Answer Path)
  searched = search_from w.assignments

-- The selection rule of the exact search: "the open node of least cost, then of least number"
module _ {Path Constraint : Type 0} where
  abbrev pub selected : Option (Node Path Constraint × List (Node Path Constraint)) → Option (Selected Path Constraint)
  selected None = None
  selected (Some t) = Some (record { node = t.0; others = t.1; bound = t.0.cost })

  abbrev pub cheapest : List (Node Path Constraint) → Option (Selected Path Constraint)
  cheapest l = selected (take_least (λ n. n.cost) l)
