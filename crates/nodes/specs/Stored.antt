-- What is known of the records of the nodes that are made, and what it is to make one more. Assumes nothing.
use Rattle.std.specs.Prelude.{ℕ, ◌+◌, ◌<◌, ◌≤◌, ◌≡◌, get_or, length, Some, List, [], ◌∷◌, ◌++◌}
use mathlib.Core.List.{Memᴰ as Mem}
use Rattle.deck.specs.Sheet.{Sheet, area, carrier, task, start_of}
use Rattle.deck.specs.Paths.{walks, least_path, finish_of}
use Rattle.deck.specs.Search.{Node}
use Rattle.deck.specs.Planner.{bound_by}
use Rattle.deck.specs.Calls.{task_list}
use Rattle.deck.specs.declared.Constraint.{Constraint}
use Rattle.meaning.specs.Constraints.{InRange}
use Rattle.records.specs.Record.{fields_at, link_in, own_in, tasks_in, finishes_in, Small, key_at, closed_key}
use Rattle.nodes.specs.Nodes.{stored_path, cost_of, node_at, opened_at}

-- what an accepted sheet keeps, as far as the node store needs it
pub record Fits (d : Sheet) : Type 0 where
  pub width : d.width ≤ 32
  pub places : area d ≤ 65536
  pub count : d.count ≤ 12
  pub horizon : d.horizon ≤ 255
  pub starts : (i : ℕ) → i < d.count → start_of d (carrier i) < area d

-- links lead to earlier nodes, so that the walk along them ends, and constraints fit their records
pub record Linked (work : List ℕ) (n : ℕ) : Type 0 where
  pub earlier : (k : ℕ) → k ≤ n → link_in (fields_at work k) ≤ k
  pub small : (k : ℕ) → k ≤ n → Small (own_in (fields_at work k))

-- what holds of the fields fs of node k
pub record Sound (d : Sheet) (k : ℕ) (fs : List (List ℕ)) : Type 0 where
  pub earlier : link_in fs ≤ k
  pub small : Small (own_in fs)
  pub good : 0 < link_in fs → InRange d (own_in fs)
  -- the tasks are bytes, 255 from m on
  pub bytes : (i : ℕ) → get_or (tasks_in fs) i 0 < 256
  pub past : (i : ℕ) → d.count ≤ i → i < 12 → get_or (tasks_in fs) i 0 ≡ 255
  -- each finish is that of the path, 0 from m on
  pub finishes : (i : ℕ) → i < d.count → get_or (finishes_in fs) i 0 ≡ finish_of d (task (get_or (tasks_in fs) i 0)) (stored_path d fs i)
  pub zeros : (i : ℕ) → d.count ≤ i → get_or (finishes_in fs) i 0 ≡ 0
  pub paths : (i : ℕ) → i < d.count → Mem (stored_path d fs i) (walks d d.horizon (start_of d (carrier i)))

-- THE INVARIANT: the first `made` records are those of nodes, and the key of each open one is its cost
pub record Stored (d : Sheet) (limit : ℕ) (work : List ℕ) (made : ℕ) : Type 0 where
  pub sound : (k : ℕ) → k < made → Sound d k (fields_at work k)
  pub key : (k : ℕ) → k < made → (key_at limit work k ≡ closed_key → ⊥) → key_at limit work k ≡ cost_of d (fields_at work k)

-- the fields of two records that a node is read from are the same
pub record NodeAlike (fs gs : List (List ℕ)) : Type 0 where
  pub link : get_or fs 0 [] ≡ get_or gs 0 []
  pub own : get_or fs 1 [] ≡ get_or gs 1 []
  pub tasks : get_or fs 2 [] ≡ get_or gs 2 []
  pub finishes : get_or fs 3 [] ≡ get_or gs 3 []
  pub paths : get_or fs 7 [] ≡ get_or gs 7 []

-- the node x is made as number `made`: it is the last of the open ones, and all nodes before it are as they were
pub record Added (d : Sheet) (limit : ℕ) (before after : List ℕ) (made : ℕ) (x : Node (List ℕ) Constraint) : Type 0 where
  pub opened : opened_at d limit after (made + 1) ≡ opened_at d limit before made ++ (x ∷ [])
  pub stored : Stored d limit after (made + 1)
  pub node : node_at d after made ≡ x
  pub nodes : (k : ℕ) → k < made → node_at d after k ≡ node_at d before k
  pub records : (k : ℕ) → k < made → fields_at after k ≡ fields_at before k
  pub keys : (k : ℕ) → k < made → key_at limit after k ≡ key_at limit before k

-- what a child of node n is made of: a constraint of the sheet, a path of the carrier that it binds, and the path's finish
pub record ChildOf (d : Sheet) (limit : ℕ) (work : List ℕ) (made n : ℕ) (i : ℕ) (c : Constraint) (time : ℕ) (path : List ℕ) : Type 0 where
  pub fits : Fits d
  pub stored : Stored d limit work made
  pub binds : bound_by c ≡ i
  pub good : InRange d c
  pub walk : Mem path (walks d d.horizon (start_of d (carrier i)))
  pub finish : time ≡ finish_of d (task (get_or (tasks_in (fields_at work n)) i 0)) path

-- the record of node n is that of the root of the assignment a, as far as the paths of the first i carriers
pub record RootSoFar (d : Sheet) (work : List ℕ) (n : ℕ) (a : List ℕ) (i : ℕ) : Type 0 where
  pub link : link_in (fields_at work n) ≡ 0
  pub own : Small (own_in (fields_at work n))
  pub tasks : tasks_in (fields_at work n) ≡ task_list a
  pub long : length a ≡ d.count
  pub bytes : (k : ℕ) → get_or a k 0 < 256
  pub least : (k : ℕ) → k < i → least_path d (carrier k) (task (get_or a k 0)) [] ≡ Some (stored_path d (fields_at work n) k)
  pub finishes : (k : ℕ) → k < i → get_or (finishes_in (fields_at work n)) k 0 ≡ finish_of d (task (get_or a k 0)) (stored_path d (fields_at work n) k)
  pub zeros : (k : ℕ) → i ≤ k → get_or (finishes_in (fields_at work n)) k 0 ≡ 0
