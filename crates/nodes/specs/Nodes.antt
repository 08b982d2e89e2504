-- The nodes of the search's definition that the workspace stands for. Assumes nothing.
use Rattle.std.specs.Prelude.{ℕ, zero, suc, ◌+◌, ◌*◌, ◌<◌, ◌≤◌, min, ◌≡◌, ◌⊎◌, Bool, not, Option, None, Some, List, [], ◌∷◌, map, get_or, take, length, eqb}
use Rattle.deck.specs.Lists.{below, select, take_least}
use Rattle.deck.specs.Sheet.{Sheet}
use Rattle.deck.specs.Search.{Node, flowtime}
use Rattle.deck.specs.Planner.{problem, bound_by}
use Rattle.deck.specs.declared.Carrier.{Carrier}
use Rattle.deck.specs.declared.Constraint.{Constraint}
use Rattle.pack.specs.Pack.{unpack_of}
use Rattle.records.specs.Record.{fields_at, link_in, root_in, own_in, tasks_in, packed_in, key_at, closed_key, with_key}
use Rattle.nodes.specs.declared.Open.{Open}

-- a root, of link 0, has no constraint; else its own is followed by its parent's
abbrev pub upward : Constraint → ℕ → (ℕ → List Constraint) → List Constraint
upward c zero above = []
upward c (suc p) above = c ∷ above p

-- along the links from node n, with fuel
unfoldable pub constraints_from : ℕ → (ℕ → List (List ℕ)) → ℕ → List Constraint
constraints_from zero f n = []
constraints_from (suc k) f n = upward (own_in (f n)) (link_in (f n)) (constraints_from k f)

-- the constraints of node n, its own first: a parent has a smaller number, so that n + 1 turns suffice
abbrev pub constraints_at : List ℕ → ℕ → List Constraint
constraints_at work n = constraints_from (suc n) (fields_at work) n

abbrev pub binds : Carrier → Constraint → Bool
binds i c = eqb (bound_by c) i.0

-- those that bind carrier i
abbrev pub binding_at : List ℕ → ℕ → Carrier → List Constraint
binding_at work n i = select (binds i) (constraints_at work n)

-- the path of carrier i, and the paths of the first m carriers
abbrev pub path_in : ℕ → ℕ → List ℕ → List (List ℕ) → ℕ → List ℕ
path_in w last starts fs i = unpack_of w last (packed_in fs i) (get_or starts i 0)

abbrev pub paths_in : ℕ → ℕ → List ℕ → ℕ → List (List ℕ) → List (List ℕ)
paths_in w last starts m fs = map (path_in w last starts fs) (below m)

abbrev pub stored_path : Sheet → List (List ℕ) → ℕ → List ℕ
stored_path d fs i = path_in d.width d.horizon d.starts fs i

abbrev pub stored_paths : Sheet → List (List ℕ) → List (List ℕ)
stored_paths d fs = paths_in d.width d.horizon d.starts d.count fs

abbrev pub assignment_of : Sheet → List (List ℕ) → List ℕ
assignment_of d fs = take d.count (tasks_in fs)

unfoldable pub cost_of : Sheet → List (List ℕ) → ℕ
cost_of d fs = flowtime (problem d) (assignment_of d fs) (stored_paths d fs)

-- the node of a record, with the constraints along its links
unfoldable pub node_of : Sheet → List (List ℕ) → List Constraint → Node (List ℕ) Constraint
node_of d fs cs = record { root = root_in fs; tasks = assignment_of d fs; constraints = cs; paths = stored_paths d fs; cost = cost_of d fs }

abbrev pub node_at : Sheet → List ℕ → ℕ → Node (List ℕ) Constraint
node_at d work n = node_of d (fields_at work n) (constraints_at work n)

abbrev pub is_open : ℕ → List ℕ → ℕ → Bool
is_open limit work n = not (eqb (key_at limit work n) closed_key)

abbrev pub open_numbers : ℕ → List ℕ → ℕ → List ℕ
open_numbers limit work made = select (is_open limit work) (below made)

-- the open nodes in the order of their numbers
abbrev pub opened_at : Sheet → ℕ → List ℕ → ℕ → List (Node (List ℕ) Constraint)
opened_at d limit work made = map (node_at d work) (open_numbers limit work made)

-- the least of the first i keys, or the key of a closed node where there is none less
pub record LeastTo (keys : List ℕ) (i r : ℕ) : Type 0 where
  pub low : r ≤ closed_key
  pub least : (k : ℕ) → k < i → r ≤ get_or keys k 0
  pub found : (r ≡ closed_key) ⊎ ((k : ℕ) × (k < i) × (get_or keys k 0 ≡ r))

-- r is the first index of v, or the length where there is none
pub record FirstOf (keys : List ℕ) (v r : ℕ) : Type 0 where
  pub inside : r ≤ length keys
  pub same : r < length keys → get_or keys r 0 ≡ v
  pub first : (k : ℕ) → k < r → get_or keys k 0 ≡ v → ⊥

-- r is the least key of the nodes from..until, or the key of a closed node where there is none less
pub record LeastIn (limit : ℕ) (work : List ℕ) (from until r : ℕ) : Type 0 where
  pub low : r ≤ closed_key
  pub least : (k : ℕ) → from ≤ k → k < until → r ≤ key_at limit work k
  pub found : (r ≡ closed_key) ⊎ ((k : ℕ) × (from ≤ k) × (k < until) × (key_at limit work k ≡ r))

-- r is the first of the nodes from..until whose key is v, or `until` where there is none
pub record FirstIn (limit : ℕ) (work : List ℕ) (from until v r : ℕ) : Type 0 where
  pub start : from ≤ r
  pub inside : r ≤ until
  pub same : r < until → key_at limit work r ≡ v
  pub first : (k : ℕ) → from ≤ k → k < r → key_at limit work k ≡ v → ⊥

-- where block b of 64 nodes ends, of the nodes that are made
abbrev pub block_end : ℕ → ℕ → ℕ
block_end b made = min (64 * b + 64) made

-- the least keys of the blocks: `lows` has that of the nodes 64 b to 64 b + 63 that are made, for each of the 64 blocks b
pub record Lows (limit : ℕ) (work : List ℕ) (made : ℕ) (lows : List ℕ) : Type 0 where
  pub size : length lows ≡ 64
  pub block : (b : ℕ) → b < 64 → LeastIn limit work (64 * b) (block_end b made) (get_or lows b 0)

-- "take the open node of least cost, then of least number": n is that node, and cost is its cost; or none is open
abbrev pub Cheapest : Sheet → ℕ → List ℕ → ℕ → Option Open → Type 0
Cheapest d limit work made None = opened_at d limit work made ≡ []
Cheapest d limit work made (Some o) =
    (o.cost ≡ (node_at d work o.n).cost)
    × (take_least (λ x. x.cost) (opened_at d limit work made) ≡ Some (node_at d work o.n, opened_at d limit (with_key limit o.n closed_key work) made))

abbrev pub InRange : ℕ → Option Open → Type 0
InRange made None = Unit {0}
InRange made (Some o) = o.n < made
