-- What the workspace holds of the search's state, and what making nodes comes to. Assumes nothing.
use Rattle.std.specs.Prelude.{ℕ, ◌+◌, ◌<◌, ◌≤◌, ◌≡◌, List, Option, None, Some}
use Rattle.deck.specs.Sheet.{Sheet}
use Rattle.deck.specs.Assignments.{table_of}
use Rattle.deck.specs.Search.{Node, State, Turn, done, more, spent}
use Rattle.deck.specs.Planner.{problem}
use Rattle.deck.specs.declared.Constraint.{Constraint}
use Rattle.meaning.specs.Meaning.{Unbarred}
use Rattle.records.specs.Record.{key_at}
use Rattle.nodes.specs.Nodes.{node_at, opened_at}
use Rattle.nodes.specs.Stored.{Stored, RootSoFar}
use Rattle.roots.specs.Tournament.{SlotsHold}
use Rattle.optimal.specs.Nodes.{IsNode}
use Rattle.optimal.specs.Deck.{rules}
use Rattle.expand.specs.declared.Made.{Made}

abbrev pub Nodes : Type 0
Nodes = List (Node (List ℕ) Constraint)

-- THE INVARIANT: the workspace holds the state: its open nodes, how many are made, and in the slots of the roots, from the link to
-- the latest on, the assignments that remain
pub record Held (d : Sheet) (work : List ℕ) (made latest : ℕ) (st : State (List ℕ) Constraint) : Type 0 where
  pub stored : Stored d d.limit work made
  pub opened : opened_at d d.limit work made ≡ st.opened
  pub number : made ≡ st.made
  pub slots : SlotsHold d.count (table_of d) work latest st.rest
  pub recent : latest ≤ made
  pub within : made ≤ d.limit

-- some state is held
abbrev pub Holding : Sheet → List ℕ → ℕ → ℕ → Type 0
Holding d work made latest = (st : State (List ℕ) Constraint) × Held d work made latest st

-- the record of root `made` is begun, the root of the assignment a: the first i of its paths are written, and it is not open yet;
-- its slots are among those that hold what remains
pub record Begun (d : Sheet) (work : List ℕ) (made : ℕ) (a : List ℕ) (i : ℕ) (st : State (List ℕ) Constraint) : Type 0 where
  pub stored : Stored d d.limit work made
  pub opened : opened_at d d.limit work made ≡ st.opened
  pub number : made ≡ st.made
  pub slots : SlotsHold d.count (table_of d) work (made + 1) st.rest
  pub within : made < d.limit
  pub unbarred : Unbarred d.count (table_of d) a
  pub root : RootSoFar d work made a i

-- nodes with a number below `made` are as they were, and so are their keys
pub record Same (d : Sheet) (before after : List ℕ) (made : ℕ) : Type 0 where
  pub nodes : (k : ℕ) → k < made → node_at d after k ≡ node_at d before k
  pub keys : (k : ℕ) → k < made → key_at d.limit after k ≡ key_at d.limit before k

-- that a step makes so many nodes, the latest root's link being this
abbrev pub grown : ℕ → ℕ → Option Made
grown made latest = Some (record { nodes = made; latest = latest })

-- what a step comes to is the turn t: the state is held that the definition has then; or the search is spent
abbrev pub Grew : Sheet → List ℕ → ℕ → Option Made → Turn (List ℕ) Constraint → Type 0
Grew d work bound (Some m) t = (st : State (List ℕ) Constraint) × (t ≡ more st) × Held d work m.nodes m.latest st
Grew d work bound None t = t ≡ done (spent d.limit bound)

-- node n is one of the search: its paths are the least under its constraints
abbrev pub NodeAt : Sheet → List ℕ → ℕ → Type 0
NodeAt d work n = IsNode (problem d) (rules d) (node_at d work n)
