-- The invariant of the search: what holds of its state before each turn, for any selection rule. Assumes nothing.
use Rattle.std.specs.Prelude.{ℕ, ◌+◌, ◌≤◌, ◌≡◌, ◌⊎◌, true, length, List}
use mathlib.Core.List.{Memᴰ as Mem}
use Rattle.deck.specs.Search.{Problem, Node, State, root_of}
use Rattle.optimal.specs.Plans.{Rules, IsPlan, Served, Rising}
use Rattle.optimal.specs.Nodes.{IsNode, Covers}

module _ {Path Constraint : Type 0} (w : Problem Path Constraint) (r : Rules Path Constraint) where
  -- the list's assignments are assignments, and each carrier has a path
  abbrev pub AllServed : List (List ℕ) → Type 0
  AllServed l = (a : List ℕ) → Mem a l → r.IsAsg a × Served w r a

  -- one of the nodes covers the plan
  abbrev pub Covered : List (Node Path Constraint) → List ℕ → List Path → Type 0
  Covered l a qs = (x : Node Path Constraint) × Mem x l × Covers w r x a qs

  -- one of the nodes is a root that costs at most as much as the root of a
  abbrev pub Led : List (Node Path Constraint) → List ℕ → Type 0
  Led l a = (x : Node Path Constraint) × Mem x l × (x.root ≡ true) × (x.cost ≤ (root_of w a).cost)

-- Of the state after t nodes were taken
module _ {Path Constraint : Type 0} (w : Problem Path Constraint) (r : Rules Path Constraint) (limit : ℕ) where
  pub record Invariant (s : State Path Constraint) (t : ℕ) : Type 0 where
    pub nodes : (x : Node Path Constraint) → Mem x s.opened → IsNode w r x
    pub served : AllServed w r s.rest
    pub rising : Rising w r s.rest
    -- each plan is covered by an open node, or its assignment remains
    pub cover : (a : List ℕ) (qs : List Path) → IsPlan w r a qs → Covered w r s.opened a qs ⊎ Mem a s.rest
    -- for each assignment that remains an open root costs no more than its root will
    pub lead : (a : List ℕ) → Mem a s.rest → Led w r s.opened a
    pub counted : length s.opened + t ≡ s.made
    pub within : s.made ≤ limit
