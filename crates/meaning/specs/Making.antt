-- The nodes of an expansion made one at a time, as document 01 says it: each only where fewer than N are made. It comes to the one
-- test that the definition of the search makes of all of them (proofs/Limit). Assumes nothing.
use Rattle.std.specs.Prelude.{ℕ, ◌+◌, Bool, true, false, List, [], ◌∷◌, ◌++◌, length, ltb, Option, None, Some}
use Rattle.deck.specs.Search.{Problem, Node, State, Turn, done, more, spent, task_of, root_of, child_node}

module _ {Path Constraint : Type 0} where
  -- one step after another, where the first does not end the search
  abbrev pub and_then : Turn Path Constraint → (State Path Constraint → Turn Path Constraint) → Turn Path Constraint
  and_then (done a) f = done a
  and_then (more s) f = f s

  -- the nodes are made: they are the last of the open ones
  abbrev pub added : List (Node Path Constraint) → State Path Constraint → State Path Constraint
  added new s = record { opened = s.opened ++ new; made = s.made + length new; rest = s.rest }

  module _ (limit bound : ℕ) where
    abbrev pub add_if : Bool → List (Node Path Constraint) → State Path Constraint → Turn Path Constraint
    add_if true new s = more (added new s)
    add_if false new s = done (spent limit bound)

    -- "Where a node is to be made (a root that remains, a child with a path) and N are made already: spent, with N nodes"
    abbrev pub make : Node Path Constraint → State Path Constraint → Turn Path Constraint
    make n s = add_if (ltb s.made limit) (n ∷ []) s

module _ {Path Constraint : Type 0} (w : Problem Path Constraint) (limit bound : ℕ) where
  -- "if it is a root, make the root of the next assignment, where one remains"
  abbrev pub make_root : Bool → List (List ℕ) → State Path Constraint → Turn Path Constraint
  make_root false rest s = more s
  make_root true [] s = more s
  make_root true (a ∷ rest) s = make limit bound (root_of w a) s

  -- "A child without a path is not made"
  abbrev pub make_with : Node Path Constraint → Constraint → Option Path → State Path Constraint → Turn Path Constraint
  make_with n c None s = more s
  make_with n c (Some p) s = make limit bound (child_node w n c p) s

  -- the child of n by one more constraint
  abbrev pub make_child : Node Path Constraint → Constraint → State Path Constraint → Turn Path Constraint
  make_child n c = make_with n c (w.least (w.bound c) (task_of w n.tasks (w.bound c)) (c ∷ n.constraints))

  -- the next root, then i's child, then j's child
  abbrev pub make_each : Node Path Constraint → Constraint × Constraint → List (List ℕ) → State Path Constraint → Turn Path Constraint
  make_each n sides rest s = and_then (make_root n.root rest s) (λ t. and_then (make_child n sides.0 t) (make_child n sides.1))
