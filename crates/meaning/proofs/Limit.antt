-- To make the new nodes of an expansion one at a time, as document 01 says it, and stop where N are made already, comes to the test
-- that the definition makes of all of them at once; and the whole search comes to the same answer. Assumes nothing.
use Rattle.std.proofs.Common.{ℕ, zero, suc, ◌+◌, ◌≤◌, ◌≡◌, refl, sym, ap, ◌∙◌, Bool, true, false, List, [], ◌∷◌, ◌++◌, append_assoc, append-nil, Option, None, Some, add-zero, arith, length, leb, ltb, ltb-true, ltb-false, leb-true, le-leb}
use Rattle.std.proofs.lemmas.Bool.{lt-leb}
use Rattle.deck.specs.Search.{Problem, Node, State, Selected, Answer, no_plan, plan, Turn, done, more, root_of, child_node, task_of, child, child_with, next_root, rest_after, to_make, extend, expand, turn_with, turn, onward, run, search_from, searched}
use Rattle.meaning.specs.Making.{and_then, added, add_if, make, make_root, make_with, make_child, make_each}

one_first : (m k : ℕ) → m + 1 + k ≡ m + suc k
one_first m k = omega arith

module _ {Path Constraint : Type 0} where
  then_nothing : (t : Turn Path Constraint) → and_then t more ≡ t
  then_nothing (done a) = refl
  then_nothing (more s) = refl

  then_same : (t : Turn Path Constraint) (f g : State Path Constraint → Turn Path Constraint) → ((s : State Path Constraint) → f s ≡ g s) → and_then t f ≡ and_then t g
  then_same (done a) f g h = refl
  then_same (more s) f g h = h s

  then_assoc : (t : Turn Path Constraint) (f g : State Path Constraint → Turn Path Constraint) → and_then (and_then t f) g ≡ and_then t (λ s. and_then (f s) g)
  then_assoc (done a) f g = refl
  then_assoc (more s) f g = refl

  module _ (limit bound : ℕ) where
    abbrev pub make_all : List (Node Path Constraint) → State Path Constraint → Turn Path Constraint
    make_all [] s = more s
    make_all (n ∷ new) s = and_then (make limit bound n s) (make_all new)

    add_both : (b : Bool) (n : Node Path Constraint) (new : List (Node Path Constraint)) (s : State Path Constraint) → add_if limit bound b new (added (n ∷ []) s) ≡ add_if limit bound b (n ∷ new) s
    add_both true n new s = rw (append_assoc, one_first s.made (length new))
    add_both false n new s = refl

    -- one at a time comes to all at once
    pub make_all_lem : (new : List (Node Path Constraint)) (s : State Path Constraint) → s.made ≤ limit → make_all new s ≡ add_if limit bound (leb (s.made + length new) limit) new s
    make_all_lem [] s le = rw (le-leb (s.made + 0) limit (omega arith), append-nil, add-zero)
    make_all_lem (n ∷ new) s le = go (ltb s.made limit) refl (λ t h. make_all_lem new t h)
      where
        go : (b : Bool) → ltb s.made limit ≡ b
            → ((t : State Path Constraint) → t.made ≤ limit → make_all new t ≡ add_if limit bound (leb (t.made + length new) limit) new t)
            → and_then (add_if limit bound b (n ∷ []) s) (make_all new) ≡ add_if limit bound (leb (s.made + suc (length new)) limit) (n ∷ new) s
        go true e again =
            rw (again (added (n ∷ []) s) (omega (arith, ltb-true s.made limit e)), one_first s.made (length new))
            (add_both (leb (s.made + suc (length new)) limit) n new s)
        go false e again = rw (lt-leb (s.made + suc (length new)) limit (omega (arith, ltb-false s.made limit e)))

    make_append : (l r : List (Node Path Constraint)) (s : State Path Constraint) → and_then (make_all l s) (make_all r) ≡ make_all (l ++ r) s
    make_append [] r s = refl
    make_append (n ∷ l) r s =
        then_assoc (make limit bound n s) (make_all l) (make_all r)
        ∙ then_same (make limit bound n s) (λ t. and_then (make_all l t) (make_all r)) (make_all (l ++ r)) (make_append l r)

    -- f makes the nodes of the list
    abbrev Makes : (State Path Constraint → Turn Path Constraint) → List (Node Path Constraint) → Type 0
    Makes f new = (s : State Path Constraint) → f s ≡ make_all new s

    makes_both : (f g : State Path Constraint → Turn Path Constraint) (l r : List (Node Path Constraint)) → Makes f l → Makes g r → Makes (λ s. and_then (f s) g) (l ++ r)
    makes_both f g l r h k s = rw (h s) (then_same (make_all l s) g (make_all r) k ∙ make_append l r s)

module _ {Path Constraint : Type 0} (w : Problem Path Constraint) (limit bound : ℕ) where
  makes_root : (b : Bool) (rest : List (List ℕ)) → Makes limit bound (make_root w limit bound b rest) (next_root w b rest)
  makes_root false rest s = refl
  makes_root true [] s = refl
  makes_root true (a ∷ rest) s = sym (then_nothing (make limit bound (root_of w a) s))

  makes_with : (n : Node Path Constraint) (c : Constraint) (o : Option Path) → Makes limit bound (make_with w limit bound n c o) (child_with w n c o)
  makes_with n c None s = refl
  makes_with n c (Some p) s = sym (then_nothing (make limit bound (child_node w n c p) s))

  makes_child : (n : Node Path Constraint) (c : Constraint) → Makes limit bound (make_child w limit bound n c) (child w n c)
  makes_child n c = makes_with n c (w.least (w.bound c) (task_of w n.tasks (w.bound c)) (c ∷ n.constraints))

  makes_each : (n : Node Path Constraint) (sides : Constraint × Constraint) (rest : List (List ℕ)) → Makes limit bound (make_each w limit bound n sides rest) (to_make w n sides rest)
  makes_each n sides rest =
      makes_both limit bound (make_root w limit bound n.root rest) (λ t. and_then (make_child w limit bound n sides.0 t) (make_child w limit bound n sides.1))
      (next_root w n.root rest) (child w n sides.0 ++ child w n sides.1) (makes_root n.root rest)
      (makes_both limit bound (make_child w limit bound n sides.0) (make_child w limit bound n sides.1) (child w n sides.0) (child w n sides.1)
      (makes_child n sides.0) (makes_child n sides.1))

module _ {Path Constraint : Type 0} (w : Problem Path Constraint) (limit : ℕ)
    (choose : List (Node Path Constraint) → Option (Selected Path Constraint)) where
  -- the state once a node is taken out, with the assignments that remain after the next root
  abbrev pub without : State Path Constraint → Selected Path Constraint → State Path Constraint
  without s k = record { opened = k.others; made = s.made; rest = rest_after w k.node.root s.rest }

  extend_adds : (s : State Path Constraint) (k : Selected Path Constraint) (new : List (Node Path Constraint)) (b : Bool)
      → add_if limit k.bound b new (without s k) ≡ extend w limit choose s k new b
  extend_adds s k new true = refl
  extend_adds s k new false = refl

  -- to expand a node by making the new nodes one at a time comes to what the definition does
  pub one_at_a_time : (s : State Path Constraint) (k : Selected Path Constraint) (sides : Constraint × Constraint) → s.made ≤ limit
      → make_each w limit k.bound k.node sides s.rest (without s k) ≡ expand w limit choose s k (Some sides)
  one_at_a_time s k sides le =
      let new = to_make w k.node sides s.rest in
      makes_each w limit k.bound k.node sides s.rest (without s k)
      ∙ make_all_lem limit k.bound new (without s k) le
      ∙ extend_adds s k new (leb (s.made + length new) limit)

  -- the search with the nodes made one at a time
  abbrev pub expand_each : State Path Constraint → Selected Path Constraint → Option (Constraint × Constraint) → Turn Path Constraint
  expand_each s k None = done (plan k.node.tasks k.node.paths k.node.cost s.made k.bound)
  expand_each s k (Some sides) = make_each w limit k.bound k.node sides s.rest (without s k)

  abbrev pub turn_each_with : State Path Constraint → Option (Selected Path Constraint) → Turn Path Constraint
  turn_each_with s None = done (no_plan s.made)
  turn_each_with s (Some k) = expand_each s k (w.collision k.node.paths)

  abbrev pub run_each : ℕ → State Path Constraint → Option (Answer Path)
  run_each zero s = None
  run_each (suc n) s = onward w limit choose (run_each n) (turn_each_with s (choose s.opened))

  abbrev pub search_each_from : List (List ℕ) → Option (Answer Path)
  search_each_from [] = Some (no_plan 0)
  search_each_from (a ∷ rest) = run_each (suc limit) (record { opened = root_of w a ∷ []; made = 1; rest = rest })

  expand_same : (s : State Path Constraint) (k : Selected Path Constraint) (o : Option (Constraint × Constraint)) → s.made ≤ limit → expand_each s k o ≡ expand w limit choose s k o
  expand_same s k None le = refl
  expand_same s k (Some sides) le = one_at_a_time s k sides le

  turn_same : (s : State Path Constraint) (o : Option (Selected Path Constraint)) → s.made ≤ limit → turn_each_with s o ≡ turn_with w limit choose s o
  turn_same s None le = refl
  turn_same s (Some k) le = expand_same s k (w.collision k.node.paths) le

  -- no more nodes are made than the limit
  abbrev Within : Turn Path Constraint → Type 0
  Within (done a) = Unit {0}
  Within (more s) = s.made ≤ limit

  extend_within : (s : State Path Constraint) (k : Selected Path Constraint) (new : List (Node Path Constraint)) (b : Bool)
      → leb (s.made + length new) limit ≡ b → Within (extend w limit choose s k new b)
  extend_within s k new true e = leb-true (s.made + length new) limit e
  extend_within s k new false e = tt

  expand_within : (s : State Path Constraint) (k : Selected Path Constraint) (o : Option (Constraint × Constraint)) → Within (expand w limit choose s k o)
  expand_within s k None = tt
  expand_within s k (Some sides) = extend_within s k (to_make w k.node sides s.rest) _ refl

  turn_within : (s : State Path Constraint) (o : Option (Selected Path Constraint)) → Within (turn_with w limit choose s o)
  turn_within s None = tt
  turn_within s (Some k) = expand_within s k (w.collision k.node.paths)

  run_same : (n : ℕ) (s : State Path Constraint) → s.made ≤ limit → run_each n s ≡ run w limit choose n s
  run_same zero s le = refl
  run_same (suc n) s le =
      ap (onward w limit choose (run_each n)) (turn_same s (choose s.opened) le)
      ∙ go (turn w limit choose s) (turn_within s (choose s.opened)) (λ t h. run_same n t h)
    where
      go : (o : Turn Path Constraint) → Within o → ((t : State Path Constraint) → t.made ≤ limit → run_each n t ≡ run w limit choose n t)
          → onward w limit choose (run_each n) o ≡ onward w limit choose (run w limit choose n) o
      go (done a) h again = refl
      go (more t) h again = again t h

  -- it answers what the search of the definition answers
  pub searched_each : 1 ≤ limit → search_each_from w.assignments ≡ searched w limit choose
  unfolding searched
  searched_each h = go w.assignments
    where
      go : (l : List (List ℕ)) → search_each_from l ≡ search_from w limit choose l
      go [] = refl
      go (a ∷ rest) = run_same (suc limit) (record { opened = root_of w a ∷ []; made = 1; rest = rest }) h
