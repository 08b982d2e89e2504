-- The nodes of an expansion, one after the other: what each step leaves for the next, and what all come to. Assumes nothing.
use Prim.Native.Nat.{ℕ, ◌+◌, ◌<◌, ◌≤◌}
use Rattle.std.proofs.Common.{◌≡◌, refl, sym, ap, subst, ◌∙◌, Bool, true, false, List, [], ◌∷◌, arith, length, ltb}
use Rattle.std.specs.Prelude.{Option, None, Some}
use Rattle.deck.specs.Sheet.{Sheet}
use Rattle.deck.specs.Search.{Problem, Node, State, Turn, more, task_of, rest_after, root_of, child_node}
use Rattle.deck.specs.Planner.{problem}
use Rattle.deck.specs.declared.Constraint.{Constraint}
use Rattle.meaning.specs.Making.{and_then, add_if, make_root, make_with, make_child, make_each}
use Rattle.nodes.specs.Nodes.{node_at}
use Rattle.meaning.specs.Constraints.{InRange}
use Rattle.expand.specs.Children.{Branch}
use Rattle.expand.specs.declared.given.Given.{Given}
use Rattle.expand.specs.Given.{sheet_of, Room}
use Rattle.expand.specs.Held.{Held, Holding, Same, Grew, NodeAt, Nodes}
use Rattle.expand.specs.declared.Made.{Made}

-- WHERE A STEP DOES NOT END THE SEARCH, no fewer nodes are made after it
module _ (w : Problem (List ℕ) Constraint) (limit bound : ℕ) where
  add_more : (b : Bool) (x : Node (List ℕ) Constraint) (s t : State (List ℕ) Constraint) → add_if limit bound b (x ∷ []) s ≡ more t → s.made ≤ t.made
  add_more true x s t e =
      let z : s.made + 1 ≡ t.made = cc in
      omega arith
  add_more false x s t e = absurd (let z : ◌≡◌ {A = ℕ} 0 1 = cc in omega arith)

  root_more : (b : Bool) (rest : List (List ℕ)) (s t : State (List ℕ) Constraint) → make_root w limit bound b rest s ≡ more t → s.made ≤ t.made
  root_more false rest s t e =
      let z : s.made ≡ t.made = cc in
      omega arith
  root_more true [] s t e =
      let z : s.made ≡ t.made = cc in
      omega arith
  root_more true (a ∷ rest) s t e = add_more (ltb s.made limit) (root_of w a) s t e

  with_more : (n : Node (List ℕ) Constraint) (c : Constraint) (o : Option (List ℕ)) (s t : State (List ℕ) Constraint) → make_with w limit bound n c o s ≡ more t → s.made ≤ t.made
  with_more n c None s t e =
      let z : s.made ≡ t.made = cc in
      omega arith
  with_more n c (Some p) s t e = add_more (ltb s.made limit) (child_node w n c p) s t e

  child_more : (n : Node (List ℕ) Constraint) (c : Constraint) (s t : State (List ℕ) Constraint) → make_child w limit bound n c s ≡ more t → s.made ≤ t.made
  child_more n c = with_more n c (w.least (w.bound c) (task_of w n.tasks (w.bound c)) (c ∷ n.constraints))

  -- what all come to
  module _ (x : Node (List ℕ) Constraint) (one two : Constraint) (rest : List (List ℕ)) (s : State (List ℕ) Constraint) where
    module _ (t : State (List ℕ) Constraint) (e : make_root w limit bound x.root rest s ≡ more t) where
      after_root : make_each w limit bound x (one, two) rest s ≡ and_then (make_child w limit bound x one t) (make_child w limit bound x two)
      after_root = ap (λ (u : Turn (List ℕ) Constraint). and_then u (λ v. and_then (make_child w limit bound x one v) (make_child w limit bound x two))) e

      each_third : (u : State (List ℕ) Constraint) → make_child w limit bound x one t ≡ more u → make_each w limit bound x (one, two) rest s ≡ make_child w limit bound x two u
      each_third u g = after_root ∙ ap (λ (v : Turn (List ℕ) Constraint). and_then v (make_child w limit bound x two)) g

-- WHAT A STEP MAKES of what is held
abbrev pub RootStep : Sheet → List ℕ → List ℕ → ℕ → ℕ → ℕ → Option Made → Type 0
RootStep d work after made latest n r =
    (opened : Nodes) (rest : List (List ℕ)) (bound : ℕ) → Held d work made latest (record { opened = opened; made = made; rest = rest })
    → Grew d after bound r
    (make_root (problem d) d.limit bound (node_at d work n).root rest (record { opened = opened; made = made; rest = rest_after (problem d) (node_at d work n).root rest }))

abbrev pub ChildStep : Sheet → List ℕ → List ℕ → ℕ → ℕ → ℕ → Constraint → Option Made → Type 0
ChildStep d work after made latest n c r =
    (st : State (List ℕ) Constraint) (bound : ℕ) → Held d work made latest st → Grew d after bound r (make_child (problem d) d.limit bound (node_at d work n) c st)

-- the state has the number itself
renumber : {d : Sheet} {work : List ℕ} {made latest : ℕ} {st : State (List ℕ) Constraint} → Held d work made latest st → Held d work made latest (record { opened = st.opened; made = made; rest = st.rest })
renumber h = record { stored = h.stored; opened = h.opened; number = refl; slots = h.slots; recent = h.recent; within = h.within }

module _ {d : Sheet} {work after : List ℕ} {made latest : ℕ} (m : Made) (h : Holding d work made latest) (n : ℕ) where
  root_held : RootStep d work after made latest n (Some m) → Holding d after m.nodes m.latest × (made ≤ m.nodes)
  root_held step =
      let st = h.0 in
      let root = (node_at d work n).root in
      let before : State (List ℕ) Constraint = record { opened = st.opened; made = made; rest = rest_after (problem d) root st.rest } in
      let g = step st.opened st.rest 0 (renumber h.1) in
      ((g.0, g.2), omega (arith, root_more (problem d) d.limit 0 root st.rest before g.0 g.1, g.2.number))

  child_held : (c : Constraint) → ChildStep d work after made latest n c (Some m) → Holding d after m.nodes m.latest × (made ≤ m.nodes)
  child_held c step =
      let st = h.0 in
      let g = step st 0 h.1 in
      ((g.0, g.2), omega (arith, child_more (problem d) d.limit 0 (node_at d work n) c st g.0 g.1, g.2.number, h.1.number))

  -- no fewer nodes are made, so that those made before a step are as they were after the next one too
  pub fewer_root : RootStep d work after made latest n (Some m) → made ≤ m.nodes
  fewer_root step = (root_held step).1

pub fewer_child : {g : Given} {work after : List ℕ} {made latest n : ℕ} {c : Constraint} (m : Made) → Branch g work made latest n c → ChildStep (sheet_of g) work after made latest n c (Some m) → made ≤ m.nodes
fewer_child {n = n} {c = c} m x step = (child_held m x.held n c step).1

pub same_on : {d : Sheet} {work first second : List ℕ} {made k : ℕ} → made ≤ k → Same d work first made → Same d first second k → Same d work second made
same_on m p q = record { nodes = λ j h. q.nodes j (omega arith) ∙ p.nodes j h; keys = λ j h. q.keys j (omega arith) ∙ p.keys j h }

-- THE CHILDREN: what each is made of, the first after the root, the second after the first
pub first_branch : {g : Given} {work after : List ℕ} {made latest n : ℕ} {c : Constraint} (m : Made) → Room g work → n < made → Holding (sheet_of g) work made latest → NodeAt (sheet_of g) work n
    → RootStep (sheet_of g) work after made latest n (Some m) → Same (sheet_of g) work after made → length after ≡ length work → InRange (sheet_of g) c → Branch g after m.nodes m.latest n c
first_branch {n = n} m room b h o step same long good =
    let k = root_held m h n step in
    record {
      room = rw long room;
      held = k.0;
      below = omega (arith, k.1);
      node = rw (same.nodes n b) o;
      good = good;
    }

pub second_branch : {g : Given} {work after : List ℕ} {made latest n : ℕ} {c b : Constraint} (m : Made) → Branch g work made latest n c
    → ChildStep (sheet_of g) work after made latest n c (Some m) → Same (sheet_of g) work after made → length after ≡ length work → InRange (sheet_of g) b → Branch g after m.nodes m.latest n b
second_branch {n = n} {c = c} m x step same long good =
    let k = child_held m x.held n c step in
    record {
      room = rw long x.room;
      held = k.0;
      below = omega (arith, x.below, k.1);
      node = rw (same.nodes n x.below) x.node;
      good = good;
    }

-- THE WHOLE: of node n of `work`, by the root, and then by the children
module _ (d : Sheet) (work first : List ℕ) (made latest n : ℕ) (b : n < made) (one two : Constraint) (m : Made) (root : RootStep d work first made latest n (Some m)) (same : Same d work first made) where
  abbrev x : Node (List ℕ) Constraint
  x = node_at d work n

  abbrev Whole : List ℕ → Option Made → Type 0
  Whole after r =
      (opened : Nodes) (rest : List (List ℕ)) (bound : ℕ) → Held d work made latest (record { opened = opened; made = made; rest = rest })
      → Grew d after bound r
      (make_each (problem d) d.limit bound x (one, two) rest (record { opened = opened; made = made; rest = rest_after (problem d) x.root rest }))

  pub made_third : {second : List ℕ} (k : Made) → ChildStep d first second m.nodes m.latest n one (Some k) → Same d first second m.nodes
      → (third : List ℕ) (r : Option Made) → ChildStep d second third k.nodes k.latest n two r → Whole third r
  made_third {second} k child again third r last opened rest bound h =
      let st : State (List ℕ) Constraint = record { opened = opened; made = made; rest = rest_after (problem d) x.root rest } in
      let g = root opened rest bound h in
      let a : n < m.nodes = omega (arith, root_more (problem d) d.limit bound x.root rest st g.0 g.1, g.2.number) in
      let one-child : Grew d second bound (Some k) (make_child (problem d) d.limit bound x one g.0) = rw (← same.nodes n b) (child g.0 bound g.2) in
      let two-child : Grew d third bound r (make_child (problem d) d.limit bound x two one-child.0) =
      subst (λ (y : Node (List ℕ) Constraint). Grew d third bound r (make_child (problem d) d.limit bound y two one-child.0)) (again.nodes n a ∙ same.nodes n b) (last one-child.0 bound one-child.2) in
      subst (Grew d third bound r) (sym (each_third (problem d) d.limit bound x one two rest st g.0 g.1 one-child.0 one-child.1)) two-child
