-- The invariant of the search, for any selection rule that keeps `Picked`: it holds at the start, each turn that goes on keeps it,
-- and it makes each answer right. With one turn more than there may be nodes the search always answers. Assumes nothing.
use Rattle.std.proofs.Common.{ℕ, zero, suc, ◌+◌, ◌≤◌, ◌<◌, ◌≡◌, refl, sym, ap, subst, ◌∙◌, ◌⊎◌, inl, inr, ⊎_elim, Bool, true, false, List, [], ◌∷◌, ◌++◌, Option, None, Some, le_trans, arith, leb, leb→le, length, length-append}
use Rattle.std.proofs.lemmas.Bool.{false≢true}
use Rattle.deck.proofs.Members.{Mem, here, there, not-nil, cases_cons, only, in_left, in_right, cases_append}
use Rattle.deck.specs.Search.{Problem, Node, State, Selected, Answer, no_plan, Turn, done, more, flowtime, root_of, child, next_root, rest_after, to_make, grown, extend, expand, turn_with, turn, onward, run, search_from, searched}
use Rattle.meaning.proofs.Lists.{Taken}
use Rattle.optimal.specs.Plans.{Rules, IsPlan, KeepsOwn, Splits, Rising, Laws, NoPlanBelow, Right}
use Rattle.optimal.specs.Nodes.{IsNode, Covers}
use Rattle.optimal.specs.Invariant.{AllServed, Covered, Led, Invariant}
use Rattle.optimal.proofs.Nodes.{legals, covered_cost, root_covers, root_is_node, child_is_node, child_covers}

-- What is asked of a selection rule: the node is taken from the list, its bound is below the cost of each node there, and near to
-- its own cost
pub record Chosen {Path Constraint : Type 0} (Near : ℕ → ℕ → Type 0) (l : List (Node Path Constraint)) (k : Selected Path Constraint) : Type 0 where
  pub out : Taken l k.node k.others
  pub below : (x : Node Path Constraint) → Mem x l → k.bound ≤ x.cost
  pub near : Near k.node.cost k.bound

abbrev pub Picked : {Path Constraint : Type 0} (Near : ℕ → ℕ → Type 0) → List (Node Path Constraint) → Option (Selected Path Constraint) → Type 0
Picked Near l None = l ≡ []
Picked Near l (Some k) = Chosen Near l k

-- The next root, and the assignments that remain after it
module _ {Path Constraint : Type 0} (w : Problem Path Constraint) (r : Rules Path Constraint) where
  rest_in : (b : Bool) (l : List (List ℕ)) (a : List ℕ) → Mem a (rest_after w b l) → Mem a l
  rest_in false l a m = m
  rest_in true [] a m = m
  rest_in true (b ∷ l) a m = there m

  rest_rising : (b : Bool) (l : List (List ℕ)) → Rising w r l → Rising w r (rest_after w b l)
  rest_rising false l h = h
  rest_rising true [] h = h
  rest_rising true (a ∷ l) h = h.1

  next_cover : (b : Bool) (l : List (List ℕ)) (a : List ℕ) (qs : List Path) → Mem a l → Covered w r (next_root w b l) a qs ⊎ Mem a (rest_after w b l)
  next_cover false l a qs m = inr m
  next_cover true [] a qs m = inr m
  next_cover true (b ∷ l) a qs m =
      ⊎_elim (λ e. inl (root_of w b, here refl, rw e (root_covers w r b qs))) (λ t. inr t) (cases_cons m)

  next_lead : (l : List (List ℕ)) → Rising w r l → (a : List ℕ) → Mem a (rest_after w true l) → Led w r (next_root w true l) a
  next_lead [] up a m = absurd (not-nil m)
  next_lead (b ∷ l) up a m = (root_of w b, here refl, refl, up.0 a m)

  -- what holds of the root of each assignment holds of the next root
  pub each_root : (P : Node Path Constraint → Type 0) (b : Bool) (l : List (List ℕ)) → ((a : List ℕ) → Mem a l → P (root_of w a))
      → (x : Node Path Constraint) → Mem x (next_root w b l) → P x
  each_root P false l f x m = absurd (not-nil m)
  each_root P true [] f x m = absurd (not-nil m)
  each_root P true (a ∷ l) f x m = rw (only m) (f a (here refl))

  -- what holds of the others, of the next root and of both children holds of all open nodes after the turn
  pub each_next : (P : Node Path Constraint → Type 0) (k : Selected Path Constraint) (cc : Constraint × Constraint) (l : List (List ℕ))
      → ((x : Node Path Constraint) → Mem x k.others → P x)
      → ((x : Node Path Constraint) → Mem x (next_root w k.node.root l) → P x)
      → ((x : Node Path Constraint) → Mem x (child w k.node cc.0) → P x)
      → ((x : Node Path Constraint) → Mem x (child w k.node cc.1) → P x)
      → (x : Node Path Constraint) → Mem x (k.others ++ to_make w k.node cc l) → P x
  each_next P k cc l others root left right x m =
      ⊎_elim
      (others x)
      (λ n. ⊎_elim (root x) (λ u. ⊎_elim (left x) (right x) (cases_append (child w k.node cc.0) u)) (cases_append (next_root w k.node.root l) n))
      (cases_append k.others m)

module _ {Path Constraint : Type 0} (w : Problem Path Constraint) (r : Rules Path Constraint) (limit : ℕ) where
  -- some open node costs at most as much as the plan
  pub open_below : Laws w r → (s : State Path Constraint) (t : ℕ) → Invariant w r limit s t → (a : List ℕ) (qs : List Path) → IsPlan w r a qs
      → (x : Node Path Constraint) × Mem x s.opened × (x.cost ≤ flowtime w a qs)
  open_below L s t v a qs p = go (v.cover a qs p)
    where
      go : Covered w r s.opened a qs ⊎ Mem a s.rest → (x : Node Path Constraint) × Mem x s.opened × (x.cost ≤ flowtime w a qs)
      go (inl (x, m, c)) = (x, m, covered_cost w r x a qs (v.nodes x m) p c)
      go (inr m) =
          let u = v.lead a m in
          let o = root_is_node w r L a p.assigned (v.served a m).1 in
          (u.0, u.1, le_trans u.3 (covered_cost w r (root_of w a) a qs o p (root_covers w r a qs)))

-- The state after a turn in which the node k is taken
module _ {Path Constraint : Type 0} (w : Problem Path Constraint) (r : Rules Path Constraint) (L : Laws w r) (limit : ℕ) (Near : ℕ → ℕ → Type 0) where
  module _ (s : State Path Constraint) (t : ℕ) (v : Invariant w r limit s t) (k : Selected Path Constraint) (ch : Chosen Near s.opened k) where
    pub taken_is_node : IsNode w r k.node
    taken_is_node = v.nodes k.node ch.out.taken

    bound_below : NoPlanBelow w r k.bound
    bound_below a qs p = let u = open_below w r limit L s t v a qs p in le_trans (ch.below u.0 u.1) u.2

    -- the two constraints of the node's first collision, or none
    pub node_splits : Splits w r k.node.paths (w.collision k.node.paths)
    node_splits = L.collision k.node.tasks k.node.paths (legals w r taken_is_node)

    -- the node has the collision that gives the two constraints
    module _ (cc : Constraint × Constraint) (sp : Splits w r k.node.paths (Some cc)) where
      abbrev new : List (Node Path Constraint)
      new = to_make w k.node cc s.rest

      abbrev rest : List (List ℕ)
      rest = rest_after w k.node.root s.rest

      -- where the new nodes stand among the open ones
      root_opened : {x : Node Path Constraint} → Mem x (next_root w k.node.root s.rest) → Mem x (k.others ++ new)
      root_opened m = in_right k.others (in_left (child w k.node cc.0 ++ child w k.node cc.1) m)

      children_opened : {x : Node Path Constraint} → Mem x (child w k.node cc.0 ++ child w k.node cc.1) → Mem x (k.others ++ new)
      children_opened m = in_right k.others (in_right (next_root w k.node.root s.rest) m)

      next_nodes : (x : Node Path Constraint) → Mem x (k.others ++ new) → IsNode w r x
      next_nodes =
          each_next w r (IsNode w r) k cc s.rest
          (λ x m. v.nodes x (ch.out.among x m))
          (each_root w r (IsNode w r) k.node.root s.rest (λ a m. let g = v.served a m in root_is_node w r L a g.0 g.1))
          (child_is_node w r L k.node taken_is_node cc.0 sp.0)
          (child_is_node w r L k.node taken_is_node cc.1 sp.1)

      next_covers : (a : List ℕ) (qs : List Path) → IsPlan w r a qs → Covered w r (k.others ++ new) a qs ⊎ Mem a rest
      next_covers a qs p = go (v.cover a qs p)
        where
          -- by the child with the constraint c
          by_child : (c : Constraint) → r.Fit c → ((x : Node Path Constraint) → Mem x (child w k.node c) → Mem x (k.others ++ new))
              → Covers w r k.node a qs → KeepsOwn w r qs c → Covered w r (k.others ++ new) a qs
          by_child c fit place covers own =
              let u = child_covers w r L k.node taken_is_node c fit a qs p covers own in
              (u.0, place u.0 u.1, u.2)

          by_open : (x : Node Path Constraint) → Covers w r x a qs → (x ≡ k.node) ⊎ Mem x k.others → Covered w r (k.others ++ new) a qs
          by_open x c (inl e) =
              ⊎_elim
              (by_child cc.0 sp.0 (λ y m. children_opened (in_left (child w k.node cc.1) m)) (rw e at c))
              (by_child cc.1 sp.1 (λ y m. children_opened (in_right (child w k.node cc.0) m)) (rw e at c))
              (sp.2 qs p.apart)
          by_open x c (inr m) = (x, in_left new m, c)

          go : Covered w r s.opened a qs ⊎ Mem a s.rest → Covered w r (k.others ++ new) a qs ⊎ Mem a rest
          go (inl (x, m, c)) = inl (by_open x c (ch.out.kept x m))
          go (inr m) = ⊎_elim (λ u. inl (u.0, root_opened u.1, u.2)) (λ n. inr n) (next_cover w r k.node.root s.rest a qs m)

      next_leads : (a : List ℕ) → Mem a rest → Led w r (k.others ++ new) a
      next_leads a m = go k.node.root refl
        where
          by_open : k.node.root ≡ false → (u : Led w r s.opened a) → (u.0 ≡ k.node) ⊎ Mem u.0 k.others → Led w r (k.others ++ new) a
          by_open f u (inl e) = absurd (false≢true (sym f ∙ ap (λ (n : Node Path Constraint). n.root) (sym e) ∙ u.2))
          by_open f u (inr n) = (u.0, in_left new n, u.2, u.3)

          go : (b : Bool) → k.node.root ≡ b → Led w r (k.others ++ new) a
          go true e =
              let u = next_lead w r s.rest v.rising a (rw e at m) in
              (u.0, root_opened (rw e u.1), u.2, u.3)
          go false e = let u = v.lead a (rest_in w r k.node.root s.rest a m) in by_open e u (ch.out.kept u.0 u.1)

      pub next_inv : s.made + length (to_make w k.node cc s.rest) ≤ limit
          → Invariant w r limit (grown w s k (to_make w k.node cc s.rest)) (suc t)
      next_inv room = record {
        nodes = next_nodes;
        served = λ a m. v.served a (rest_in w r k.node.root s.rest a m);
        rising = rest_rising w r k.node.root s.rest v.rising;
        cover = next_covers;
        lead = next_leads;
        counted = rw (length-append k.others new) (omega (arith, v.counted, ch.out.fewer));
        within = room;
      }

-- The start
module _ {Path Constraint : Type 0} (w : Problem Path Constraint) (r : Rules Path Constraint) (L : Laws w r) (limit : ℕ) where
  -- each plan's assignment is in the list
  plan_listed : (a : List ℕ) (qs : List Path) → IsPlan w r a qs → Mem a w.assignments
  plan_listed a qs p = L.assignments_all a p.assigned (λ i h. (_, p.legal i h))

  pub start_inv : (a : List ℕ) (l : List (List ℕ)) → w.assignments ≡ a ∷ l → 1 ≤ limit
      → Invariant w r limit (record { opened = root_of w a ∷ []; made = 1; rest = l }) 0
  start_inv a l e room = record {
    nodes = λ x m. let g = listed a (here refl) in rw (only m) (root_is_node w r L a g.0 g.1);
    served = λ b m. listed b (there m);
    rising = up.1;
    cover = λ b qs p. ⊎_elim (λ q. inl (root_of w a, here refl, rw q (root_covers w r a qs))) (λ m. inr m) (cases_cons (rw e at (plan_listed b qs p)));
    lead = λ b m. (root_of w a, here refl, refl, up.0 b m);
    counted = refl;
    within = room;
  }
    where
      listed : AllServed w r (a ∷ l)
      listed b m = L.assignments_sound b (rw e m)

      up : Rising w r (a ∷ l)
      up = rw e at L.assignments_rising

-- The turns, for a selection rule that keeps `Picked`
module _ {Path Constraint : Type 0} (w : Problem Path Constraint) (r : Rules Path Constraint) (L : Laws w r) (limit : ℕ)
    (Near : ℕ → ℕ → Type 0) (choose : List (Node Path Constraint) → Option (Selected Path Constraint))
    (picks : (l : List (Node Path Constraint)) → Picked Near l (choose l)) where
  -- what a turn comes to, after t nodes were taken
  abbrev pub TurnRight : ℕ → Turn Path Constraint → Type 0
  TurnRight t (done a) = Right w r Near a
  TurnRight t (more s) = Invariant w r limit s (suc t)

  module _ (s : State Path Constraint) (t : ℕ) (v : Invariant w r limit s t) (k : Selected Path Constraint) (ch : Chosen Near s.opened k) where
    extend_right : (cc : Constraint × Constraint) → Splits w r k.node.paths (Some cc)
        → (b : Bool) → leb (s.made + length (to_make w k.node cc s.rest)) limit ≡ b
        → TurnRight t (extend w limit choose s k (to_make w k.node cc s.rest) b)
    extend_right cc sp true e = next_inv w r L limit Near s t v k ch cc sp (leb→le _ limit (rw e tt))
    extend_right cc sp false e = bound_below w r L limit Near s t v k ch

    expand_right : (o : Option (Constraint × Constraint)) → Splits w r k.node.paths o → TurnRight t (expand w limit choose s k o)
    expand_right None apart =
        let o = taken_is_node w r L limit Near s t v k ch in (
          record { assigned = o.assigned; a_path_each = o.a_path_each; legal = legals w r o; apart = apart },
          o.cost_is,
          ch.near,
          bound_below w r L limit Near s t v k ch,
        )
    expand_right (Some cc) sp = extend_right cc sp (leb (s.made + length (to_make w k.node cc s.rest)) limit) refl

  turn_with_right : (s : State Path Constraint) (t : ℕ) → Invariant w r limit s t → (o : Option (Selected Path Constraint)) → Picked Near s.opened o
      → TurnRight t (turn_with w limit choose s o)
  turn_with_right s t v None e = λ a qs p. let u = open_below w r limit L s t v a qs p in not-nil (subst (Mem u.0) e u.1)
  turn_with_right s t v (Some k) ch = expand_right s t v k ch (w.collision k.node.paths) (node_splits w r L limit Near s t v k ch)

  -- One turn keeps the invariant, or its answer is right
  pub turn_right : (s : State Path Constraint) (t : ℕ) → Invariant w r limit s t → TurnRight t (turn w limit choose s)
  turn_right s t v = turn_with_right s t v (choose s.opened) (picks s.opened)

  -- the answer is there and is right
  abbrev pub Answered : Option (Answer Path) → Type 0
  Answered o = (a : Answer Path) × (o ≡ Some a) × Right w r Near a

  pub run_right : (f t : ℕ) (s : State Path Constraint) → Invariant w r limit s t → limit < f + t → Answered (run w limit choose f s)
  run_right zero t s v l = absurd (omega (arith, v.counted, v.within))
  run_right (suc f) t s v l = go (turn w limit choose s) (turn_right s t v) (λ u i. run_right f (suc t) u i (omega arith))
    where
      go : (o : Turn Path Constraint) → TurnRight t o → ((u : State Path Constraint) → Invariant w r limit u (suc t) → Answered (run w limit choose f u))
          → Answered (onward w limit choose (run w limit choose f) o)
      go (done a) h again = (a, refl, h)
      go (more u) h again = again u h

  search_from_right : 1 ≤ limit → (l : List (List ℕ)) → w.assignments ≡ l → Answered (search_from w limit choose l)
  search_from_right room [] e = (no_plan 0, refl, λ a qs p. not-nil (rw e at (plan_listed w r L limit a qs p)))
  search_from_right room (a ∷ l) e = run_right (suc limit) 0 _ (start_inv w r L limit a l e room) (omega arith)

  -- The search answers, and its answer is right
  pub searched_right : 1 ≤ limit → Answered (searched w limit choose)
  unfolding searched
  searched_right room = search_from_right room w.assignments refl
