-- Raising the node limit of the exact search: a plan or none stays the answer, and the bound of a spent search does not fall.
-- Assumes nothing.
use Rattle.std.proofs.Common.{ℕ, zero, suc, ◌+◌, ◌≤◌, ◌<◌, ◌≡◌, refl, Bool, true, false, List, [], ◌∷◌, ◌++◌, Option, None, Some, le_refl, le_trans, arith, leb, leb→le, length}
use Rattle.deck.proofs.Members.{Mem}
use Rattle.std.proofs.Math.Dec.{nleb→lt}
use Rattle.deck.specs.Search.{Problem, Node, State, Selected, Answer, plan, no_plan, spent, Turn, to_make, grown, extend, expand, turn_with, onward, run, search_from, searched, cheapest}
use Rattle.optimal.specs.Plans.{Rules, Splits, Laws}
use Rattle.optimal.specs.Nodes.{IsNode}
use Rattle.optimal.specs.Invariant.{Invariant}
use Rattle.optimal.proofs.Nodes.{child_cost}
use Rattle.optimal.proofs.Invariant.{Chosen, Picked, each_root, each_next, taken_is_node, node_splits, next_inv, start_inv}
use Rattle.optimal.proofs.Select.{cheapest_picks}

module _ {Path : Type 0} where
  -- the answer costs, or bounds, no less than c
  abbrev pub Floor : ℕ → Option (Answer Path) → Type 0
  Floor c None = ⊥
  Floor c (Some (plan a ps f n b)) = c ≤ f
  Floor c (Some (no_plan n)) = Unit {0}
  Floor c (Some (spent n b)) = c ≤ b

  -- the second is the answer under a larger limit
  abbrev pub Raised : Option (Answer Path) → Option (Answer Path) → Type 0
  Raised None y = ⊥
  Raised (Some (plan a ps f n b)) y = y ≡ Some (plan a ps f n b)
  Raised (Some (no_plan n)) y = y ≡ Some (no_plan n)
  Raised (Some (spent n b)) y = Floor b y

module _ {Path Constraint : Type 0} (w : Problem Path Constraint) (r : Rules Path Constraint) (L : Laws w r) where
  -- no open node costs less than c
  abbrev Above : ℕ → List (Node Path Constraint) → Type 0
  Above c l = (x : Node Path Constraint) → Mem x l → c ≤ x.cost

  module _ (limit : ℕ) (s : State Path Constraint) (t : ℕ) (v : Invariant w r limit s t) (k : Selected Path Constraint) (ch : Chosen ◌≡◌ s.opened k) where
    abbrev new : Constraint × Constraint → List (Node Path Constraint)
    new cc = to_make w k.node cc s.rest

    is_node : IsNode w r k.node
    is_node = taken_is_node w r L limit ◌≡◌ s t v k ch

    split : Splits w r k.node.paths (w.collision k.node.paths)
    split = node_splits w r L limit ◌≡◌ s t v k ch

    keeps_inv : (cc : Constraint × Constraint) → Splits w r k.node.paths (Some cc) → s.made + length (new cc) ≤ limit → Invariant w r limit (grown w s k (new cc)) (suc t)
    keeps_inv = next_inv w r L limit ◌≡◌ s t v k ch

    -- so it stays
    next_above : (c : ℕ) → Above c s.opened → (cc : Constraint × Constraint) → Splits w r k.node.paths (Some cc) → Above c (k.others ++ new cc)
    next_above c up cc sp =
        each_next w r (λ x. c ≤ x.cost) k cc s.rest
        (λ x m. up x (ch.out.among x m))
        (each_root w r (λ x. c ≤ x.cost) k.node.root s.rest (λ a m. let u = v.lead a m in le_trans (up u.0 u.1) u.3))
        (λ x m. le_trans (up k.node ch.out.taken) (child_cost w r L k.node is_node cc.0 sp.0 x m))
        (λ x m. le_trans (up k.node ch.out.taken) (child_cost w r L k.node is_node cc.1 sp.1 x m))

  -- from a state whose open nodes cost at least c the answer is at least c
  module _ (limit : ℕ) (c : ℕ) where
    floor_run : (f t : ℕ) (s : State Path Constraint) → Invariant w r limit s t → limit < f + t → Above c s.opened → Floor c (run w limit cheapest f s)
    floor_run zero t s v l up = omega (arith, v.counted, v.within)
    floor_run (suc f) t s v l up = by_choice (cheapest s.opened) (cheapest_picks s.opened) (λ u i h. floor_run f (suc t) u i (omega arith) h)
      where
        Again : Type 0
        Again = (u : State Path Constraint) → Invariant w r limit u (suc t) → Above c u.opened → Floor c (run w limit cheapest f u)

        Goal : Turn Path Constraint → Type 0
        Goal x = Floor c (onward w limit cheapest (run w limit cheapest f) x)

        by_limit : (k : Selected Path Constraint) → Chosen ◌≡◌ s.opened k → (cc : Constraint × Constraint) → Splits w r k.node.paths (Some cc)
            → (b : Bool) → leb (s.made + length (to_make w k.node cc s.rest)) limit ≡ b → Again
            → Goal (extend w limit cheapest s k (to_make w k.node cc s.rest) b)
        by_limit k ch cc sp true e again = again _ (keeps_inv limit s t v k ch cc sp (leb→le _ limit (rw e tt))) (next_above limit s t v k ch c up cc sp)
        by_limit k ch cc sp false e again = rw (← ch.near) (up k.node ch.out.taken)

        by_collision : (k : Selected Path Constraint) → Chosen ◌≡◌ s.opened k → (o : Option (Constraint × Constraint)) → Splits w r k.node.paths o → Again
            → Goal (expand w limit cheapest s k o)
        by_collision k ch None sp again = up k.node ch.out.taken
        by_collision k ch (Some cc) sp again = by_limit k ch cc sp (leb (s.made + length (to_make w k.node cc s.rest)) limit) refl again

        by_choice : (o : Option (Selected Path Constraint)) → Picked ◌≡◌ s.opened o → Again → Goal (turn_with w limit cheapest s o)
        by_choice None h again = tt
        by_choice (Some k) ch again = by_collision k ch (w.collision k.node.paths) (split limit s t v k ch) again

  module _ (limit larger : ℕ) (more_room : limit ≤ larger) where
    wider : (s : State Path Constraint) (t : ℕ) → Invariant w r limit s t → Invariant w r larger s t
    wider s t v = record {
      nodes = v.nodes;
      served = v.served;
      rising = v.rising;
      cover = v.cover;
      lead = v.lead;
      counted = v.counted;
      within = le_trans v.within more_room;
    }

    raise_run : (f g t : ℕ) (s : State Path Constraint) → Invariant w r limit s t → limit < f + t → larger < g + t
        → Raised (run w limit cheapest f s) (run w larger cheapest g s)
    raise_run zero g t s v l h = omega (arith, v.counted, v.within)
    raise_run (suc f) zero t s v l h = absurd (omega (arith, v.counted, v.within))
    raise_run (suc f) (suc g) t s v l h =
        by_choice (cheapest s.opened) (cheapest_picks s.opened) (λ u i. raise_run f g (suc t) u i (omega arith) (omega arith))
      where
        Again : Type 0
        Again = (u : State Path Constraint) → Invariant w r limit u (suc t) → Raised (run w limit cheapest f u) (run w larger cheapest g u)

        -- what both come to, by what the turn comes to under each limit
        Goal : Turn Path Constraint → Turn Path Constraint → Type 0
        Goal x y = Raised (onward w limit cheapest (run w limit cheapest f) x) (onward w larger cheapest (run w larger cheapest g) y)

        by_limit : (k : Selected Path Constraint) → Chosen ◌≡◌ s.opened k → (cc : Constraint × Constraint) → Splits w r k.node.paths (Some cc)
            → (b d : Bool) → leb (s.made + length (to_make w k.node cc s.rest)) limit ≡ b
            → leb (s.made + length (to_make w k.node cc s.rest)) larger ≡ d → Again
            → Goal (extend w limit cheapest s k (to_make w k.node cc s.rest) b) (extend w larger cheapest s k (to_make w k.node cc s.rest) d)
        by_limit k ch cc sp true true e q again = again _ (keeps_inv limit s t v k ch cc sp (leb→le _ limit (rw e tt)))
        by_limit k ch cc sp true false e q again =
            let made = s.made + length (to_make w k.node cc s.rest) in
            absurd (omega (arith, leb→le made limit (rw e tt), nleb→lt made larger (rw q tt)))
        by_limit k ch cc sp false true e q again =
            floor_run larger k.bound g (suc t) _
            (keeps_inv larger s t (wider s t v) k ch cc sp (leb→le _ larger (rw q tt))) (omega arith)
            (next_above limit s t v k ch k.bound ch.below cc sp)
        by_limit k ch cc sp false false e q again = le_refl k.bound

        by_collision : (k : Selected Path Constraint) → Chosen ◌≡◌ s.opened k → (o : Option (Constraint × Constraint)) → Splits w r k.node.paths o → Again
            → Goal (expand w limit cheapest s k o) (expand w larger cheapest s k o)
        by_collision k ch None sp again = refl
        by_collision k ch (Some cc) sp again =
            by_limit k ch cc sp
            (leb (s.made + length (to_make w k.node cc s.rest)) limit) (leb (s.made + length (to_make w k.node cc s.rest)) larger) refl refl again

        by_choice : (o : Option (Selected Path Constraint)) → Picked ◌≡◌ s.opened o → Again
            → Goal (turn_with w limit cheapest s o) (turn_with w larger cheapest s o)
        by_choice None h again = refl
        by_choice (Some k) ch again = by_collision k ch (w.collision k.node.paths) (split limit s t v k ch) again

    raise_from : 1 ≤ limit → (l : List (List ℕ)) → w.assignments ≡ l → Raised (search_from w limit cheapest l) (search_from w larger cheapest l)
    raise_from room [] e = refl
    raise_from room (a ∷ l) e =
        raise_run (suc limit) (suc larger) 0 _ (start_inv w r L limit a l e room) (omega arith) (omega arith)

    -- Under a larger limit a plan or none stays the answer; a spent search keeps its bound or raises it, or finds a plan of at least
    -- that flowtime
    pub raise : 1 ≤ limit → Raised (searched w limit cheapest) (searched w larger cheapest)
    unfolding searched
    raise room = raise_from room w.assignments refl
