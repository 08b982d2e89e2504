-- The turns on the workspace come to the search's answer: at the start of each turn the state that is held leads to it. Assumes
-- nothing.
use Prim.Native.Nat.{ℕ, suc, ◌+◌, ◌-◌, ◌<◌, ◌≤◌}
use Rattle.std.proofs.Common.{◌≡◌, sym, ap, subst, ◌∙◌, List, [], ◌∷◌, Bool, true, false, Option, None, Some, ControlFlow, Continue, Break, add-one, arith, length, leb}
use Rattle.deck.specs.Sheet.{read, cause}
use Rattle.deck.specs.Search.{Problem, Node, Selected, Answer, Turn, done, more, root_of, to_make, cheapest, extend, expand, turn_with, turn, onward, run, search_from, searched}
use Rattle.deck.specs.Planner.{problem, plan_for}
use Rattle.deck.specs.declared.Constraint.{Constraint}
use Rattle.meaning.proofs.Fuel.{plan_answers}
use Rattle.sheet.proofs.Accepted.{limit_range}
use Rattle.optimal.specs.Deck.{rules}
use Rattle.optimal.proofs.Invariant.{TurnRight, turn_right, start_inv}
use Rattle.optimal.proofs.Select.{cheapest_picks}
use Rattle.expand.specs.Held.{Held}
use Rattle.expand.specs.declared.Made.{Made}
use Rattle.turns.specs.Turns.{Turning, EndedWith, TurnedTo}
use Rattle.turns.specs.declared.End.{End}
use Rattle.turns.proofs.Turning.{St, deck_laws}

-- after k turns a state is held that comes to the answer with the turns that are left
pub record Going (s work : List ℕ) (made latest k : ℕ) : Type 0 where
  pub state : St
  pub turning : Turning (read s) work made latest k state
  pub comes : (f : ℕ) → f + k ≡ suc (read s).limit → run (problem (read s)) (read s).limit cheapest f state ≡ Some (plan_for (read s))

-- no fewer nodes are made after a turn
module _ (w : Problem (List ℕ) Constraint) (limit : ℕ) where
  abbrev NoFewer : ℕ → Turn (List ℕ) Constraint → Type 0
  NoFewer made (done a) = Unit {0}
  NoFewer made (more st) = made ≤ st.made

  extended : (st : St) (k : Selected (List ℕ) Constraint) (new : List (Node (List ℕ) Constraint)) (b : Bool) → NoFewer st.made (extend w limit cheapest st k new b)
  extended st k new true = omega arith
  extended st k new false = tt

  expanded : (st : St) (k : Selected (List ℕ) Constraint) (o : Option (Constraint × Constraint)) → NoFewer st.made (expand w limit cheapest st k o)
  expanded st k None = tt
  expanded st k (Some c) = extended st k (to_make w k.node c st.rest) (leb (st.made + length (to_make w k.node c st.rest)) limit)

  turned_with : (st : St) (o : Option (Selected (List ℕ) Constraint)) → NoFewer st.made (turn_with w limit cheapest st o)
  turned_with st None = tt
  turned_with st (Some k) = expanded st k (w.collision k.node.paths)

  no_fewer : (st next : St) → turn w limit cheapest st ≡ more next → st.made ≤ next.made
  no_fewer st next e = subst (NoFewer st.made) e (turned_with st (cheapest st.opened))

module _ (s : List ℕ) (ok : cause s ≡ None) where
  -- the first root
  pub start_going : (work a : List ℕ) (rest : List (List ℕ)) → (problem (read s)).assignments ≡ a ∷ rest
      → Held (read s) work 1 1 (record { opened = root_of (problem (read s)) a ∷ []; made = 1; rest = rest }) → Going s work 1 1 0
  unfolding searched
  start_going work a rest e held =
      record {
        state = record { opened = root_of (problem (read s)) a ∷ []; made = 1; rest = rest };
        turning = (held, start_inv (problem (read s)) (rules (read s)) (deck_laws s ok) (read s).limit a rest e (limit_range s ok).0);
        comes = λ f l. let z : f ≡ suc (read s).limit = omega arith in rw z (sym (ap (search_from (problem (read s)) (read s).limit cheapest) e) ∙ plan_answers (read s) (limit_range s ok).0);
      }

  -- the turns do not run out
  pub going_ends : (work : List ℕ) (made latest k : ℕ) → Going s work made latest k → k ≡ suc (read s).limit → ⊥
  going_ends work made latest k g e = let n : None ≡ Some (plan_for (read s)) = g.comes 0 (omega arith) in let z : ◌≡◌ {A = ℕ} 0 1 = cc in omega arith

  -- one turn
  module _ (work : List ℕ) (made latest k : ℕ) (going : Going s work made latest k) (left : k < suc (read s).limit) (after : List ℕ) where
    abbrev next : Turn (List ℕ) Constraint
    next = turn (problem (read s)) (read s).limit cheapest going.state

    -- what a turn says of each state that is held
    abbrev pub Says : ControlFlow End Made → Type 0
    Says r = (st : St) (k : ℕ) → Turning (read s) work made latest k st → TurnedTo (read s) after r (turn (problem (read s)) (read s).limit cheapest st)

    comes_next : (f : ℕ) → f + suc k ≡ suc (read s).limit → onward (problem (read s)) (read s).limit cheapest (run (problem (read s)) (read s).limit cheapest f) next ≡ Some (plan_for (read s))
    comes_next f e = going.comes (suc f) (omega arith)

    -- it ends the search
    ends : (a : Answer (List ℕ)) → next ≡ done a → plan_for (read s) ≡ a
    ends a e =
        let f : ℕ = (read s).limit - k in
        let c : Some a ≡ Some (plan_for (read s)) = sym (ap (onward (problem (read s)) (read s).limit cheapest (run (problem (read s)) (read s).limit cheapest f)) e) ∙ comes_next f (omega arith) in
        cc

    pub going_more : (m : Made) → Says (Continue m) → Going s after m.nodes m.latest (k + 1)
    going_more m says =
        let t = says going.state k going.turning in
        rw (add-one k)
        (record {
          state = t.0;
          turning = (
            t.2,
            subst (TurnRight (problem (read s)) (rules (read s)) (deck_laws s ok) (read s).limit ◌≡◌ cheapest cheapest_picks k) t.1
                (turn_right (problem (read s)) (rules (read s)) (deck_laws s ok) (read s).limit ◌≡◌ cheapest cheapest_picks going.state k going.turning.1),
          );
          comes = λ f z. sym (ap (onward (problem (read s)) (read s).limit cheapest (run (problem (read s)) (read s).limit cheapest f)) t.1) ∙ comes_next f z;
        })

    pub more_fewer : (m : Made) → Says (Continue m) → made ≤ m.nodes
    more_fewer m says =
        let t = says going.state k going.turning in
        omega (arith, no_fewer (problem (read s)) (read s).limit going.state t.0 t.1, going.turning.0.number, t.2.number)

    pub going_ended : (end : End) → Says (Break end) → EndedWith (read s) after end (plan_for (read s))
    going_ended end says =
        let t = says going.state k going.turning in
        subst (EndedWith (read s) after end) (sym (ends t.0 t.1)) t.2
