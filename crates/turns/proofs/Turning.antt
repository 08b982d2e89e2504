-- One turn on the workspace is the definition's turn: the node taken, its collision, the workspace once it is closed, and what each
-- way out comes to. Assumes nothing.
use Prim.Native.Nat.{ℕ, suc, ◌+◌, ◌*◌, ◌<◌, ◌≤◌}
use Rattle.std.proofs.Common.{◌≡◌, refl, sym, ap, subst, ◌∙◌, List, [], ◌++◌, Option, None, Some, ControlFlow, Break, arith, add-one, length, get_or, drop, length-set}
use Rattle.deck.specs.Lists.{flat, pieces}
use Rattle.deck.specs.Sheet.{Sheet, read, cause}
use Rattle.deck.specs.Search.{State, Selected, done, no_plan, plan, rest_after, selected, cheapest, expand, turn_with, turn}
use Rattle.deck.specs.Planner.{problem, sides, sides_of}
use Rattle.deck.specs.Collisions.{first_collision}
use Rattle.deck.specs.Calls.{overwrite, workspace_for}
use Rattle.deck.specs.declared.Constraint.{Constraint}
use Rattle.deck.specs.declared.Collision.{Collision}
use Rattle.meaning.proofs.Lists.{length_below, get_or_below}
use Rattle.meaning.proofs.Accepted.{accepted_start, accepted_horizon}
use Rattle.meaning.specs.Making.{make_each}
use Rattle.meaning.proofs.Limit.{one_at_a_time}
use Rattle.sheet.proofs.Accepted.{limit_range}
use Rattle.optimal.specs.Plans.{Laws, Splits}
use Rattle.optimal.specs.Deck.{rules}
use Rattle.optimal.proofs.Deck.{laws}
use Rattle.optimal.proofs.Invariant.{Chosen, Picked, taken_is_node, node_splits}
use Rattle.optimal.proofs.Select.{cheapest_picks}
use Rattle.optimal.proofs.Written.{pieces_flat}
use Rattle.pack.proofs.Trips.{length_unpack}
use Rattle.records.specs.Record.{fields_at, packed_in, closed_key, with_key}
use Rattle.nodes.specs.Nodes.{path_in, paths_in, node_at, opened_at, Lows, Cheapest}
use Rattle.meaning.specs.Constraints.{InRange}
use Rattle.nodes.specs.Stored.{Fits, Stored}
use Rattle.nodes.specs.declared.Open.{Open}
use Rattle.nodes.proofs.Kept.{close_stored, close_nodes, close_records}
use Rattle.nodes.proofs.Readers.{accepted_fits, paths_read, tasks_read}
use Rattle.roots.proofs.Begun.{slots_kept_records}
use Rattle.expand.specs.Held.{Held, NodeAt, Nodes}
use Rattle.turns.specs.Turns.{StartsOf, Turning, TurnedTo}
use Rattle.turns.specs.declared.End.{End}
use Rattle.turns.specs.declared.End.TheVariants.{Plan, NoPlan}
use Rattle.expand.specs.declared.Made.{Made}

-- THE COLLISION of the paths as they are written
paths_back : (w last m : ℕ) (starts : List ℕ) (fs : List (List ℕ)) (rest : List ℕ)
    → pieces m (suc last) (flat (paths_in w last starts m fs) ++ rest) ≡ paths_in w last starts m fs
paths_back w last m starts fs rest =
    subst (λ k. pieces k (suc last) (flat (paths_in w last starts m fs) ++ rest) ≡ paths_in w last starts m fs)
    (length_below m (path_in w last starts fs))
    (pieces_flat (suc last) (paths_in w last starts m fs) rest
    (λ i h. ap length (get_or_below m (path_in w last starts fs) i [] (omega (arith, length_below m (path_in w last starts fs))))
    ∙ length_unpack w last (packed_in fs i) (get_or starts i 0)
    ∙ add-one last))

pub node_collision : (d : Sheet) (work : List ℕ) (n w last m : ℕ) (starts : List ℕ) → w ≡ d.width → last ≡ d.horizon → m ≡ d.count → StartsOf d starts
    → (out words : List ℕ) (r : Option Collision) → words ≡ overwrite (flat (paths_in w last starts m (fields_at work n))) out
    → r ≡ first_collision m last (pieces m (suc last) words) → r ≡ first_collision d.count d.horizon (node_at d work n).paths
node_collision d work n w last m starts ew el em es out words r written e =
    let rest : List ℕ = drop (length (flat (paths_in w last starts m (fields_at work n)))) out in
    let same : pieces m (suc last) words ≡ (node_at d work n).paths = ap (pieces m (suc last)) written ∙ paths_back w last m starts (fields_at work n) rest ∙ paths_read d work n w last m starts ew el em es in
    e ∙ rw (same, em, el) refl

-- the two constraints of the first collision
collision_is : (d : Sheet) (ps : List (List ℕ)) (o : Option Collision) → first_collision d.count d.horizon ps ≡ o → (problem d).collision ps ≡ sides_of o
unfolding problem
collision_is d ps o e = ap sides_of e

pub sides_are : (c : Collision) → sides_of (Some c) ≡ Some (sides c)
unfolding sides_of
sides_are c = refl

no_sides : sides_of None ≡ None
unfolding sides_of
no_sides = refl

-- THE TURN
abbrev pub St : Type 0
St = State (List ℕ) Constraint

-- no node is open
pub turn_nothing : (d : Sheet) (work : List ℕ) (made latest k : ℕ) (st : St) → Turning d work made latest k st → Cheapest d d.limit work made None
    → turn (problem d) d.limit cheapest st ≡ done (no_plan made)
turn_nothing d work made latest k st (held, inv) e = rw (← held.opened, e, held.number)

module _ (s : List ℕ) (ok : cause s ≡ None) where
  pub deck_laws : Laws (problem (read s)) (rules (read s))
  deck_laws = laws (read s) (accepted_start s ok) (omega (arith, accepted_horizon s ok))

  pub room_of : (work : List ℕ) → workspace_for (read s) ≤ length work → 512 * (read s).limit + 4096 ≤ length work
  unfolding workspace_for
  room_of work h = omega arith

  -- node n is taken
  module _ (work : List ℕ) (made latest k : ℕ) (st : St) (turning : Turning (read s) work made latest k st) (room : 512 * (read s).limit + 4096 ≤ length work)
      (node : Open) (inside : node.n < made) (taken : Cheapest (read s) (read s).limit work made (Some node)) where
    abbrev n : ℕ
    n = node.n

    abbrev cost : ℕ
    cost = node.cost

    abbrev after : List ℕ
    after = with_key (read s).limit n closed_key work

    abbrev others : Nodes
    others = opened_at (read s) (read s).limit after made

    abbrev choice : Selected (List ℕ) Constraint
    choice = record { node = node_at (read s) work n; others = others; bound = (node_at (read s) work n).cost }

    held : Held (read s) work made latest st
    held = turning.0

    chooses : cheapest st.opened ≡ Some choice
    chooses = ap cheapest (sym held.opened) ∙ ap selected taken.1

    picked : Chosen ◌≡◌ st.opened choice
    picked = subst (Picked ◌≡◌ st.opened) chooses (cheapest_picks st.opened)

    same_node : node_at (read s) after n ≡ node_at (read s) work n
    same_node = close_nodes (read s) (read s).limit work made n held.stored inside held.within (limit_range s ok).1 room n inside

    -- the state without the node
    pub closed_held : Held (read s) after made latest (record { opened = others; made = made; rest = st.rest })
    closed_held =
        record {
          stored = close_stored (read s) (read s).limit work made n held.stored inside held.within (limit_range s ok).1 room;
          opened = refl;
          number = refl;
          slots = slots_kept_records (read s).count _ work after latest st.rest (λ j l. close_records (read s) (read s).limit work made n held.stored inside held.within (limit_range s ok).1 room j (omega (arith, held.recent, held.within))) held.slots;
          recent = held.recent;
          within = held.within;
        }

    pub closed_node_at : NodeAt (read s) after n
    closed_node_at = rw same_node (taken_is_node (problem (read s)) (rules (read s)) deck_laws (read s).limit ◌≡◌ st k turning.1 choice picked)

    -- by the first collision of its paths
    module _ (o : Option Collision) (first : first_collision (read s).count (read s).horizon (node_at (read s) after n).paths ≡ o) where
      collides : (problem (read s)).collision (node_at (read s) work n).paths ≡ sides_of o
      collides = collision_is (read s) (node_at (read s) work n).paths o (ap (λ x. first_collision (read s).count (read s).horizon x.paths) (sym same_node) ∙ first)

      turn_is : turn (problem (read s)) (read s).limit cheapest st ≡ expand (problem (read s)) (read s).limit cheapest st choice (sides_of o)
      turn_is = ap (turn_with (problem (read s)) (read s).limit cheapest st) chooses ∙ ap (expand (problem (read s)) (read s).limit cheapest st choice) collides

    -- without one it is the plan
    pub turn_plan : first_collision (read s).count (read s).horizon (node_at (read s) after n).paths ≡ None
        → TurnedTo (read s) after (Break (Plan node made)) (turn (problem (read s)) (read s).limit cheapest st)
    turn_plan first = (
      plan (node_at (read s) after n).tasks (node_at (read s) after n).paths cost made cost,
      turn_is None first ∙ rw (no_sides, same_node, taken.0, held.number),
      record {
        inside = omega (arith, held.within);
        answer = refl;
        tasks = tasks_read (read s) after n (read s).limit made (accepted_fits s ok) closed_held.stored inside (omega (arith, length-set work (512 * (read s).limit + n) closed_key, held.within));
      },
    )

    -- with one, its two constraints are those of the sheet
    module _ (c : Collision) (first : first_collision (read s).count (read s).horizon (node_at (read s) after n).paths ≡ Some c) where
      splits : Splits (problem (read s)) (rules (read s)) (node_at (read s) work n).paths (Some (sides c))
      splits =
          subst (Splits (problem (read s)) (rules (read s)) (node_at (read s) work n).paths) (collides (Some c) first ∙ sides_are c)
          (node_splits (problem (read s)) (rules (read s)) deck_laws (read s).limit ◌≡◌ st k turning.1 choice picked)

      pub sides_good : InRange (read s) (sides c).0 × InRange (read s) (sides c).1
      sides_good = (splits.0, splits.1)

      -- and to make its nodes one at a time is the turn
      pub turn_makes : turn (problem (read s)) (read s).limit cheapest st
          ≡ make_each (problem (read s)) (read s).limit cost (node_at (read s) after n) (sides c) st.rest
          (record { opened = others; made = made; rest = rest_after (problem (read s)) (node_at (read s) after n).root st.rest })
      turn_makes =
          turn_is (Some c) first
          ∙ ap (expand (problem (read s)) (read s).limit cheapest st choice) (sides_are c)
          ∙ sym (one_at_a_time (problem (read s)) (read s).limit cheapest st choice (sides c) (omega (arith, held.number, held.within)))
          ∙ rw (same_node, taken.0, held.number)

-- the least keys of the blocks, by the node limit as it is read
pub lows_limit : {limit made : ℕ} {work lows : List ℕ} (n : ℕ) → limit ≡ n → Lows limit work made lows → Lows n work made lows
lows_limit {limit} {made} {work} {lows} n e w = subst (λ x. Lows x work made lows) e w

-- WHAT THE CALLS OF A TURN SAY: this node is taken, and `closed` is the workspace once it is closed
pub record Took (s work closed : List ℕ) (made : ℕ) (node : Open) : Type 0 where
  pub inside : node.n < made
  pub taken : Cheapest (read s) (read s).limit work made (Some node)
  pub is : closed ≡ with_key (read s).limit node.n closed_key work

module _ (s : List ℕ) (ok : cause s ≡ None) {work : List ℕ} {made latest k : ℕ} {st : St} (turning : Turning (read s) work made latest k st) where
  -- by the choice
  module _ {limit : ℕ} (el : limit ≡ (read s).limit) where
    chosen_is : (r : Option Open) → ((d : Sheet) → Fits d → Stored d limit work made → Cheapest d limit work made r) → Cheapest (read s) (read s).limit work made r
    chosen_is r says = subst (λ b. Stored (read s) b work made → Cheapest (read s) b work made r) el (says (read s) (accepted_fits s ok)) turning.0.stored

    pub took_none : ((d : Sheet) → Fits d → Stored d limit work made → Cheapest d limit work made None)
        → TurnedTo (read s) work (Break (NoPlan made)) (turn (problem (read s)) (read s).limit cheapest st)
    took_none says = (no_plan made, turn_nothing (read s) work made latest k st turning (chosen_is None says), refl)

    -- and once the node is closed
    pub closed_is_taken : (node : Open) → ((d : Sheet) → Fits d → Stored d limit work made → Cheapest d limit work made (Some node)) → node.n < made
        → {closed : List ℕ} → closed ≡ with_key limit node.n closed_key work → Took s work closed made node
    closed_is_taken node says inside is =
        record {
          inside = inside;
          taken = chosen_is (Some node) says;
          is = is ∙ ap (λ (b : ℕ). with_key b node.n closed_key work) el;
        }

  module _ {closed : List ℕ} {node : Open} (took : Took s work closed made node) (room : workspace_for (read s) ≤ length work) where
    pub took_room : workspace_for (read s) ≤ length closed
    took_room = rw (ap length took.is ∙ length-set work (512 * (read s).limit + node.n) closed_key) room

    pub took_held : Held (read s) closed made latest (record { opened = opened_at (read s) (read s).limit closed made; made = made; rest = st.rest })
    took_held = rw took.is (closed_held s ok work made latest k st turning (room_of s ok work room) node took.inside took.taken)

    pub took_node_at : NodeAt (read s) closed node.n
    took_node_at = rw took.is (closed_node_at s ok work made latest k st turning (room_of s ok work room) node took.inside took.taken)

    -- its first collision
    abbrev first : Option Collision
    first = first_collision (read s).count (read s).horizon (node_at (read s) closed node.n).paths

    same_first : (o : Option Collision) → first ≡ o → first_collision (read s).count (read s).horizon (node_at (read s) (with_key (read s).limit node.n closed_key work) node.n).paths ≡ o
    same_first o e = ap (λ w. first_collision (read s).count (read s).horizon (node_at (read s) w node.n).paths) (sym took.is) ∙ e

    pub took_plan : None ≡ first → TurnedTo (read s) closed (Break (Plan node made)) (turn (problem (read s)) (read s).limit cheapest st)
    took_plan e = rw took.is (turn_plan s ok work made latest k st turning (room_of s ok work room) node took.inside took.taken (same_first None (sym e)))

    module _ {c : Collision} (e : Some c ≡ first) where
      pub took_good : InRange (read s) (sides c).0 × InRange (read s) (sides c).1
      took_good = sides_good s ok work made latest k st turning (room_of s ok work room) node took.inside took.taken c (same_first (Some c) (sym e))

      pub took_turned : (after : List ℕ) (r : ControlFlow End Made)
          → ((opened : Nodes) (rest : List (List ℕ)) → Held (read s) closed made latest (record { opened = opened; made = made; rest = rest })
          → TurnedTo (read s) after r
          (make_each (problem (read s)) (read s).limit node.cost (node_at (read s) closed node.n) (sides c) rest
          (record { opened = opened; made = made; rest = rest_after (problem (read s)) (node_at (read s) closed node.n).root rest })))
          → TurnedTo (read s) after r (turn (problem (read s)) (read s).limit cheapest st)
      took_turned after r says =
          subst (TurnedTo (read s) after r)
          (sym (turn_makes s ok work made latest k st turning (room_of s ok work room) node took.inside took.taken c (same_first (Some c) (sym e)) ∙ rw took.is refl))
          (says (opened_at (read s) (read s).limit closed made) st.rest took_held)
