-- The root of the next assignment: whether one remains, as the chosen slot says, and the state that is held once it is made. Assumes
-- nothing.
use Prim.Native.Nat.{ℕ, ◌+◌, ◌*◌, ◌<◌, ◌≤◌}
use Rattle.std.proofs.Common.{◌≡◌, refl, sym, subst, ◌∙◌, ⊎_elim, Bool, true, false, List, [], ◌∷◌, arith, length, lt-ltb, le-ltb}
use Rattle.std.proofs.lemmas.Bool.{cases_lt}
use Rattle.deck.proofs.Members.{not-nil, Mem}
use Rattle.std.proofs.Math.ListN.{get_or-eq_default}
use Rattle.std.specs.Prelude.{Option, None, Some}
use Rattle.deck.specs.Sheet.{Sheet}
use Rattle.deck.specs.Assignments.{table_of}
use Rattle.deck.specs.Search.{State, Turn, root_of, rest_after}
use Rattle.deck.specs.Planner.{problem}
use Rattle.deck.specs.declared.Constraint.{Constraint}
use Rattle.meaning.specs.Meaning.{◌at◌, Assignment}
use Rattle.meaning.specs.Making.{added, make_root}
use Rattle.prices.specs.Square.{copied}
use Rattle.partition.specs.Parts.{Slot}
use Rattle.partition.proofs.Candidates.{Candidate, candidate_meant}
use Rattle.records.specs.Record.{fields_at, root_in}
use Rattle.nodes.specs.Nodes.{node_at}
use Rattle.nodes.proofs.Readers.{root_read, accepted_fits}
use Rattle.roots.specs.Slots.{slot_of, slots_at}
use Rattle.roots.specs.Tournament.{SlotsHold, FirstSlot, NextTaken}
use Rattle.roots.specs.Begun.{RootBegun}
use Rattle.roots.specs.declared.Choice.{Choice}
use Rattle.roots.proofs.Chosen.{live_slot}
use Rattle.roots.proofs.Begun.{begun_stored, begun_nodes, begun_opened}
use Rattle.roots.proofs.Made.{nothing_left}
use Rattle.expand.specs.declared.given.Given.{Given}
use Rattle.expand.specs.Given.{sheet_of, Room}
use Rattle.expand.specs.Held.{Nodes, Held, Begun, Same, Grew, grown}
use Rattle.expand.proofs.RootPaths.{room_keys}

-- THE DEFINITION'S STEP, by whether the node is a root and what remains
abbrev pub step_at : Sheet → ℕ → Bool → Nodes → ℕ → List (List ℕ) → Turn (List ℕ) Constraint
step_at d bound b opened made rest = make_root (problem d) d.limit bound b rest (record { opened = opened; made = made; rest = rest_after (problem d) b rest })

abbrev pub held_state : Nodes → ℕ → List (List ℕ) → State (List ℕ) Constraint
held_state opened made rest = record { opened = opened; made = made; rest = rest }

module _ (d : Sheet) (work : List ℕ) (made latest : ℕ) (bound : ℕ) (b : Bool) (opened : Nodes) (rest : List (List ℕ)) where
  -- the node is no root
  pub no_root : b ≡ false → Held d work made latest (held_state opened made rest) → Grew d work bound (grown made latest) (step_at d bound b opened made rest)
  no_root e H = subst (λ (x : Bool). Grew d work bound (grown made latest) (step_at d bound x opened made rest)) (sym e) (held_state opened made rest, refl, H)

  -- it is one, and no assignment remains
  pub none_remain : b ≡ true → rest ≡ [] → Held d work made latest (held_state opened made rest) → Grew d work bound (grown made latest) (step_at d bound b opened made rest)
  none_remain e q H =
      subst (λ (x : Bool). Grew d work bound (grown made latest) (step_at d bound x opened made rest)) (sym e)
      (subst (λ (l : List (List ℕ)). Grew d work bound (grown made latest) (step_at d bound true opened made l)) (sym q)
      (held_state opened made [], refl, subst (λ (l : List (List ℕ)). Held d work made latest (held_state opened made l)) q H))

  -- one remains, and all nodes are made
  pub none_more : (a : List ℕ) (others : List (List ℕ)) → b ≡ true → rest ≡ a ∷ others → made ≡ d.limit → Grew d work bound None (step_at d bound b opened made rest)
  none_more a others e q full = rw (e, q, le-ltb made d.limit (omega arith)) refl

  -- one remains, and its root is made
  pub one_more : (a : List ℕ) (others : List (List ℕ)) → b ≡ true → rest ≡ a ∷ others → made < d.limit
      → Held d work (made + 1) (made + 1) (added (root_of (problem d) a ∷ []) (held_state opened made others)) → Grew d work bound (grown (made + 1) (made + 1)) (step_at d bound b opened made rest)
  one_more a others e q less H = (added (root_of (problem d) a ∷ []) (held_state opened made others), rw (e, q, lt-ltb made d.limit less) refl, H)

-- what is read of the record
pub is_no_root : (d : Sheet) (work : List ℕ) (n : ℕ) (r : Bool) → r ≡ root_in (fields_at work n) → r ≡ false → (node_at d work n).root ≡ false
is_no_root d work n r e t = sym (root_read d work n) ∙ sym e ∙ t

pub is_root : (d : Sheet) (work : List ℕ) (n : ℕ) (r : Bool) → r ≡ root_in (fields_at work n) → r ≡ true → (node_at d work n).root ≡ true
is_root d work n r e t = sym (root_read d work n) ∙ sym e ∙ t

-- THE SLOTS, by the numbers that the code has
module _ (g : Given) {work : List ℕ} (room : Room g work) {made latest : ℕ} {st : State (List ℕ) Constraint} (H : Held (sheet_of g) work made latest st) where
  abbrev table : List ℕ
  table = g.table.now

  pub latest_room : 512 * latest ≤ length work
  latest_room = omega (arith, room_keys g work room, H.recent, H.within)

  module _ {m : ℕ} (em : m ≡ (sheet_of g).count) where
    pub few_carriers : m ≤ 12
    few_carriers = omega (arith, (accepted_fits g.sheet.now.bytes.now g.sheet.now.accepted).count)

    pub slots_asked : SlotsHold m (copied m table) work latest st.rest
    slots_asked =
        subst (λ (x : ℕ). SlotsHold x (copied x table) work latest st.rest) (sym em)
        (subst (λ (t : List ℕ). SlotsHold (sheet_of g).count t work latest st.rest) (sym g.table_is) H.slots)

    -- without a slot no assignment remains
    pub without_slot : (r : Option Choice) → FirstSlot m work latest r → r ≡ None → st.rest ≡ []
    without_slot r c e = nothing_left m (copied m table) work latest st.rest few_carriers slots_asked (subst (FirstSlot m work latest) e c)

    -- with one, one remains: the first assignment of the slot's part
    pub with_slot_lem : (r : Option Choice) (k : Choice) → FirstSlot m work latest r → r ≡ Some k → (a : List ℕ) × (others : List (List ℕ)) × (st.rest ≡ a ∷ others)
    with_slot_lem r k c e = go st.rest remains
      where
        slot : Slot
        slot = slot_of m (fields_at work k.n) k.j

        inside : Mem slot (slots_at m work slots_asked.roots)
        inside = live_slot m work slots_asked.roots k.n k.j (subst (FirstSlot m work latest) e c (copied m table) st.rest slots_asked).0

        first : Candidate m (copied m table) slot.part (Some slot.first)
        first = subst (Candidate m (copied m table) slot.part) (slots_asked.parts.holds.right slot inside) (candidate_meant m (copied m table) slot.part)

        remains : Mem slot.first st.rest
        remains = slots_asked.parts.holds.held slot inside slot.first first.0 first.1

        go : (rest : List (List ℕ)) → Mem slot.first rest → (a : List ℕ) × (others : List (List ℕ)) × (rest ≡ a ∷ others)
        go [] i = absurd (not-nil i)
        go (a ∷ others) i = (a, others, refl)

    -- what is taken from the slots, by the sheet's own table
    taken_is : (mid : List ℕ) (tasks : List ℕ) → NextTaken m (copied m table) mid (made + 1) st.rest tasks → NextTaken (sheet_of g).count (table_of (sheet_of g)) mid (made + 1) st.rest tasks
    taken_is mid tasks N =
        subst (λ (t : List ℕ). NextTaken (sheet_of g).count t mid (made + 1) st.rest tasks) g.table_is
        (subst (λ (x : ℕ). NextTaken x (copied x table) mid (made + 1) st.rest tasks) em N)

    -- THE RECORD OF THE NEXT ROOT IS BEGUN
    module _ (less : made < (sheet_of g).limit) {mid tasks : List ℕ} (B : RootBegun work mid made tasks) (N : NextTaken m (copied m table) mid (made + 1) st.rest tasks) where
      small : (a : List ℕ) → Assignment (sheet_of g).count a → (k : ℕ) → a at k < 256
      small a h k =
          ⊎_elim (λ l. omega (arith, h.tasks k l, few_carriers)) (λ l. rw (get_or-eq_default a 0 {n = k} (omega (arith, h.as_many))) (omega arith)) (cases_lt k (sheet_of g).count)

      pub next_begun : (a : List ℕ) × (others : List (List ℕ)) × (st.rest ≡ a ∷ others) × Begun (sheet_of g) mid made a 0 (held_state st.opened made others)
      next_begun =
          let t = taken_is mid tasks N in (
            t.next,
            t.others,
            t.first,
            record {
              stored = begun_stored (sheet_of g) (sheet_of g).limit work mid made tasks H.stored less B;
              opened = begun_opened (sheet_of g) (sheet_of g).limit work mid made tasks H.stored less B ∙ H.opened;
              number = refl;
              slots = t.hold;
              within = less;
              unbarred = t.unbarred;
              root = B.root (sheet_of g) t.next t.unbarred.0.as_many (small t.next t.unbarred.0) t.list;
            },
          )

      pub next_same : Same (sheet_of g) work mid made
      next_same = record { nodes = begun_nodes (sheet_of g) (sheet_of g).limit work mid made tasks H.stored less B; keys = λ k h. B.keys (sheet_of g).limit k less }
