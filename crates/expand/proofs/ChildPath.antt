-- The least path of a child, as the search's definition has it, and what it leaves of the workspace. Assumes nothing.
use Prim.Native.Nat.{ℕ, suc, ◌+◌, ◌*◌, ◌<◌, ◌≤◌}
use Rattle.std.proofs.Common.{◌≡◌, refl, sym, ap, ap₂, subst, ◌∙◌, Bool, true, false, cond, List, [], ◌∷◌, arith, length, get_or, take, drop, take_at, le-ltb, lt-ltb}
use Rattle.deck.proofs.Members.{here, there, Mem}
use Rattle.std.specs.Prelude.{Option, None, Some}
use Rattle.deck.specs.Lists.{select, each}
use Rattle.deck.specs.Sheet.{Sheet, carrier, task, start_of}
use Rattle.deck.specs.Paths.{walks, least_path, finish_of}
use Rattle.deck.specs.Assignments.{barred, table_of}
use Rattle.deck.specs.Search.{State, Turn, task_of, path_at, child_node}
use Rattle.deck.specs.Planner.{problem, bound_by}
use Rattle.deck.specs.Calls.{constraints_of, workspace_for, path_found, path_written}
use Rattle.deck.specs.declared.Carrier.{Carrier}
use Rattle.deck.specs.declared.Task.{Task}
use Rattle.deck.specs.declared.Constraint.{Constraint}
use Rattle.meaning.proofs.Lists.{mem_select}
use Rattle.meaning.specs.Making.{added, add_if, make_with, make_child}
use Rattle.optimal.specs.Plans.{Fits as AllFit, IsLeast}
use Rattle.optimal.specs.Deck.{rules}
use Rattle.optimal.proofs.Deck.{laws}
use Rattle.sheet.proofs.Accepted.{limit_range, count_range, horizon_range}
use Rattle.kernel.specs.Kernel.{NoEarlier}
use Rattle.passes.specs.Ready.{Ready}
use Rattle.records.specs.Record.{fields_at, tasks_in, finishes_in, words_of, Small}
use Rattle.records.proofs.Frames.{fields_front}
use Rattle.nodes.specs.Nodes.{node_of, node_at, constraints_at, binds}
use Rattle.meaning.specs.Constraints.{InRange}
use Rattle.meaning.proofs.Constraints.{bound_below}
use Rattle.nodes.specs.Stored.{Fits, Linked, Stored, Added, ChildOf}
use Rattle.nodes.proofs.Chains.{stored_links, stored_linked, constraints_good, chain_few}
use Rattle.nodes.proofs.Gathers.{records_of}
use Rattle.nodes.proofs.Grid.{least_bound, least_walk, walk_long}
use Rattle.nodes.proofs.Readers.{accepted_fits, good_small, task_read, finish_read, good_records_lem}
use Rattle.nodes.proofs.Kept.{front_alike, front_keys, kept_stored, kept_nodes, kept_opened}
use Rattle.roots.proofs.Begun.{slots_kept_records}
use Rattle.expand.specs.Children.{Branch, child_task, child_path}
use Rattle.scratch.specs.Front.{Front}
use Rattle.expand.specs.declared.given.Given.{Given}
use Rattle.expand.specs.Given.{sheet_of}
use Rattle.expand.specs.Held.{Held, Same, Grew, grown}

-- THE WORDS PAST THE KEYS are no part of what is held
module _ (d : Sheet) (l : d.limit ≤ 4096) (before after : List ℕ) (made latest : ℕ) (e : Front d.limit before after) (st : State (List ℕ) Constraint) (h : Held d before made latest st) where
  pub front_held : Held d after made latest st
  front_held =
      let alike = front_alike before after d.limit made h.within l e in
      let keys = front_keys before after d.limit made h.within l e in
      record {
        stored = kept_stored d d.limit before after made h.stored alike keys;
        opened = kept_opened d d.limit before after made h.stored alike keys ∙ h.opened;
        number = h.number;
        slots = slots_kept_records d.count (table_of d) before after latest st.rest (λ k x. fields_front after before d.limit k (omega (arith, h.recent, h.within)) e) h.slots;
        recent = h.recent;
        within = h.within;
      }

  pub front_same : Same d before after made
  front_same =
      let keys = front_keys before after d.limit made h.within l e in
      record { nodes = kept_nodes d d.limit before after made h.stored (front_alike before after d.limit made h.within l e) keys; keys = keys }

-- THE SHEET
pub records_room : (d : Sheet) (size : ℕ) → workspace_for d ≤ size → 512 * d.limit + 4096 ≤ size
unfolding workspace_for
records_room d size h = omega arith

-- no more are selected than there are
select_few : (f : Constraint → Bool) (l : List Constraint) → length (select f l) ≤ length l
select_few f [] = omega arith
select_few f (c ∷ l) = go (f c) (select_few f l)
  where
    go : (b : Bool) → length (select f l) ≤ length l → length (cond b (c ∷ select f l) (select f l)) ≤ suc (length l)
    go true h = omega arith
    go false h = omega arith

-- THE LEAST PATH OF THE CHILD of node n by the constraint c
module _ {g : Given} {work : List ℕ} {made latest n : ℕ} {c : Constraint} (x : Branch g work made latest n c) where
  abbrev s : List ℕ
  s = g.sheet.now.bytes.now

  abbrev mask : List ℕ
  mask = g.mask.now

  abbrev d : Sheet
  d = sheet_of g

  abbrev stored : Stored d d.limit work made
  stored = x.held.1.stored

  fits : Fits d
  fits = accepted_fits s g.sheet.now.accepted

  pub record_room : 512 * n + 512 ≤ length work
  record_room = omega (arith, x.below, x.held.1.within, records_room d (length work) x.room)

  pub number_small : n < 4096
  number_small = omega (arith, x.below, x.held.1.within, limit_range s g.sheet.now.accepted)

  pub child_linked : Linked work n
  child_linked = stored_linked stored n x.below

  pub child_small : Small c
  child_small = good_small d c fits x.good

  pub carrier_few : bound_by c < 12
  carrier_few = omega (arith, bound_below d c x.good, count_range s g.sheet.now.accepted)

  abbrev bound_carrier : Carrier
  bound_carrier = carrier (bound_by c)

  -- those of its constraints that bind the carrier
  abbrev own : List Constraint
  own = select (binds bound_carrier) (c ∷ constraints_at work n)

  own_good : (k : Constraint) → Mem k own → InRange d k
  own_good k u = go (mem_select (binds bound_carrier) (c ∷ constraints_at work n) u).0
    where
      go : Mem k (c ∷ constraints_at work n) → InRange d k
      go (here e) = rw e x.good
      go (there y) = constraints_good stored n x.below k y

  own_few : length own ≤ 4096
  own_few =
      omega (arith, select_few (binds bound_carrier) (c ∷ constraints_at work n), chain_few (fields_at work) made (suc n) n (stored_links stored) x.below, number_small)

  abbrev own_task : ℕ
  own_task = task_of (problem d) (node_at d work n).tasks (bound_by c)

  -- the path is least under the child's constraints
  child_under : (p : List ℕ) → child_path d work n c ≡ Some p → IsLeast (problem d) (rules d) (bound_by c) own_task (c ∷ (node_at d work n).constraints) (Some p)
  unfolding problem
  child_under p q =
      let short : d.horizon < barred = omega (arith, horizon_range s g.sheet.now.accepted) in
      let cs : List Constraint = c ∷ (node_at d work n).constraints in
      subst (IsLeast (problem d) (rules d) (bound_by c) own_task cs) q ((laws d fits.starts short).least (bound_by c) own_task cs (bound_below d c x.good) all_fit)
    where
      all_fit : AllFit (problem d) (rules d) (c ∷ (node_at d work n).constraints)
      all_fit k (here e) = rw e x.good
      all_fit k (there u) = x.node.fits k u

  -- with the carrier, the records of the list, the parent's record and the task as they are read
  module _ {i : Carrier} (ei : i.0 ≡ bound_by c) {rs : List ℕ} (er : rs ≡ each words_of own) {fs : List (List ℕ)} (ef : fs ≡ fields_at work n)
      {j : Task} (ej : j ≡ task (get_or (tasks_in fs) i.0 0)) where
    carrier_is : i ≡ bound_carrier
    carrier_is = ap carrier ei

    task_is : j ≡ child_task d work n c
    task_is = (rw (ef, ei) at ej) ∙ ap task (task_read d work n (bound_by c) (bound_below d c x.good))

    task_in : j.0 < d.count
    unfolding problem
    task_in = rw task_is (x.node.assigned.tasks (bound_by c) (bound_below d c x.good))

    pub child_ready : Ready s i j mask rs
    child_ready = record {
      accepted = g.sheet.now.accepted;
      carrier_in = rw ei (bound_below d c x.good);
      task_in = task_in;
      masked = g.masked;
      records = rw er (good_records_lem d own own_good own_few);
    }

    -- under its records is under its constraints
    pub child_least : least_path d i j (constraints_of rs) ≡ child_path d work n c
    unfolding node_of
    child_least =
        rw (carrier_is, er, task_is)
        (ap (least_path d bound_carrier (child_task d work n c)) (records_of own)
        ∙ sym (least_bound d bound_carrier (child_task d work n c) (c ∷ constraints_at work n)))

    pub child_found : {r : Option ℕ} → r ≡ path_found d j (least_path d i j (constraints_of rs)) → r ≡ path_found d (child_task d work n c) (child_path d work n c)
    child_found q = q ∙ ap₂ (path_found d) task_is child_least

    pub child_written : (out : List ℕ) {after : List ℕ} → after ≡ path_written (least_path d i j (constraints_of rs)) out → after ≡ path_written (child_path d work n c) out
    child_written out q = q ∙ ap (λ (p : Option (List ℕ)). path_written p out) child_least

    -- it does not finish before the parent's
    pub child_later : {bound : ℕ} → bound ≡ get_or (finishes_in fs) i.0 0 → NoEarlier d i j (constraints_of rs) bound
    unfolding problem
    child_later be p q =
        let under = child_under p (sym child_least ∙ q) in
        let later : finish_of d (task own_task) (path_at (problem d) (node_at d work n).paths (bound_by c)) ≤ finish_of d (task own_task) p =
        (x.node.least (bound_by c) (bound_below d c x.good)).1 p (under.0.0, λ k u. under.0.1 k (there u)) in
        rw ((rw (ef, ei) at be) ∙ finish_read d work n d.limit made fits stored x.below record_room (bound_by c) (bound_below d c x.good), task_is) later

-- WHAT THE ANSWER SAYS of the path
none_found : (d : Sheet) (j : Task) (o : Option (List ℕ)) (r : Option ℕ) → r ≡ path_found d j o → ((f : ℕ) → r ≡ Some f → ⊥) → o ≡ None
unfolding path_found
none_found d j None r e k = refl
none_found d j (Some p) r e k = absurd (k (finish_of d j p) e)

one_found : (d : Sheet) (j : Task) (o : Option (List ℕ)) (r : Option ℕ) (f : ℕ) → r ≡ path_found d j o → r ≡ Some f → (p : List ℕ) × (o ≡ Some p) × (f ≡ finish_of d j p)
unfolding path_found
one_found d j None r f e g = absurd (let z : ◌≡◌ {A = ℕ} 0 1 = cc in omega arith)
one_found d j (Some p) r f e g = (p, refl, cc)

-- THE CHILD, once its path is looked for
module _ {g : Given} {work : List ℕ} {made latest n : ℕ} {c : Constraint} (x : Branch g work made latest n c) (after : List ℕ) (front : Front (sheet_of g).limit work after) where
  module _ (r : Option ℕ) (e : r ≡ path_found (sheet_of g) (child_task (sheet_of g) work n c) (child_path (sheet_of g) work n c)) where
    pub no_path_lem : ((f : ℕ) → r ≡ Some f → ⊥) → child_path (sheet_of g) work n c ≡ None
    no_path_lem k = none_found (sheet_of g) (child_task (sheet_of g) work n c) (child_path (sheet_of g) work n c) r e k

    pub a_path : (f : ℕ) → r ≡ Some f → (p : List ℕ) × (child_path (sheet_of g) work n c ≡ Some p) × (f ≡ finish_of (sheet_of g) (child_task (sheet_of g) work n c) p)
    a_path f q = one_found (sheet_of g) (child_task (sheet_of g) work n c) (child_path (sheet_of g) work n c) r f e q

  few : (sheet_of g).limit ≤ 4096
  few = (limit_range g.sheet.now.bytes.now g.sheet.now.accepted).1

  pub path_same : Same (sheet_of g) work after made
  path_same = front_same (sheet_of g) few work after made latest front x.held.0 x.held.1

  abbrev outcome : ℕ → State (List ℕ) Constraint → Option (List ℕ) → Turn (List ℕ) Constraint
  outcome bound st o = make_with (problem (sheet_of g)) (sheet_of g).limit bound (node_at (sheet_of g) work n) c o st

  -- without a path it is not made
  pub not_made : child_path (sheet_of g) work n c ≡ None → (st : State (List ℕ) Constraint) (bound : ℕ) → Held (sheet_of g) work made latest st
      → Grew (sheet_of g) after bound (grown made latest) (make_child (problem (sheet_of g)) (sheet_of g).limit bound (node_at (sheet_of g) work n) c st)
  unfolding problem
  not_made q st bound h = (st, ap (outcome bound st) q, front_held (sheet_of g) few work after made latest front st h)

  module _ (p : List ℕ) (q : child_path (sheet_of g) work n c ≡ Some p) where
    -- where all are made, the search is spent
    pub none_left : made ≡ (sheet_of g).limit → (st : State (List ℕ) Constraint) (bound : ℕ) → Held (sheet_of g) work made latest st
        → Grew (sheet_of g) after bound None (make_child (problem (sheet_of g)) (sheet_of g).limit bound (node_at (sheet_of g) work n) c st)
    unfolding problem
    none_left e st bound h =
        ap (outcome bound st) q
        ∙ ap (λ (b : Bool). add_if (sheet_of g).limit bound b (child_node (problem (sheet_of g)) (node_at (sheet_of g) work n) c p ∷ []) st) (le-ltb st.made (sheet_of g).limit (omega (arith, h.number)))

    walk : Mem p (walks (sheet_of g) (sheet_of g).horizon (start_of (sheet_of g) (carrier (bound_by c))))
    walk = least_walk (sheet_of g) (carrier (bound_by c)) (child_task (sheet_of g) work n c) (c ∷ (node_at (sheet_of g) work n).constraints) p q

    pub path_long : length p ≡ (sheet_of g).horizon + 1
    path_long = walk_long (sheet_of g) (accepted_fits g.sheet.now.bytes.now g.sheet.now.accepted) (bound_by c) (bound_below (sheet_of g) c x.good) p walk

    pub finish_small : (f : ℕ) → f ≡ finish_of (sheet_of g) (child_task (sheet_of g) work n c) p → f ≤ 255
    unfolding problem
    finish_small f e = omega (arith, (child_under x p q).0.0.finishes.rests.0, horizon_range g.sheet.now.bytes.now g.sheet.now.accepted)

    -- the words of the path
    path_is : (last : ℕ) (out written : List ℕ) → last ≡ (sheet_of g).horizon → written ≡ path_written (child_path (sheet_of g) work n c) out → take (last + 1) written ≡ p
    unfolding path_written
    path_is last out written l e =
        rw l (ap (take ((sheet_of g).horizon + 1)) (e ∙ ap (λ (o : Option (List ℕ)). path_written o out) q) ∙ take_at p (drop (length p) out) ((sheet_of g).horizon + 1) path_long)

    child_of : (f : ℕ) → f ≡ finish_of (sheet_of g) (child_task (sheet_of g) work n c) p → ChildOf (sheet_of g) (sheet_of g).limit after made n (bound_by c) c f p
    child_of f e =
        let same : fields_at after n ≡ fields_at work n = fields_front after work (sheet_of g).limit n (omega (arith, x.below, x.held.1.within)) front in
        record {
          fits = accepted_fits g.sheet.now.bytes.now g.sheet.now.accepted;
          stored = (front_held (sheet_of g) few work after made latest front x.held.0 x.held.1).stored;
          binds = refl;
          good = x.good;
          walk = walk;
          finish = rw same (e ∙ ap (λ (t : ℕ). finish_of (sheet_of g) (task t) p) (sym (task_read (sheet_of g) work n (bound_by c) (bound_below (sheet_of g) c x.good))));
        }

    module _ (final : List ℕ) (new : Added (sheet_of g) (sheet_of g).limit after final made (child_node (problem (sheet_of g)) (node_at (sheet_of g) after n) c p)) where
      pub made_same : Same (sheet_of g) work final made
      made_same = record { nodes = λ k h. new.nodes k h ∙ path_same.nodes k h; keys = λ k h. new.keys k h ∙ path_same.keys k h }

      made_held : made < (sheet_of g).limit → (st : State (List ℕ) Constraint) → Held (sheet_of g) work made latest st
          → Held (sheet_of g) final (made + 1) latest (added (child_node (problem (sheet_of g)) (node_at (sheet_of g) work n) c p ∷ []) st)
      made_held l st h =
          let f = front_held (sheet_of g) few work after made latest front st h in
          record {
            stored = new.stored;
            opened = new.opened ∙ rw (f.opened, path_same.nodes n x.below);
            number = omega (arith, h.number);
            slots = slots_kept_records (sheet_of g).count (table_of (sheet_of g)) after final latest st.rest (λ k b. new.records k (omega (arith, h.recent))) f.slots;
            recent = omega (arith, h.recent);
            within = omega arith;
          }

      pub child_made : made < (sheet_of g).limit → (st : State (List ℕ) Constraint) (bound : ℕ) → Held (sheet_of g) work made latest st
          → Grew (sheet_of g) final bound (grown (made + 1) latest) (make_child (problem (sheet_of g)) (sheet_of g).limit bound (node_at (sheet_of g) work n) c st)
      unfolding problem
      child_made l st bound h = (
        added (child_node (problem (sheet_of g)) (node_at (sheet_of g) work n) c p ∷ []) st,
        ap (outcome bound st) q
            ∙ ap (λ (b : Bool). add_if (sheet_of g).limit bound b (child_node (problem (sheet_of g)) (node_at (sheet_of g) work n) c p ∷ []) st) (lt-ltb st.made (sheet_of g).limit (omega (arith, h.number))),
        made_held l st h,
      )

    -- made by the numbers of the sheet as they are read
    pub new_child : (limit w last f : ℕ) (out written final : List ℕ) → limit ≡ (sheet_of g).limit → w ≡ (sheet_of g).width → last ≡ (sheet_of g).horizon
        → f ≡ finish_of (sheet_of g) (child_task (sheet_of g) work n c) p → written ≡ path_written (child_path (sheet_of g) work n c) out
        → ((d : Sheet) → d.width ≡ w → d.horizon ≡ last → ChildOf d limit after made n (bound_by c) c f (take (last + 1) written)
        → Added d limit after final made (child_node (problem d) (node_at d after n) c (take (last + 1) written)))
        → Added (sheet_of g) (sheet_of g).limit after final made (child_node (problem (sheet_of g)) (node_at (sheet_of g) after n) c p)
    new_child limit w last f out written final el ew eh e o make =
        let is = path_is last out written eh o in
        rw (el, is) at (make (sheet_of g) (sym ew) (sym eh) (rw (el, is) (child_of f e)))
