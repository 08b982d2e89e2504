-- A root made in the workspace: its paths, one after the other, are the least without constraints; the root is opened, and the slots
-- hold what remains. Assumes nothing.
use Prim.Native.Nat.{ℕ, ◌+◌, ◌-◌, ◌*◌, ◌<◌, ◌≤◌}
use Rattle.std.proofs.Common.{◌≡◌, refl, sym, ap, subst, ◌∙◌, ◌≢◌, List, [], ◌∷◌, ◌++◌, arith, length, get_or, take, drop, replicate, take_at, T}
use Rattle.std.specs.Prelude.{Option, None, Some}
use Rattle.std.proofs.Math.ListN.{get_or-append}
use Rattle.deck.specs.Sheet.{Sheet, carrier, task}
use Rattle.deck.specs.Paths.{least_path, finish_of}
use Rattle.deck.specs.Assignments.{barred, entry_at, entry_of, table_of}
use Rattle.deck.specs.Calls.{workspace_for, constraints_of, good_records, path_found, path_written}
use Rattle.deck.specs.Search.{State, root_of}
use Rattle.deck.specs.Planner.{problem}
use Rattle.deck.specs.declared.Carrier.{Carrier}
use Rattle.deck.specs.declared.Task.{Task}
use Rattle.deck.specs.declared.Constraint.{Constraint}
use Rattle.meaning.proofs.Assignments.{table_at}
use Rattle.meaning.specs.Making.{added}
use Rattle.meaning.proofs.Constraints.{no_records}
use Rattle.meaning.proofs.LeastPath.{LeastMeant, least_path_meant}
use Rattle.prices.specs.Square.{cell}
use Rattle.prices.proofs.Squares.{square_at}
use Rattle.sheet.proofs.Accepted.{limit_range}
use Rattle.kernel.specs.Kernel.{NoEarlier}
use Rattle.passes.specs.Ready.{Ready}
use Rattle.pack.specs.Pack.{pack_of}
use Rattle.records.specs.Record.{fields_at, tasks_in, key_at, with_path, Wrote}
use Rattle.records.proofs.Frames.{fields_front}
use Rattle.nodes.specs.Stored.{Fits, Stored, Added, RootSoFar, NodeAlike}
use Rattle.nodes.proofs.Kept.{alike_same, kept_stored, kept_nodes, kept_opened, front_alike, front_keys}
use Rattle.nodes.proofs.Makes.{root_same, root_more}
use Rattle.nodes.proofs.Grid.{least_walk, walk_long}
use Rattle.nodes.proofs.Readers.{accepted_fits}
use Rattle.roots.proofs.Begun.{slots_kept_records, slots_kept_path}
use Rattle.scratch.specs.Front.{Front}
use Rattle.expand.specs.declared.given.Given.{Given}
use Rattle.expand.specs.Given.{sheet_of, Room}
use Rattle.expand.specs.Held.{Nodes, Held, Begun, Same}

-- ROOM for the records and the keys
pub limit_low : (g : Given) → (sheet_of g).limit ≤ 4096
limit_low g = (limit_range g.sheet.now.bytes.now g.sheet.now.accepted).1

module _ (g : Given) (work : List ℕ) (room : Room g work) where
  pub room_keys : 512 * (sheet_of g).limit + 4096 ≤ length work
  unfolding workspace_for
  room_keys = omega (arith, room)

  pub room_record : (n : ℕ) → n < (sheet_of g).limit → 512 * n + 512 ≤ length work
  room_record n h = omega (arith, room_keys)

-- no records, no constraints
pub none_bound : constraints_of [] ≡ []
unfolding constraints_of
none_bound = refl

-- nodes stay as they were where nothing is done, and through two steps
pub same_none : (d : Sheet) (work : List ℕ) (made : ℕ) → Same d work work made
same_none d work made = record { nodes = λ k h. refl; keys = λ k h. refl }

pub same_then : (d : Sheet) (a b c : List ℕ) (made : ℕ) → Same d a b made → Same d b c made → Same d a c made
same_then d a b c made p q = record { nodes = λ k h. q.nodes k h ∙ p.nodes k h; keys = λ k h. q.keys k h ∙ p.keys k h }

-- WHAT A STEP LEAVES of a root that is begun
module _ {d : Sheet} {work : List ℕ} (mid : List ℕ) {n : ℕ} {a : List ℕ} {i : ℕ} {st : State (List ℕ) Constraint} (l : d.limit ≤ 4096) (front : Front d.limit work mid)
    (B : Begun d work n a i st) where
  front_alikes : (k : ℕ) → k < n → NodeAlike (fields_at mid k) (fields_at work k)
  front_alikes = front_alike work mid d.limit n (omega (arith, B.within)) l front

  front_keep : (k : ℕ) → k < n → key_at d.limit mid k ≡ key_at d.limit work k
  front_keep = front_keys work mid d.limit n (omega (arith, B.within)) l front

  -- words past the keys are written
  front_begun : Begun d mid n a i st
  front_begun =
      record {
        stored = kept_stored d d.limit work mid n B.stored front_alikes front_keep;
        opened = kept_opened d d.limit work mid n B.stored front_alikes front_keep ∙ B.opened;
        number = B.number;
        slots = slots_kept_records d.count (table_of d) work mid (n + 1) st.rest (λ k h. fields_front mid work d.limit k (omega (arith, B.within)) front) B.slots;
        within = B.within;
        unbarred = B.unbarred;
        root = root_same d work mid n a i (fields_front mid work d.limit n B.within front) B.root;
      }

  front_same : Same d work mid n
  front_same = record { nodes = kept_nodes d d.limit work mid n B.stored front_alikes front_keep; keys = front_keep }

module _ {d : Sheet} {mid after : List ℕ} {n : ℕ} {a : List ℕ} {i : ℕ} {st : State (List ℕ) Constraint} (B : Begun d mid n a i st) (finish : ℕ) (p : List ℕ)
    (u : Wrote mid after n (with_path (fields_at mid n) i finish (pack_of d.width d.horizon p))) where
  path_alikes : (k : ℕ) → k < n → NodeAlike (fields_at after k) (fields_at mid k)
  path_alikes k h = alike_same (fields_at after k) (fields_at mid k) (u.records k (λ e. omega arith))

  path_keep : (k : ℕ) → k < n → key_at d.limit after k ≡ key_at d.limit mid k
  path_keep k h = u.keys d.limit k B.within

  -- the next path is written
  path_begun : Fits d → 512 * n + 512 ≤ length mid → i < d.count → least_path d (carrier i) (task (get_or a i 0)) [] ≡ Some p → finish ≡ finish_of d (task (get_or a i 0)) p
      → Begun d after n a (i + 1) st
  path_begun f h b e q =
      record {
        stored = kept_stored d d.limit mid after n B.stored path_alikes path_keep;
        opened = kept_opened d d.limit mid after n B.stored path_alikes path_keep ∙ B.opened;
        number = B.number;
        slots = slots_kept_path d.count (table_of d) mid after (n + 1) st.rest n i finish (pack_of d.width d.horizon p) u B.slots;
        within = B.within;
        unbarred = B.unbarred;
        root = root_more d mid after n a i finish p f h b u e q B.root;
      }

  path_same : Same d mid after n
  path_same = record { nodes = kept_nodes d d.limit mid after n B.stored path_alikes path_keep; keys = path_keep }

-- ONE PATH OF A ROOT
module _ {n : ℕ} (i : Carrier) {a : List ℕ} {st : State (List ℕ) Constraint} (g : Given) {work : List ℕ} (room : Room g work) (b : i.0 < (sheet_of g).count)
    (B : Begun (sheet_of g) work n a i.0 st) where
  abbrev s : List ℕ
  s = g.sheet.now.bytes.now

  abbrev mask : List ℕ
  mask = g.mask.now

  abbrev table : List ℕ
  table = g.table.now

  abbrev d : Sheet
  d = sheet_of g

  abbrev j : Task
  j = task (get_or a i.0 0)

  few : i.0 < 12
  few = omega (arith, (accepted_fits s g.sheet.now.accepted).count)

  low : get_or a i.0 0 < d.count
  low = B.unbarred.0.tasks i.0 b

  own_task : task (get_or (tasks_in (fields_at work n)) i.0 0) ≡ j
  own_task = ap task (ap (λ (l : List ℕ). get_or l i.0 0) B.root.tasks ∙ get_or-append a (replicate (12 - length a) 255) 0 i.0 (omega (arith, B.root.long)))

  -- the table's entry is the finish of the least path
  own_entry : cell table i.0 (get_or a i.0 0) ≡ entry_of d j (least_path d i j [])
  own_entry =
      sym (square_at d.count (cell table) i.0 (get_or a i.0 0) b low)
      ∙ ap (λ (t : List ℕ). entry_at d.count t i.0 (get_or a i.0 0)) g.table_is
      ∙ table_at d i.0 (get_or a i.0 0) b low

  -- and there is one, since the assignment uses no barred entry
  pub has_path : (p : List ℕ) × (least_path d i j [] ≡ Some p)
  unfolding entry_of
  has_path = go (least_path d i j []) refl (subst (λ (e : ℕ). e ≢ barred) (table_at d i.0 (get_or a i.0 0) b low) (B.unbarred.1 i.0 b))
    where
      go : (o : Option (List ℕ)) → least_path d i j [] ≡ o → entry_of d j o ≢ barred → (p : List ℕ) × (least_path d i j [] ≡ Some p)
      go None e ne = absurd (ne refl)
      go (Some p) e ne = (p, e)

  finish_low : (p : List ℕ) → least_path d i j [] ≡ Some p → finish_of d j p ≤ 255
  finish_low p e =
      let f = accepted_fits s g.sheet.now.accepted in
      let m = subst (LeastMeant d i j []) e (least_path_meant d i j [] (f.starts i.0 b)) in
      omega (arith, m.under.path.finishes.rests.0, f.horizon)

  -- of the task that is read from the record
  module _ {k : Task} (own : k ≡ task (get_or (tasks_in (fields_at work n)) i.0 0)) where
    is_task : k ≡ j
    is_task = own ∙ own_task

    pub task_in : k.0 < d.count
    task_in = subst (λ (t : Task). t.0 < d.count) (sym is_task) low

    pub root_ready : Ready s i k mask []
    root_ready = record { accepted = g.sheet.now.accepted; carrier_in = b; task_in = task_in; masked = g.masked; records = no_records d }

    pub root_bound : {x : ℕ} → x ≡ cell table i.0 k.0 → NoEarlier d i k (constraints_of []) x
    unfolding entry_of
    root_bound {x} e p h =
        subst (λ (t : Task). x ≡ cell table i.0 t.0 → least_path d i t (constraints_of []) ≡ Some p → x ≤ finish_of d t p) (sym is_task) at_own e h
      where
        at_own : x ≡ cell table i.0 j.0 → least_path d i j (constraints_of []) ≡ Some p → x ≤ finish_of d j p
        at_own q r =
            let z : least_path d i j [] ≡ Some p = rw none_bound at r in
            omega (arith, q, own_entry ∙ ap (entry_of d j) z)

    abbrev p : List ℕ
    p = has_path.0

    least_is : least_path d i k (constraints_of []) ≡ Some p
    least_is = rw (none_bound, is_task) has_path.1

    -- the least path's call finds it
    module _ {r : Option ℕ} (answer : r ≡ path_found d k (least_path d i k (constraints_of []))) where
      pub root_found : r ≡ Some (finish_of d j p)
      unfolding path_found
      root_found = answer ∙ ap (path_found d k) least_is ∙ ap (λ (t : Task). Some (finish_of d t p)) is_task

      module _ {f : ℕ} (is : r ≡ Some f) where
        finish_is : f ≡ finish_of d j p
        finish_is = let z : Some f ≡ Some (finish_of d j p) = sym is ∙ root_found in cc

        pub finish_small : f < 4294967296
        finish_small = omega (arith, finish_is, finish_low p has_path.1)

    long : length p ≡ d.horizon + 1
    long = walk_long d (accepted_fits s g.sheet.now.accepted) i.0 b p (least_walk d i j [] p has_path.1)

    -- and writes it
    module _ {out : List ℕ} (before : List ℕ) (written : out ≡ path_written (least_path d i k (constraints_of [])) before) {last : ℕ} (el : last ≡ d.horizon) where
      path_is : take (last + 1) out ≡ p
      unfolding path_written
      path_is = ap (take (last + 1)) (written ∙ ap (λ (o : Option (List ℕ)). path_written o before) least_is) ∙ take_at p (drop (length p) before) (last + 1) (rw el long)

      pub path_long : last + 1 ≡ length (take (last + 1) out)
      path_long = rw (path_is, long, el)

    -- and it is put into the record
    module _ {r : Option ℕ} (answer : r ≡ path_found d k (least_path d i k (constraints_of []))) {f : ℕ} (is : r ≡ Some f)
        {out : List ℕ} (before : List ℕ) (written : out ≡ path_written (least_path d i k (constraints_of [])) before) (mid : List ℕ) (front : Front d.limit work mid) (size : length mid ≡ length work)
        {w last : ℕ} (ew : w ≡ d.width) (el : last ≡ d.horizon) {after : List ℕ}
        (u : Wrote mid after n (with_path (fields_at mid n) i.0 f (pack_of w last (take (last + 1) out)))) where
      wrote_path : Wrote mid after n (with_path (fields_at mid n) i.0 f (pack_of d.width d.horizon p))
      wrote_path = rw (← ew, ← el, ← path_is before written el) u

      at_mid : Begun d mid n a i.0 st
      at_mid = front_begun mid (limit_low g) front B

      pub root_path_begun : Begun d after n a (i.0 + 1) st
      root_path_begun =
          path_begun at_mid f p wrote_path (accepted_fits s g.sheet.now.accepted) (omega (arith, room_record g work room n B.within)) b has_path.1 (finish_is answer is)

      pub root_path_same : Same d work after n
      root_path_same = same_then d work mid after n (front_same mid (limit_low g) front B) (path_same at_mid f p wrote_path)

-- THE ROOT IS OPENED
module _ {d : Sheet} (fits : Fits d) {work after : List ℕ} {made : ℕ} {a : List ℕ} {i : ℕ} {st : State (List ℕ) Constraint} (B : Begun d work made a i st) (ei : i ≡ d.count)
    {limit : ℕ} (el : limit ≡ d.limit) (opens : (e : Sheet) (b : List ℕ) → Fits e → Stored e limit work made → RootSoFar e work made b e.count → Added e limit work after made (root_of (problem e) b))
    (kept : (k : ℕ) → k < limit → fields_at after k ≡ fields_at work k) where
  root_added : Added d d.limit work after made (root_of (problem d) a)
  root_added =
      subst (λ (x : ℕ). Stored d x work made → Added d x work after made (root_of (problem d) a)) el
      (λ s. opens d a fits s (subst (RootSoFar d work made a) ei B.root)) B.stored

  pub root_held : Held d after (made + 1) (made + 1) (added (root_of (problem d) a ∷ []) st)
  root_held =
      record {
        stored = root_added.stored;
        opened = root_added.opened ∙ ap (λ (l : Nodes). l ++ (root_of (problem d) a ∷ [])) B.opened;
        number = ap (λ (x : ℕ). x + 1) B.number;
        slots = slots_kept_records d.count (table_of d) work after (made + 1) st.rest (λ k h. kept k (omega (arith, B.within))) B.slots;
        recent = omega arith;
        within = omega (arith, B.within);
      }

  pub root_held_same : Same d work after made
  root_held_same = record { nodes = root_added.nodes; keys = root_added.keys }
