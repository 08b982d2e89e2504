-- What making a root leaves of the nodes, and what other writes leave of the slots. Assumes nothing.
use Rattle.std.proofs.Common.{ℕ, ◌+◌, ◌-◌, ◌<◌, ◌≡◌, refl, sym, ap, ◌∙◌, inl, inr, ⊎_elim, ◌≢◌, List, [], arith, get_or, set, length, get_or-set_other}
use native.Mathlib.Decide.{ℕ_discrete}
use Rattle.deck.proofs.Members.{Mem}
use Rattle.deck.specs.Lists.{count_from}
use Rattle.deck.specs.Sheet.{Sheet}
use Rattle.deck.specs.Calls.{task_list}
use Rattle.meaning.specs.Meaning.{◌at◌}
use Rattle.partition.proofs.Splits.{none_closed_lem}
use Rattle.records.specs.Record.{fields, fields_at, row_in, slot_in, root_fields, with_path, Wrote}
use Rattle.nodes.specs.Nodes.{node_at, opened_at}
use Rattle.nodes.specs.Stored.{Stored, RootSoFar, NodeAlike}
use Rattle.nodes.proofs.Kept.{alike_same, slot_alike, kept_stored, kept_nodes, kept_opened}
use Rattle.roots.specs.Slots.{slot_here, root_slots, slots_at, Rooted, PartsHold, RootMade}
use Rattle.roots.specs.Choices.{Cleared}
use Rattle.roots.specs.Tournament.{own_at, Tournament, OnlyTournament, SlotsHold}
use Rattle.roots.specs.Begun.{RootBegun, PartsAlike, SlotsAlike}
use Rattle.roots.proofs.Taken.{each_same}
use Rattle.roots.proofs.Codes.{win_kept, own_kept}
use Rattle.roots.proofs.Playing.{order_slots, best_same, played_on}

-- THE ROOT
module _ (m : ℕ) (table mid after final : List ℕ) (made : ℕ) (tasks : List ℕ) (row : ℕ) (closed : List ℕ) (u : RootMade m table mid after made tasks row closed) (q : OnlyTournament after final (made + 1)) where
  new_field : (f : ℕ) → f ≢ 5 → f ≢ 6 → get_or (fields_at final made) f [] ≡ get_or (root_fields tasks row closed) f []
  new_field f a b =
      q.fields made f a ∙ ap (λ (l : List (List ℕ)). get_or l f []) u.same.here
      ∙ get_or-set_other (root_fields tasks row closed) 6 f (get_or (fields_at after made) 6 []) [] b

  new_root : (d : Sheet) (a : List ℕ) → length a ≡ d.count → ((k : ℕ) → a at k < 256) → tasks ≡ task_list a → RootSoFar d final made a 0
  unfolding root_fields
  new_root d a l b e =
      record {
        link = ap (λ (l : List ℕ). get_or l 0 0) (new_field 0 (λ z. omega arith) (λ z. omega arith));
        own = rw (new_field 1 (λ z. omega arith) (λ z. omega arith)) (omega arith);
        tasks = new_field 2 (λ z. omega arith) (λ z. omega arith) ∙ e;
        long = l;
        bytes = b;
        least = λ k h. absurd (omega arith);
        finishes = λ k h. absurd (omega arith);
        zeros = λ k h. ap (λ (l : List ℕ). get_or l k 0) (new_field 3 (λ z. omega arith) (λ z. omega arith)) ∙ none_closed_lem k;
      }

  -- the node of another number is as it was
  node_kept : (before : List ℕ) (k : ℕ) → NodeAlike (fields_at after k) (fields_at before k) → NodeAlike (fields_at final k) (fields_at before k)
  node_kept before k a =
      record {
        link = q.fields k 0 (λ z. omega arith) ∙ a.link;
        own = q.fields k 1 (λ z. omega arith) ∙ a.own;
        tasks = q.fields k 2 (λ z. omega arith) ∙ a.tasks;
        finishes = q.fields k 3 (λ z. omega arith) ∙ a.finishes;
        paths = q.fields k 7 (λ z. omega arith) ∙ a.paths;
      }

  pub made_begun : RootBegun mid final made tasks
  made_begun = record {
    root = new_root;
    alike = λ k ne. node_kept mid k (alike_same (fields_at after k) (fields_at mid k) (u.same.records k ne));
    keys = λ limit k l. q.keys limit k (omega arith) ∙ u.same.keys limit k l;
  }

  -- and a slot of an older root was cleared before
  pub next_begun : (before : List ℕ) (n j : ℕ) → n < made → Cleared before mid n j → RootBegun before final made tasks
  next_begun before n j l c = record {
    root = new_root;
    alike = λ k ne. node_kept before k (rw (u.same.records k ne) (slot_alike before mid n j (set (slot_in (fields_at before n) j) 0 0) c k));
    keys = λ limit k h. q.keys limit k (omega arith) ∙ u.same.keys limit k h ∙ c.keys limit k (omega arith);
  }

-- THE SLOTS are read from their fields of the roots' records alone
pub slots_same : (fs gs : List (List ℕ)) → fs ≡ gs → SlotsAlike fs gs
slots_same fs gs e = rw e (record { parts = record { tasks = refl; row = refl; slots = refl; closed = refl }; tournament = refl })

module _ (m : ℕ) (fs gs : List (List ℕ)) (a : PartsAlike fs gs) where
  root_slots_same : root_slots m fs ≡ root_slots m gs
  unfolding root_slots slot_here
  root_slots_same = rw a.row (each_same (slot_here m fs) (slot_here m gs) (count_from (row_in gs) (m - row_in gs)) (λ j i. rw (a.tasks, a.row, a.slots, a.closed)))

  rooted_same : (table : List ℕ) → Rooted m table gs → Rooted m table fs
  rooted_same table r =
      record {
        part = rw (a.tasks, a.closed) r.part;
        slots = λ j l h f. rw a.slots (r.slots j (rw a.row at l) h (rw a.slots at f));
      }

-- THE FRAME: whatever leaves these fields leaves the slots, and what they hold
pub parts_kept : (m : ℕ) (table before after roots : List ℕ) (rest : List (List ℕ)) → ((n : ℕ) → Mem n roots → PartsAlike (fields_at after n) (fields_at before n))
    → PartsHold m table before roots rest → PartsHold m table after roots rest
unfolding slots_at
parts_kept m table before after roots rest alike H =
    record {
      rooted = λ n i. rooted_same m (fields_at after n) (fields_at before n) (alike n i) table (H.rooted n i);
      holds =
          rw (each_same (λ n. root_slots m (fields_at after n)) (λ n. root_slots m (fields_at before n)) roots (λ n i. root_slots_same m (fields_at after n) (fields_at before n) (alike n i)))
          H.holds;
    }

pub slots_kept : (m : ℕ) (table before after : List ℕ) (latest : ℕ) (rest : List (List ℕ)) → ((n : ℕ) → n < latest → SlotsAlike (fields_at after n) (fields_at before n))
    → SlotsHold m table before latest rest → SlotsHold m table after latest rest
slots_kept m table before after latest rest alike H =
    record {
      roots = H.roots;
      low = H.low;
      falls = H.falls;
      parts = parts_kept m table before after H.roots rest (λ n i. (alike n (H.low n i)).parts) H.parts;
      tournament = kept;
    }
  where
    own : (k : ℕ) → k < latest → own_at after k ≡ own_at before k
    own k l = own_kept before after k (alike k l).tournament

    kept : Tournament m after latest H.roots
    kept =
        record {
          played =
              played_on before after latest latest (omega arith) (λ k l. order_slots (fields_at after k) (fields_at before k) (alike k l).parts.slots) (λ k l. win_kept before after k (alike k l).tournament) own
              (λ k a b. absurd (omega arith)) (λ k a b. absurd (omega arith)) H.tournament.played;
          own = λ k i.
              let l = H.low k i in
              own k l ∙ H.tournament.own k i ∙ sym (best_same before after k (alike k l).parts.slots m (alike k l).parts.row);
          others = λ k l. ⊎_elim (λ e. inl (own k l ∙ e)) inr (H.tournament.others k l);
        }

-- words of the tournament are written
pub only_alike : (before after : List ℕ) (l : ℕ) → OnlyTournament before after l → (k : ℕ) → PartsAlike (fields_at after k) (fields_at before k)
only_alike before after l q k =
    record {
      tasks = q.fields k 2 (λ e. omega arith);
      row = q.fields k 4 (λ e. omega arith);
      slots = q.fields k 6 (λ e. omega arith);
      closed = q.fields k 8 (λ e. omega arith);
    }

-- a path is written
pub path_slots_alike : (before after : List ℕ) (n i finish : ℕ) (packed : List ℕ) → Wrote before after n (with_path (fields_at before n) i finish packed) → (k : ℕ) → SlotsAlike (fields_at after k) (fields_at before k)
path_slots_alike before after n i finish packed u k = go (ℕ_discrete k n)
  where
    path_alike : SlotsAlike (with_path (fields_at before n) i finish packed) (fields_at before n)
    path_alike = unfold fields_at in unfold fields in record { parts = record { tasks = refl; row = refl; slots = refl; closed = refl }; tournament = refl }

    go : Dec (k ≡ n) → SlotsAlike (fields_at after k) (fields_at before k)
    go (yes z) = rw (z, u.here) path_alike
    go (no z) = slots_same (fields_at after k) (fields_at before k) (u.records k z)

pub slots_kept_path : (m : ℕ) (table before after : List ℕ) (latest : ℕ) (rest : List (List ℕ)) (n i finish : ℕ) (packed : List ℕ) → Wrote before after n (with_path (fields_at before n) i finish packed)
    → SlotsHold m table before latest rest → SlotsHold m table after latest rest
slots_kept_path m table before after latest rest n i finish packed u = slots_kept m table before after latest rest (λ k l. path_slots_alike before after n i finish packed u k)

-- records are as they were: a node was opened, closed or made after the latest root, or words past the records were written
pub slots_kept_records : (m : ℕ) (table before after : List ℕ) (latest : ℕ) (rest : List (List ℕ)) → ((k : ℕ) → k < latest → fields_at after k ≡ fields_at before k)
    → SlotsHold m table before latest rest → SlotsHold m table after latest rest
slots_kept_records m table before after latest rest e = slots_kept m table before after latest rest (λ k l. slots_same (fields_at after k) (fields_at before k) (e k l))

-- THE NODES are as they were when a root is begun
module _ (d : Sheet) (limit : ℕ) (before after : List ℕ) (made : ℕ) (tasks : List ℕ) (s : Stored d limit before made) (b : made < limit) (r : RootBegun before after made tasks) where
  alike_nodes : (k : ℕ) → k < made → NodeAlike (fields_at after k) (fields_at before k)
  alike_nodes k h = r.alike k (λ e. omega arith)

  pub begun_stored : Stored d limit after made
  begun_stored = kept_stored d limit before after made s alike_nodes (λ k h. r.keys limit k b)

  pub begun_nodes : (k : ℕ) → k < made → node_at d after k ≡ node_at d before k
  begun_nodes = kept_nodes d limit before after made s alike_nodes (λ k h. r.keys limit k b)

  pub begun_opened : opened_at d limit after made ≡ opened_at d limit before made
  begun_opened = kept_opened d limit before after made s alike_nodes (λ k h. r.keys limit k b)
