-- What leaves the store as it is: closing a node, slots of a root, words past the keys. Assumes nothing.
use Rattle.std.proofs.Common.{◌≡◌, refl, sym, ◌∙◌, ap, ap₂, List, map, ℕ, suc, ◌+◌, ◌*◌, ◌<◌, ◌≤◌, arith, length, get_or, take}
use Rattle.std.proofs.Math.Decide.{ℕ_discrete}
use Rattle.deck.specs.Sheet.{Sheet}
use Rattle.deck.specs.Search.{flowtime}
use Rattle.deck.specs.Planner.{problem}
use Rattle.deck.specs.declared.Constraint.{Constraint}
use Rattle.records.specs.Record.{fields, fields_at, root_in, constraint_in, with_slot, key_at, closed_key, with_key, Wrote}
use Rattle.records.proofs.Frames.{key_same, key_other, key_record, fields_front, key_front}
use Rattle.nodes.specs.Nodes.{constraints_at, stored_path, stored_paths, assignment_of, cost_of, node_of, node_at, is_open, opened_at}
use Rattle.nodes.specs.Stored.{Sound, Stored, NodeAlike}
use Rattle.nodes.proofs.Tables.{map_same, map_select_same, select_same}
use Rattle.nodes.proofs.Chains.{stored_links, chain_alike, node_same}
use Rattle.nodes.proofs.Makes.{node_is}

-- no node is made
pub stored_none : (d : Sheet) (limit : ℕ) (work : List ℕ) → Stored d limit work 0
stored_none d limit work = record { sound = λ k h. absurd (omega arith); key = λ k h. absurd (omega arith) }

-- CLOSING
module _ (d : Sheet) (limit : ℕ) (work : List ℕ) (made n : ℕ) (s : Stored d limit work made) (b : n < made) (m : made ≤ limit) (l : limit ≤ 4096) (h : 512 * limit + 4096 ≤ length work) where
  abbrev after : List ℕ
  after = with_key limit n closed_key work

  same_fields : (k : ℕ) → k < made → fields_at after k ≡ fields_at work k
  same_fields k x = key_record work limit n k closed_key (omega arith) (omega arith)

  pub close_records : (k : ℕ) → k < limit → fields_at after k ≡ fields_at work k
  close_records k x = key_record work limit n k closed_key x (omega arith)

  pub close_nodes : (k : ℕ) → k < made → node_at d after k ≡ node_at d work k
  close_nodes = node_same s after same_fields

  pub close_stored : Stored d limit after made
  close_stored =
      record {
        sound = λ k x. rw (same_fields k x) (s.sound k x);
        key = λ k x ne. go k x ne (ℕ_discrete k n);
      }
    where
      go : (k : ℕ) → k < made → (key_at limit after k ≡ closed_key → ⊥) → Dec (k ≡ n) → key_at limit after k ≡ cost_of d (fields_at after k)
      go k x ne (yes z) = absurd (ne (rw z (key_same work limit n closed_key (omega arith))))
      go k x ne (no z) =
          let e : key_at limit after k ≡ key_at limit work k = key_other work limit n k closed_key z in
          e ∙ s.key k x (λ g. ne (e ∙ g)) ∙ rw (same_fields k x)

-- FIELDS THAT ARE NOT OF THE NODE
pub alike_same : (fs gs : List (List ℕ)) → fs ≡ gs → NodeAlike fs gs
alike_same fs gs e = rw e (record { link = refl; own = refl; tasks = refl; finishes = refl; paths = refl })

module _ (d : Sheet) (fs gs : List (List ℕ)) (a : NodeAlike fs gs) where
  alike_path : (i : ℕ) → stored_path d fs i ≡ stored_path d gs i
  alike_path i = rw a.paths

  alike_paths : stored_paths d fs ≡ stored_paths d gs
  alike_paths = map_same (stored_path d fs) (stored_path d gs) 0 d.count (λ i x y. alike_path i)

  alike_cost : cost_of d fs ≡ cost_of d gs
  unfolding cost_of
  alike_cost = ap₂ (flowtime (problem d)) (ap (take d.count) a.tasks) alike_paths

  alike_node : (cs ks : List Constraint) → cs ≡ ks → node_of d fs cs ≡ node_of d gs ks
  unfolding node_of cost_of
  alike_node cs ks e = node_is d fs cs (root_in gs) (assignment_of d gs) ks (stored_paths d gs) (rw a.link) (ap (take d.count) a.tasks) e alike_paths

  alike_sound : (k : ℕ) → Sound d k gs → Sound d k fs
  alike_sound k s =
      record {
        earlier = rw a.link s.earlier;
        small = rw a.own s.small;
        good = rw (a.link, a.own) s.good;
        bytes = rw a.tasks s.bytes;
        past = rw a.tasks s.past;
        finishes = λ i h. rw (a.finishes, a.tasks, a.paths) (s.finishes i h);
        zeros = λ i h. rw a.finishes (s.zeros i h);
        paths = λ i h. rw a.paths (s.paths i h);
      }

module _ (d : Sheet) (limit : ℕ) (before after : List ℕ) (made : ℕ) (s : Stored d limit before made) (alike : (k : ℕ) → k < made → NodeAlike (fields_at after k) (fields_at before k))
    (keys : (k : ℕ) → k < made → key_at limit after k ≡ key_at limit before k) where
  pub kept_stored : Stored d limit after made
  kept_stored =
      record {
        sound = λ k h. alike_sound d (fields_at after k) (fields_at before k) (alike k h) k (s.sound k h);
        key = λ k h ne. keys k h ∙ s.key k h (λ z. ne (keys k h ∙ z)) ∙ sym (alike_cost d (fields_at after k) (fields_at before k) (alike k h));
      }

  pub kept_nodes : (k : ℕ) → k < made → node_at d after k ≡ node_at d before k
  kept_nodes k h =
      alike_node d (fields_at after k) (fields_at before k) (alike k h) (constraints_at after k) (constraints_at before k)
      (chain_alike (fields_at before) made (stored_links s) (fields_at after) (λ j b. ap (λ (l : List ℕ). get_or l 0 0) (alike j b).link)
      (λ j b. ap constraint_in (alike j b).own) (suc k) k h)

  pub kept_opened : opened_at d limit after made ≡ opened_at d limit before made
  kept_opened =
      map_select_same (node_at d after) (node_at d before) (is_open limit after) 0 made (λ k a b. kept_nodes k (omega arith))
      ∙ ap (map (node_at d before)) (select_same (is_open limit after) (is_open limit before) 0 made (λ k a b. rw (keys k (omega arith))))

-- a slot of a root is no part of its node
pub slot_alike : (before after : List ℕ) (n j : ℕ) (slot : List ℕ) → Wrote before after n (with_slot (fields_at before n) j slot) → (k : ℕ) → NodeAlike (fields_at after k) (fields_at before k)
slot_alike before after n j slot u k = go (ℕ_discrete k n)
  where
    alike_slot : NodeAlike (with_slot (fields_at before n) j slot) (fields_at before n)
    alike_slot = unfold fields_at in unfold fields in record { link = refl; own = refl; tasks = refl; finishes = refl; paths = refl }

    go : Dec (k ≡ n) → NodeAlike (fields_at after k) (fields_at before k)
    go (yes z) = rw (z, u.here) alike_slot
    go (no z) = alike_same (fields_at after k) (fields_at before k) (u.records k z)

-- words past the keys are no part of the store
module _ (before after : List ℕ) (limit made : ℕ) (m : made ≤ limit) (l : limit ≤ 4096) (e : take (512 * limit + 4096) after ≡ take (512 * limit + 4096) before) where
  pub front_alike : (k : ℕ) → k < made → NodeAlike (fields_at after k) (fields_at before k)
  front_alike k h = alike_same (fields_at after k) (fields_at before k) (fields_front after before limit k (omega arith) e)

  pub front_keys : (k : ℕ) → k < made → key_at limit after k ≡ key_at limit before k
  front_keys k h = key_front after before limit k (omega arith) e
