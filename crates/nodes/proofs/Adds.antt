-- A record more is a node more of the search's definition: a child, and a root. Assumes nothing.
use Rattle.std.proofs.Common.{◌≡◌, refl, sym, ◌∙◌, ap, ap₂, subst, Bool, true, false, List, [], ◌∷◌, ◌++◌, map, ℕ, suc, ◌+◌, ◌*◌, ◌<◌, ◌≤◌, ◌%◌, mod-eq_of_lt, zero-add, add-one, arith, ltb, length, get_or, set, length-set, get_or-set_same, get_or-set_other, ne_eqb, ltb-true, ltb-false}
use Rattle.deck.proofs.Members.{Mem}
use Rattle.std.proofs.Math.Decide.{ℕ_discrete}
use Rattle.deck.specs.Lists.{count_from, sum, select}
use Rattle.deck.specs.Sheet.{Sheet, carrier, start_of}
use Rattle.deck.specs.Paths.{walks}
use Rattle.deck.specs.Search.{Node}
use Rattle.deck.specs.declared.Constraint.{Constraint}
use Rattle.pack.specs.Pack.{pack_of}
use Rattle.records.specs.Cut.{part, put}
use Rattle.records.specs.Record.{fields_at, link_in, own_in, finishes_in, packed_in, key_at, closed_key, with_key, Wrote}
use Rattle.records.proofs.Cuts.{part_here, part_behind, part_before}
use Rattle.records.proofs.Frames.{key_same, key_other, key_record}
use Rattle.nodes.specs.Nodes.{upward, constraints_at, stored_path, cost_of, node_of, node_at, is_open, open_numbers, opened_at}
use Rattle.nodes.specs.Stored.{Fits, Sound, Stored, Added}
use Rattle.std.proofs.lemmas.List.{map-append}
use Rattle.nodes.proofs.Tables.{map_select_same, count_snoc, select_append, select_same}
use Rattle.nodes.proofs.Grid.{read_back}
use Rattle.nodes.proofs.Chains.{stored_links, node_same, chain_more}
use Rattle.nodes.proofs.Costs.{cost_small, finishes_sum}

-- A NODE MORE: its record is written, and then its key
module _ (d : Sheet) (limit : ℕ) (before mid after : List ℕ) (made : ℕ) (fs : List (List ℕ)) (v : ℕ) (f : Fits d) (s : Stored d limit before made) (u : Wrote before mid made fs)
    (ok : Sound d made fs) (m : made < limit) (c : limit ≤ 4096) (h : 512 * limit + 4096 ≤ length mid) (l : length (finishes_in fs) ≡ 12)
    (e : v ≡ sum (finishes_in fs) % 4294967296) (q : after ≡ with_key limit made v mid) where
  kept : (k : ℕ) → k < made → fields_at after k ≡ fields_at before k
  kept k b = rw q (key_record mid limit made k v (omega arith) (omega arith)) ∙ u.records k (λ z. omega arith)

  new : fields_at after made ≡ fs
  new = rw q (key_record mid limit made made v m (omega arith)) ∙ u.here

  new_key : key_at limit after made ≡ cost_of d fs
  new_key =
      let z : sum (finishes_in fs) ≡ cost_of d fs = finishes_sum d fs made f ok l in
      let w : cost_of d fs < 4294967296 = omega (arith, cost_small d fs f) in
      rw q (key_same mid limit made v (omega arith)) ∙ e ∙ rw z (mod-eq_of_lt w)

  old_key : (k : ℕ) → k < made → key_at limit after k ≡ key_at limit before k
  old_key k b = rw q (key_other mid limit made k v (λ z. omega arith)) ∙ u.keys limit k m

  -- the new node, with the constraints along its link
  abbrev new_node : Node (List ℕ) Constraint
  new_node = node_of d fs (upward (own_in fs) (link_in fs) (constraints_at before))

  node_new : node_at d after made ≡ new_node
  node_new = ap₂ (node_of d) new (chain_more (fields_at before) (fields_at after) made fs (stored_links s) kept new ok.earlier)

  nodes_old : (k : ℕ) → k < made → node_at d after k ≡ node_at d before k
  nodes_old = node_same s after kept

  opened_new : is_open limit after made ≡ true
  opened_new = rw (ne_eqb (key_at limit after made) closed_key (λ z. omega (arith, new_key, cost_small d fs f)))

  opened_old : opened_at d limit after made ≡ opened_at d limit before made
  opened_old =
      map_select_same (node_at d after) (node_at d before) (is_open limit after) 0 made (λ k a b. nodes_old k (omega arith))
      ∙ ap (map (node_at d before)) (select_same (is_open limit after) (is_open limit before) 0 made (λ k a b. rw (old_key k (omega arith))))

  opened_more : opened_at d limit after (suc made) ≡ opened_at d limit before made ++ (new_node ∷ [])
  opened_more =
      ap (λ (t : List ℕ). map (node_at d after) (select (is_open limit after) t)) (count_snoc 0 made)
      ∙ ap (map (node_at d after)) (select_append (is_open limit after) (count_from 0 made) ((0 + made) ∷ []))
      ∙ map-append (node_at d after) (open_numbers limit after made) (select (is_open limit after) ((0 + made) ∷ []))
      ∙ ap₂ (λ (t w : List (Node (List ℕ) Constraint)). t ++ w) opened_old (rw (zero-add made, opened_new, node_new))

  sound_more : (k : ℕ) → k < made + 1 → Sound d k (fields_at after k)
  sound_more k b = go (ℕ_discrete k made)
    where
      go : Dec (k ≡ made) → Sound d k (fields_at after k)
      go (yes z) = subst (λ (j : ℕ). Sound d j (fields_at after j)) (sym z) (rw new ok)
      go (no z) = rw (kept k (omega arith)) (s.sound k (omega arith))

  key_more : (k : ℕ) → k < made + 1 → (key_at limit after k ≡ closed_key → ⊥) → key_at limit after k ≡ cost_of d (fields_at after k)
  key_more k b n = go (ℕ_discrete k made)
    where
      go : Dec (k ≡ made) → key_at limit after k ≡ cost_of d (fields_at after k)
      go (yes z) = subst (λ (j : ℕ). key_at limit after j ≡ cost_of d (fields_at after j)) (sym z) (new_key ∙ rw new)
      go (no z) =
          let w : k < made = omega arith in
          old_key k w ∙ s.key k w (λ g. n (old_key k w ∙ g)) ∙ rw (kept k w)

  pub added : (x : Node (List ℕ) Constraint) → new_node ≡ x → Added d limit before after made x
  added x g =
      record {
        opened = rw (add-one made) (opened_more ∙ rw g);
        stored = record { sound = sound_more; key = key_more };
        node = node_new ∙ g;
        nodes = nodes_old;
        records = kept;
        keys = old_key;
      }

-- ONE PATH SET
pub record PathSet (ps fs : List (List ℕ)) (i t : ℕ) (packed : List ℕ) : Type 0 where
  pub finishes : get_or fs 3 [] ≡ set (get_or ps 3 []) i t
  pub paths : get_or fs 7 [] ≡ put (20 * i) 20 packed (get_or ps 7 [])

module _ {ps fs : List (List ℕ)} {i t : ℕ} {packed : List ℕ} (e : PathSet ps fs i t packed) (b : i < 12) (long3 : length (get_or ps 3 []) ≡ 12) (long7 : length (get_or ps 7 []) ≡ 240) (long : length packed ≡ 20) where
  pub finish_here : get_or (finishes_in fs) i 0 ≡ t
  finish_here = rw e.finishes (get_or-set_same (get_or ps 3 []) i t 0 (omega arith))

  pub finish_other : (k : ℕ) → (k ≡ i → ⊥) → get_or (finishes_in fs) k 0 ≡ get_or (finishes_in ps) k 0
  finish_other k n = rw e.finishes (get_or-set_other (get_or ps 3 []) i k t 0 n)

  pub finishes_long : length (finishes_in fs) ≡ 12
  finishes_long = rw e.finishes (length-set (get_or ps 3 []) i t ∙ long3)

  pub packed_here : packed_in fs i ≡ packed
  packed_here = rw e.paths (part_here (20 * i) 20 packed (get_or ps 7 []) long (omega arith))

  pub packed_other : (k : ℕ) → (k ≡ i → ⊥) → packed_in fs k ≡ packed_in ps k
  packed_other k n = rw e.paths (go (ltb k i) refl)
    where
      go : (x : Bool) → ltb k i ≡ x → part (20 * k) 20 (put (20 * i) 20 packed (get_or ps 7 [])) ≡ part (20 * k) 20 (get_or ps 7 [])
      go true z = part_behind (20 * k) 20 (20 * i) 20 packed (get_or ps 7 []) (omega (arith, ltb-true k i z)) (omega arith)
      go false z =
          let g : i < k = omega (arith, ltb-false k i z) in
          part_before (20 * k) 20 (20 * i) 20 packed (get_or ps 7 []) long (omega arith) (omega arith)

  -- the places of the paths
  module _ (d : Sheet) where
    pub path_other : (k : ℕ) → (k ≡ i → ⊥) → stored_path d fs k ≡ stored_path d ps k
    path_other k n = rw (packed_other k n)

    pub path_here : (p : List ℕ) → Fits d → i < d.count → Mem p (walks d d.horizon (start_of d (carrier i))) → packed ≡ pack_of d.width d.horizon p → stored_path d fs i ≡ p
    path_here p f g w z = rw (packed_here, z) (read_back d f i g p w)
