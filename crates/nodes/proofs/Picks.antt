-- The first of the least keys is that of the open node that the definition takes. Assumes nothing.
use Rattle.std.proofs.Common.{◌≡◌, refl, sym, ◌∙◌, ap, ◌⊎◌, inl, inr, ⊎_elim, Bool, true, false, List, [], map, ℕ, ◌+◌, ◌*◌, ◌<◌, ◌≤◌, min, arith, eqb, ltb, length, get_or, ne_eqb, ltb-true, ltb-false, below_more}
use Rattle.std.proofs.lemmas.Bool.{eqb-false, not-true}
use Rattle.std.specs.Prelude.{Some}
use Rattle.deck.specs.Lists.{take_least}
use Rattle.deck.specs.Sheet.{Sheet}
use Rattle.deck.specs.Search.{Node}
use Rattle.deck.specs.declared.Constraint.{Constraint}
use Rattle.records.specs.Record.{fields_at, key_at, closed_key, with_key}
use Rattle.records.proofs.Frames.{key_same, key_other, key_record}
use Rattle.nodes.specs.Nodes.{cost_of, node_of, node_at, is_open, open_numbers, opened_at, LeastTo, Cheapest}
use Rattle.nodes.specs.Stored.{Fits, Stored}
use Rattle.nodes.proofs.Tables.{map_select_same, select_none, take_map, mapped, took_first}
use Rattle.nodes.proofs.Chains.{node_same}
use Rattle.nodes.proofs.Costs.{cost_small}

-- THE LEAST KEY
pub least_more : (keys : List ℕ) (i r v : ℕ) → v ≡ min r (get_or keys i 0) → LeastTo keys i r → LeastTo keys (i + 1) v
least_more keys i r v e l =
    record {
      low = omega (arith, l.low);
      least = below_more _ i (λ k h. let g : r ≤ get_or keys k 0 = l.least k h in omega arith) (omega arith);
      found = go (ltb (get_or keys i 0) r) refl;
    }
  where
    old : v ≡ r → (v ≡ closed_key) ⊎ ((k : ℕ) × (k < i + 1) × (get_or keys k 0 ≡ v))
    old q = ⊎_elim (λ g. inl (q ∙ g)) (λ g. inr (g.0, omega (arith, g.1), g.2 ∙ sym q)) l.found

    go : (b : Bool) → ltb (get_or keys i 0) r ≡ b → (v ≡ closed_key) ⊎ ((k : ℕ) × (k < i + 1) × (get_or keys k 0 ≡ v))
    go true q = let h : get_or keys i 0 < r = ltb-true (get_or keys i 0) r q in inr (i, omega arith, omega arith)
    go false q = let h : r ≤ get_or keys i 0 = ltb-false (get_or keys i 0) r q in old (omega arith)

-- THE CHOICE: no key is less than v
module _ (d : Sheet) (limit : ℕ) (work : List ℕ) (made : ℕ) (f : Fits d) (s : Stored d limit work made) (v : ℕ) (least : (k : ℕ) → k < made → v ≤ key_at limit work k) where
  open_cost : (k : ℕ) → k < made → is_open limit work k ≡ true → key_at limit work k ≡ cost_of d (fields_at work k)
  open_cost k h o = s.key k h (eqb-false (key_at limit work k) closed_key (not-true (eqb (key_at limit work k) closed_key) o))

  -- no key is less than that of a closed node: none is open
  pub picked_nothing : v ≡ closed_key → opened_at d limit work made ≡ []
  picked_nothing q = ap (map (node_at d work)) (select_none (is_open limit work) 0 made (λ k a b. shut k (omega arith)))
    where
      shut : (k : ℕ) → k < made → is_open limit work k ≡ false
      shut k b = go (is_open limit work k) refl
        where
          go : (x : Bool) → is_open limit work k ≡ x → x ≡ false
          go true o = absurd (omega (arith, least k b, open_cost k b o, cost_small d (fields_at work k) f))
          go false o = refl

  -- the first of the least keys is the node that is taken
  pub picked_open : (n cost : ℕ) → made ≤ limit → limit ≤ 4096 → 512 * limit + 4096 ≤ length work → (v ≡ closed_key → ⊥) → n < made → key_at limit work n ≡ v → ((j : ℕ) → j < n → key_at limit work j ≡ v → ⊥) → cost ≡ v
      → Cheapest d limit work made (Some (record { n = n; cost = cost }))
  unfolding node_of
  picked_open n cost m c h ne inside key first g = (g ∙ sym paid, took)
    where
      opened : is_open limit work n ≡ true
      opened = rw (ne_eqb (key_at limit work n) closed_key (λ q. ne (sym key ∙ q)))

      paid : cost_of d (fields_at work n) ≡ v
      paid = sym (open_cost n inside opened) ∙ key

      no_less : (j : ℕ) → j < made → is_open limit work j ≡ true → cost_of d (fields_at work n) ≤ cost_of d (fields_at work j)
      no_less j b o = omega (arith, paid, least j b, open_cost j b o)

      before : (j : ℕ) → j < n → is_open limit work j ≡ true → cost_of d (fields_at work n) < cost_of d (fields_at work j)
      before j b o =
          let i : j < made = omega arith in
          let x : key_at limit work j ≡ v → ⊥ = first j b in
          omega (arith, no_less j i o, paid, open_cost j i o)

      after : List ℕ
      after = with_key limit n closed_key work

      closed : is_open limit after n ≡ false
      closed = rw (key_same work limit n closed_key (omega arith))

      others : (j : ℕ) → (j ≡ n → ⊥) → is_open limit after j ≡ is_open limit work j
      others j q = rw (key_other work limit n j closed_key q)

      nodes : opened_at d limit after made ≡ map (node_at d work) (open_numbers limit after made)
      nodes =
          map_select_same (node_at d after) (node_at d work) (is_open limit after) 0 made
          (λ k x y. node_same s after (λ j b. key_record work limit n j closed_key (omega arith) (omega arith)) k (omega arith))

      took : take_least (λ x. x.cost) (opened_at d limit work made) ≡ Some (node_at d work n, opened_at d limit after made)
      took =
          take_map (node_at d work) (λ x. x.cost) (open_numbers limit work made)
          ∙ ap (mapped (node_at d work))
          (took_first (λ j. (node_at d work j).cost) (is_open limit work) (is_open limit after) n opened closed others 0 made (omega arith) (omega arith)
          (λ j x y o. no_less j (omega arith) o) (λ j x y o. before j y o))
          ∙ ap (λ (r : List (Node (List ℕ) Constraint)). Some (node_at d work n, r)) (sym nodes)
