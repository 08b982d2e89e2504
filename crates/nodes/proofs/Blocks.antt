-- The least keys of the blocks of nodes: none made, one node more, a node closed, nodes that keep their keys. Assumes nothing.
use Rattle.std.proofs.Common.{◌≡◌, refl, sym, ◌∙◌, ◌⊎◌, inl, inr, ⊎_elim, Bool, true, false, List, ℕ, ◌+◌, ◌*◌, ◌-◌, ◌/◌, ◌<◌, ◌≤◌, min, arith, ltb, length, get_or, set, replicate, length-set, get_or-set_same, get_or-set_other, ltb-true, ltb-false}
use Rattle.std.proofs.Math.Decide.{ℕ_discrete}
use Rattle.std.proofs.lemmas.List.{length-replicate, get_or-replicate}
use Rattle.records.specs.Cut.{part}
use Rattle.records.specs.Record.{key_at, closed_key, with_key}
use Rattle.records.proofs.Cuts.{length_part, part_get}
use Rattle.records.proofs.Frames.{key_other}
use Rattle.nodes.specs.Nodes.{LeastTo, FirstOf, LeastIn, FirstIn, block_end, Lows}

-- THE KEYS OF THE NODES from..until, as a part of the workspace
module _ (limit : ℕ) (work keys : List ℕ) (from until : ℕ) (e : keys ≡ part (512 * limit + from) (until - from) work) (o : from ≤ until)
    (h : 512 * limit + until ≤ length work) where
  pub size : length keys ≡ until - from
  size = rw e (length_part (512 * limit + from) (until - from) work (omega arith))

  pub key : (k : ℕ) → k < until - from → get_or keys k 0 ≡ key_at limit work (from + k)
  unfolding key_at
  key k b =
      let z : 512 * limit + from + k ≡ 512 * limit + (from + k) = omega arith in
      rw e (rw z at (part_get (512 * limit + from) (until - from) k work b))

  key_from : (k : ℕ) → from ≤ k → k < until → get_or keys (k - from) 0 ≡ key_at limit work k
  key_from k a b = let z : from + (k - from) ≡ k = omega arith in rw z at (key (k - from) (omega arith))

  pub least_in_part : (r : ℕ) → LeastTo keys (length keys) r → LeastIn limit work from until r
  least_in_part r l =
      record {
        low = l.low;
        least = λ k a b. rw (← key_from k a b) (l.least (k - from) (omega (arith, size)));
        found = ⊎_elim (λ g. inl g) (λ g. inr (from + g.0, omega arith, omega (arith, g.1, size), sym (key g.0 (omega (arith, g.1, size))) ∙ g.2)) l.found;
      }

  pub first_in_part : (v r : ℕ) → FirstOf keys v r → FirstIn limit work from until v (from + r)
  first_in_part v r f =
      record {
        start = omega arith;
        inside = omega (arith, f.inside, size);
        same = λ b. sym (key r (omega arith)) ∙ f.same (omega (arith, size));
        first = λ k a b g. f.first (k - from) (omega arith) (key_from k a (omega (arith, f.inside, size)) ∙ g);
      }

-- THE LEAST KEY of the nodes from..until
module _ {limit : ℕ} {from : ℕ} where
  -- their keys are the same
  least_kept : {before after : List ℕ} {until r : ℕ} → ((k : ℕ) → from ≤ k → k < until → key_at limit after k ≡ key_at limit before k) → LeastIn limit before from until r → LeastIn limit after from until r
  least_kept e l =
      record {
        low = l.low;
        least = λ k a b. rw (e k a b) (l.least k a b);
        found = ⊎_elim (λ g. inl g) (λ g. inr (g.0, g.1, g.2, e g.0 g.1 g.2 ∙ g.3)) l.found;
      }

  -- they are the same nodes
  least_range : {work : List ℕ} {until end r : ℕ} → ((k : ℕ) → from ≤ k → k < until → k < end) → ((k : ℕ) → from ≤ k → k < end → k < until) → LeastIn limit work from until r → LeastIn limit work from end r
  least_range to back l =
      record {
        low = l.low;
        least = λ k a b. l.least k a (back k a b);
        found = ⊎_elim (λ g. inl g) (λ g. inr (g.0, g.1, to g.0 g.1 g.2, g.3)) l.found;
      }

  -- one node more
  least_next : {work : List ℕ} {until r : ℕ} (v end : ℕ) → from ≤ until → end ≡ until + 1 → v ≡ min r (key_at limit work until) → LeastIn limit work from until r → LeastIn limit work from end v
  least_next {work} {until} {r} v end o n e l =
      record {
        low = omega (arith, l.low);
        least = λ k a b. least k a (ℕ_discrete k until) b;
        found = found (ltb (key_at limit work until) r) refl;
      }
    where
      least : (k : ℕ) → from ≤ k → Dec (k ≡ until) → k < end → v ≤ key_at limit work k
      least k a (yes z) b = rw z (omega arith)
      least k a (no z) b = let g : r ≤ key_at limit work k = l.least k a (omega arith) in omega arith

      old : v ≡ r → (v ≡ closed_key) ⊎ ((k : ℕ) × (from ≤ k) × (k < end) × (key_at limit work k ≡ v))
      old q = ⊎_elim (λ g. inl (q ∙ g)) (λ g. inr (g.0, g.1, omega (arith, g.2), g.3 ∙ sym q)) l.found

      found : (b : Bool) → ltb (key_at limit work until) r ≡ b → (v ≡ closed_key) ⊎ ((k : ℕ) × (from ≤ k) × (k < end) × (key_at limit work k ≡ v))
      found true q = let h : key_at limit work until < r = ltb-true (key_at limit work until) r q in inr (until, o, omega arith, omega arith)
      found false q = let h : r ≤ key_at limit work until = ltb-false (key_at limit work until) r q in old (omega arith)

-- THE LEAST KEYS OF THE BLOCKS
-- no node is made
pub lows_none : (limit : ℕ) (work : List ℕ) → Lows limit work 0 (replicate 64 closed_key)
lows_none limit work =
    record { size = length-replicate {A = ℕ} 64 closed_key; block = λ b h. rw (get_or-replicate 64 b closed_key 0 h) (record { low = omega arith; least = λ k x y. absurd (omega arith); found = inl refl }) }

-- the nodes that are made keep their keys
pub lows_kept : {limit : ℕ} {before after : List ℕ} {made : ℕ} {lows : List ℕ} → ((k : ℕ) → k < made → key_at limit after k ≡ key_at limit before k) → Lows limit before made lows → Lows limit after made lows
lows_kept e w = record { size = w.size; block = λ b h. least_kept (λ k x y. e k (omega arith)) (w.block b h) }

-- the number of nodes is the same number
pub lows_at : {limit : ℕ} {work lows : List ℕ} {made : ℕ} (n : ℕ) → made ≡ n → Lows limit work made lows → Lows limit work n lows
lows_at n e w = rw (← e) w

-- node n is the next
pub lows_more : {limit : ℕ} {work lows : List ℕ} {n : ℕ} (v : ℕ) → n < 4096 → v ≡ min (get_or lows (n / 64) 0) (key_at limit work n) → Lows limit work n lows
    → Lows limit work (n + 1) (set lows (n / 64) v)
lows_more {limit} {work} {lows} {n} v m e w = record { size = length-set lows (n / 64) v ∙ w.size; block = λ b h. block b h (ℕ_discrete b (n / 64)) }
  where
    block : (b : ℕ) → b < 64 → Dec (b ≡ n / 64) → LeastIn limit work (64 * b) (block_end b (n + 1)) (get_or (set lows (n / 64) v) b 0)
    block b h (yes z) =
        let q : min (64 * b + 64) n ≡ n = omega arith in
        let l : LeastIn limit work (64 * b) n (get_or lows b 0) = rw q at (w.block b h) in
        let g : get_or (set lows (n / 64) v) b 0 ≡ v = rw z (get_or-set_same lows (n / 64) v 0 (omega (arith, w.size))) in
        rw g (least_next v (block_end b (n + 1)) (omega arith) (omega arith) (rw z e) l)
    block b h (no z) =
        rw (get_or-set_other lows (n / 64) b v 0 z) (least_range (λ k x y. omega arith) (λ k x y. omega arith) (w.block b h))

-- node n is closed, and v is the least key of its block then
pub lows_closed : {limit : ℕ} {work after lows : List ℕ} {made : ℕ} (n end v : ℕ) → n < 4096 → after ≡ with_key limit n closed_key work → end ≡ block_end (n / 64) made → LeastIn limit after (64 * (n / 64)) end v
    → Lows limit work made lows → Lows limit after made (set lows (n / 64) v)
lows_closed {limit} {work} {after} {lows} {made} n end v m e u l w = record { size = length-set lows (n / 64) v ∙ w.size; block = λ b h. block b h (ℕ_discrete b (n / 64)) }
  where
    block : (b : ℕ) → b < 64 → Dec (b ≡ n / 64) → LeastIn limit after (64 * b) (block_end b made) (get_or (set lows (n / 64) v) b 0)
    block b h (yes z) =
        let g : get_or (set lows (n / 64) v) b 0 ≡ v = rw z (get_or-set_same lows (n / 64) v 0 (omega (arith, w.size))) in
        rw (g, z, ← u) l
    block b h (no z) =
        rw (get_or-set_other lows (n / 64) b v 0 z, e) (least_kept (λ k x y. key_other work limit n k closed_key (λ q. z (omega arith))) (w.block b h))

-- THE CHOICE by the least keys of the blocks: v is the least of them
module _ {limit : ℕ} {work lows : List ℕ} {made : ℕ} (m : made ≤ 4096) (w : Lows limit work made lows) {v : ℕ} (l : LeastTo lows (length lows) v) where
  pub no_less : (k : ℕ) → k < made → v ≤ key_at limit work k
  no_less k h =
      let x : v ≤ get_or lows (k / 64) 0 = l.least (k / 64) (omega (arith, w.size)) in
      let y : get_or lows (k / 64) 0 ≤ key_at limit work k = (w.block (k / 64) (omega arith)).least k (omega arith) (omega arith) in
      omega arith

  -- b is the first block that has it
  module _ (ne : v ≡ closed_key → ⊥) {b : ℕ} (f : FirstOf lows v b) where
    pub block_inside : b < 64
    block_inside = go l.found
      where
        go : (v ≡ closed_key) ⊎ ((k : ℕ) × (k < length lows) × (get_or lows k 0 ≡ v)) → b < 64
        go (inl q) = absurd (ne q)
        go (inr (k, x, q)) = inside (ltb b 64) refl
          where
            inside : (y : Bool) → ltb b 64 ≡ y → b < 64
            inside true y = ltb-true b 64 y
            inside false y = absurd (f.first k (omega (arith, ltb-false b 64 y, w.size)) q)

    low : get_or lows b 0 ≡ v
    low = f.same (omega (arith, block_inside, w.size))

    -- some node of the block has it
    pub node_found : (k : ℕ) × (64 * b ≤ k) × (k < block_end b made) × (key_at limit work k ≡ v)
    node_found = go (w.block b block_inside).found
      where
        go : (get_or lows b 0 ≡ closed_key) ⊎ ((k : ℕ) × (64 * b ≤ k) × (k < block_end b made) × (key_at limit work k ≡ get_or lows b 0)) → (k : ℕ) × (64 * b ≤ k) × (k < block_end b made) × (key_at limit work k ≡ v)
        go (inl q) = absurd (ne (sym low ∙ q))
        go (inr (k, x, y, q)) = (k, x, y, q ∙ low)

    pub block_begun : 64 * b ≤ block_end b made
    block_begun = omega (arith, node_found.1, node_found.2)

    -- n is the first node of the block that has it
    module _ {n : ℕ} (g : FirstIn limit work (64 * b) (block_end b made) v n) where
      below_end : n < block_end b made
      below_end = go (ltb n (block_end b made)) refl
        where
          go : (y : Bool) → ltb n (block_end b made) ≡ y → n < block_end b made
          go true y = ltb-true n (block_end b made) y
          go false y = absurd (g.first node_found.0 node_found.1 (omega (arith, ltb-false n (block_end b made) y, node_found.2)) node_found.3)

      pub node_inside : n < made
      node_inside = omega (arith, below_end)

      pub node_key : key_at limit work n ≡ v
      node_key = g.same below_end

      -- no node before it has it
      pub none_before : (j : ℕ) → j < n → key_at limit work j ≡ v → ⊥
      none_before j h q = go (ltb j (64 * b)) refl
        where
          go : (y : Bool) → ltb j (64 * b) ≡ y → ⊥
          go false y = g.first j (ltb-false j (64 * b) y) h q
          go true y =
              let z : j < 64 * b = ltb-true j (64 * b) y in
              let i : b < 64 = block_inside in
              let x : v ≤ get_or lows (j / 64) 0 = l.least (j / 64) (omega (arith, w.size)) in
              let u : get_or lows (j / 64) 0 ≤ key_at limit work j = (w.block (j / 64) (omega arith)).least j (omega arith) (omega (arith, node_inside)) in
              f.first (j / 64) (omega arith) (omega arith)
