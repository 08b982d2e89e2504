-- Children and roots: their records are sound and stand for the nodes of the search's definition. Assumes nothing.
use Rattle.std.specs.Prelude.{Some}
use Rattle.std.proofs.Common.{◌≡◌, refl, sym, ◌∙◌, ap, ap₂, subst, Bool, true, false, List, [], ◌∷◌, ℕ, ◌+◌, ◌*◌, ◌-◌, ◌<◌, ◌≤◌, ◌%◌, zero-add, add-one, arith, eqb, ltb, length, get_or, set, take, replicate, length-append, take_at, get_or-append-add, ne_eqb, ltb-true, ltb-false}
use Rattle.deck.proofs.Members.{Mem}
use Rattle.std.proofs.Math.Decide.{ℕ_discrete}
use Rattle.std.proofs.Math.ListN.{get_or-eq_default}
use Rattle.std.proofs.lemmas.List.{length-replicate, get_or-replicate, get_or_append_left}
use Rattle.deck.specs.Lists.{sum}
use Rattle.deck.specs.Sheet.{Sheet, carrier, task, start_of}
use Rattle.deck.specs.Paths.{walks, least_path, finish_of}
use Rattle.deck.specs.Search.{flowtime, root_paths, root_of, child_node}
use Rattle.deck.specs.Planner.{problem, bound_by}
use Rattle.deck.specs.Calls.{task_list}
use Rattle.deck.specs.declared.Constraint.{Constraint}
use Rattle.pack.specs.Pack.{pack_of}
use Rattle.pack.proofs.Trips.{length_pack}
use Rattle.records.specs.Record.{fields, fields_at, link_in, root_in, own_in, tasks_in, finishes_in, words_of, Small, with_path, child_fields, with_key, Wrote}
use Rattle.records.proofs.Frames.{length_field, wrote_then}
use Rattle.records.proofs.Words.{held_again}
use Rattle.nodes.specs.Nodes.{upward, constraints_at, stored_path, stored_paths, assignment_of, cost_of, node_of, node_at}
use Rattle.meaning.proofs.Constraints.{bound_below}
use Rattle.nodes.specs.Stored.{Fits, Sound, Stored, Added, ChildOf, RootSoFar}
use Rattle.nodes.proofs.Tables.{map_same, map_set}
use Rattle.nodes.proofs.Grid.{least_walk}
use Rattle.nodes.proofs.Adds.{added, PathSet, finish_here, finish_other, finishes_long, path_other, path_here}

-- a node by its parts
pub node_is : (d : Sheet) (fs : List (List ℕ)) (cs : List Constraint) (r : Bool) (a : List ℕ) (ks : List Constraint) (ps : List (List ℕ)) → root_in fs ≡ r → assignment_of d fs ≡ a → cs ≡ ks → stored_paths d fs ≡ ps
    → node_of d fs cs ≡ record { root = r; tasks = a; constraints = ks; paths = ps; cost = flowtime (problem d) a ps }
unfolding node_of cost_of
node_is d fs cs r a ks ps e f g h = rw (e, f, g, h)

-- the other fields stay
path_set : (work : List ℕ) (n i t : ℕ) (packed : List ℕ) → PathSet (fields_at work n) (with_path (fields_at work n) i t packed) i t packed
unfolding fields_at fields
path_set work n i t packed = record { finishes = refl; paths = refl }

path_link : (work : List ℕ) (n i t : ℕ) (packed : List ℕ) → link_in (with_path (fields_at work n) i t packed) ≡ link_in (fields_at work n)
unfolding fields_at fields
path_link work n i t packed = refl

path_own : (work : List ℕ) (n i t : ℕ) (packed : List ℕ) → own_in (with_path (fields_at work n) i t packed) ≡ own_in (fields_at work n)
unfolding fields_at fields
path_own work n i t packed = refl

path_tasks : (work : List ℕ) (n i t : ℕ) (packed : List ℕ) → tasks_in (with_path (fields_at work n) i t packed) ≡ tasks_in (fields_at work n)
unfolding fields_at fields
path_tasks work n i t packed = refl

child_set : (work : List ℕ) (n : ℕ) (c : Constraint) (i t : ℕ) (packed : List ℕ) → PathSet (fields_at work n) (child_fields (fields_at work n) n c i t packed) i t packed
unfolding fields_at fields
child_set work n c i t packed = record { finishes = refl; paths = refl }

child_link : (work : List ℕ) (n : ℕ) (c : Constraint) (i t : ℕ) (packed : List ℕ) → link_in (child_fields (fields_at work n) n c i t packed) ≡ n + 1
unfolding fields_at fields
child_link work n c i t packed = refl

child_own : (work : List ℕ) (n : ℕ) (c : Constraint) (i t : ℕ) (packed : List ℕ) → own_in (child_fields (fields_at work n) n c i t packed) ≡ c
unfolding fields_at fields
child_own work n c i t packed = held_again c

child_tasks : (work : List ℕ) (n : ℕ) (c : Constraint) (i t : ℕ) (packed : List ℕ) → tasks_in (child_fields (fields_at work n) n c i t packed) ≡ tasks_in (fields_at work n)
unfolding fields_at fields
child_tasks work n c i t packed = refl

-- A CHILD
module _ (d : Sheet) (limit : ℕ) (work : List ℕ) (made n i : ℕ) (c : Constraint) (t : ℕ) (p : List ℕ) (h : 512 * n + 512 ≤ length work) (b : n < made) (small : Small c)
    (g : ChildOf d limit work made n i c t p) where
  abbrev parent : List (List ℕ)
  parent = fields_at work n

  abbrev words : List ℕ
  words = pack_of d.width d.horizon p

  abbrev kid : List (List ℕ)
  kid = child_fields parent n c i t words

  inside : i < d.count
  inside = rw (← g.binds) (bound_below d c g.good)

  few : i < 12
  few = omega (arith, inside, g.fits.count)

  ways : PathSet parent kid i t words
  ways = child_set work n c i t words

  long3 : length (get_or parent 3 []) ≡ 12
  long3 = length_field work n 3 (omega arith) h

  long7 : length (get_or parent 7 []) ≡ 240
  long7 = length_field work n 7 (omega arith) h

  old : Sound d n parent
  old = g.stored.sound n b

  here : stored_path d kid i ≡ p
  here = path_here ways few long3 long7 (length_pack d.width d.horizon p) d p g.fits inside g.walk refl

  other : (k : ℕ) → (k ≡ i → ⊥) → stored_path d kid k ≡ stored_path d parent k
  other k ne = path_other ways few long3 long7 (length_pack d.width d.horizon p) d k ne

  tasks : tasks_in kid ≡ tasks_in parent
  tasks = child_tasks work n c i t words

  kid_sound : Sound d made kid
  kid_sound =
      record {
        earlier = omega (arith, child_link work n c i t words);
        small = rw (child_own work n c i t words) small;
        good = λ x. rw (child_own work n c i t words) g.good;
        bytes = λ k. rw tasks (old.bytes k);
        past = λ k x y. rw tasks (old.past k x y);
        finishes = λ k x. rw tasks (finishes k x (ℕ_discrete k i));
        zeros = λ k x. finish_other ways few long3 long7 (length_pack d.width d.horizon p) k (λ z. omega (arith, inside)) ∙ old.zeros k x;
        paths = λ k x. walk k x (ℕ_discrete k i);
      }
    where
      finishes : (k : ℕ) → k < d.count → Dec (k ≡ i) → get_or (finishes_in kid) k 0 ≡ finish_of d (task (get_or (tasks_in parent) k 0)) (stored_path d kid k)
      finishes k x (yes z) = rw (z, here) (finish_here ways few long3 long7 (length_pack d.width d.horizon p) ∙ g.finish)
      finishes k x (no z) = rw (other k z) (finish_other ways few long3 long7 (length_pack d.width d.horizon p) k z ∙ old.finishes k x)

      walk : (k : ℕ) → k < d.count → Dec (k ≡ i) → Mem (stored_path d kid k) (walks d d.horizon (start_of d (carrier k)))
      walk k x (yes z) = rw (z, here) g.walk
      walk k x (no z) = rw (other k z) (old.paths k x)

  kid_paths : stored_paths d kid ≡ set (stored_paths d parent) i p
  kid_paths =
      map_set (stored_path d parent) (stored_path d kid) 0 d.count i p (ap (stored_path d kid) (zero-add i) ∙ here)
      (λ k ne. other k (λ z. ne (z ∙ sym (zero-add i))))

  kid_node : node_of d kid (upward (own_in kid) (link_in kid) (constraints_at work)) ≡ child_node (problem d) (node_at d work n) c p
  unfolding node_of problem
  kid_node =
      node_is d kid (upward (own_in kid) (link_in kid) (constraints_at work)) false (assignment_of d parent) (c ∷ constraints_at work n) (set (stored_paths d parent) (bound_by c) p)
      (ap (λ (x : ℕ). eqb x 0) (child_link work n c i t words) ∙ ne_eqb (n + 1) 0 (λ z. omega arith))
      (ap (take d.count) tasks)
      (ap₂ (λ (x : Constraint) (y : ℕ). upward x y (constraints_at work)) (child_own work n c i t words) (child_link work n c i t words ∙ add-one n))
      (kid_paths ∙ ap (λ (j : ℕ). set (stored_paths d parent) j p) (sym g.binds))

  -- the child is made
  pub child_added : (mid after : List ℕ) (v : ℕ) → made < limit → limit ≤ 4096 → 512 * limit + 4096 ≤ length mid → Wrote work mid made kid → v ≡ sum (finishes_in kid) % 4294967296
      → after ≡ with_key limit made v mid → Added d limit work after made (child_node (problem d) (node_at d work n) c p)
  child_added mid after v m l r u e q =
      added d limit work mid after made kid v g.fits g.stored u kid_sound m l r (finishes_long ways few long3 long7 (length_pack d.width d.horizon p)) e q
      (child_node (problem d) (node_at d work n) c p) kid_node

-- A ROOT, one path after another
module _ (d : Sheet) where
  -- only the record of the root is read
  pub root_same : (before after : List ℕ) (n : ℕ) (a : List ℕ) (i : ℕ) → fields_at after n ≡ fields_at before n → RootSoFar d before n a i → RootSoFar d after n a i
  root_same before after n a i e r =
      record {
        link = rw e r.link;
        own = rw e r.own;
        tasks = rw e r.tasks;
        long = r.long;
        bytes = r.bytes;
        least = λ k h. rw e (r.least k h);
        finishes = λ k h. rw e (r.finishes k h);
        zeros = λ k h. rw e (r.zeros k h);
      }

  module _ (before after : List ℕ) (n : ℕ) (a : List ℕ) (i t : ℕ) (p : List ℕ) (f : Fits d) (h : 512 * n + 512 ≤ length before) (b : i < d.count)
      (u : Wrote before after n (with_path (fields_at before n) i t (pack_of d.width d.horizon p)))
      (e : least_path d (carrier i) (task (get_or a i 0)) [] ≡ Some p) (q : t ≡ finish_of d (task (get_or a i 0)) p) (r : RootSoFar d before n a i) where
    ways_set : PathSet (fields_at before n) (fields_at after n) i t (pack_of d.width d.horizon p)
    ways_set = rw u.here (path_set before n i t (pack_of d.width d.horizon p))

    packs : length (pack_of d.width d.horizon p) ≡ 20
    packs = length_pack d.width d.horizon p

    few_roots : i < 12
    few_roots = omega (arith, f.count)

    three : length (get_or (fields_at before n) 3 []) ≡ 12
    three = length_field before n 3 (omega arith) h

    seven : length (get_or (fields_at before n) 7 []) ≡ 240
    seven = length_field before n 7 (omega arith) h

    at_i : stored_path d (fields_at after n) i ≡ p
    at_i = path_here ways_set few_roots three seven packs d p f b (least_walk d (carrier i) (task (get_or a i 0)) [] p e) refl

    at_k : (k : ℕ) → (k ≡ i → ⊥) → stored_path d (fields_at after n) k ≡ stored_path d (fields_at before n) k
    at_k k ne = path_other ways_set few_roots three seven packs d k ne

    -- one path more
    pub root_more : RootSoFar d after n a (i + 1)
    root_more =
        record {
          link = ap link_in u.here ∙ path_link before n i t (pack_of d.width d.horizon p) ∙ r.link;
          own = rw (u.here, path_own before n i t (pack_of d.width d.horizon p)) r.own;
          tasks = ap tasks_in u.here ∙ path_tasks before n i t (pack_of d.width d.horizon p) ∙ r.tasks;
          long = r.long;
          bytes = r.bytes;
          least = λ k x. least k (ℕ_discrete k i) x;
          finishes = λ k x. finishes k (ℕ_discrete k i) x;
          zeros = λ k x. finish_other ways_set few_roots three seven packs k (λ z. omega arith) ∙ r.zeros k (omega arith);
        }
      where
        least : (k : ℕ) → Dec (k ≡ i) → k < i + 1 → least_path d (carrier k) (task (get_or a k 0)) [] ≡ Some (stored_path d (fields_at after n) k)
        least k (yes z) x = rw (z, at_i) e
        least k (no z) x = rw (at_k k z) (r.least k (omega arith))

        finishes : (k : ℕ) → Dec (k ≡ i) → k < i + 1 → get_or (finishes_in (fields_at after n)) k 0 ≡ finish_of d (task (get_or a k 0)) (stored_path d (fields_at after n) k)
        finishes k (yes z) x = rw (z, at_i) (finish_here ways_set few_roots three seven packs ∙ q)
        finishes k (no z) x = rw (at_k k z) (finish_other ways_set few_roots three seven packs k z ∙ r.finishes k (omega arith))

  -- all paths are written
  module _ (limit : ℕ) (work : List ℕ) (made : ℕ) (a : List ℕ) (f : Fits d) (s : Stored d limit work made) (r : RootSoFar d work made a d.count) where
    abbrev root : List (List ℕ)
    root = fields_at work made

    root_task : (k : ℕ) → k < d.count → get_or (tasks_in root) k 0 ≡ get_or a k 0
    root_task k h = rw r.tasks (get_or_append_left a (replicate (12 - length a) 255) 0 k (omega (arith, r.long)))

    past_task : (k : ℕ) → d.count ≤ k → k < 12 → get_or (tasks_in root) k 0 ≡ 255
    past_task k h b =
        let e : length a + (k - length a) ≡ k = omega (arith, r.long) in
        rw r.tasks
        (rw e at (get_or-append-add a (replicate (12 - length a) 255) (k - length a) 0)
        ∙ get_or-replicate (12 - length a) (k - length a) 255 0 (omega (arith, r.long)))

    byte_task : (k : ℕ) → get_or (tasks_in root) k 0 < 256
    byte_task k = go (ltb k d.count) refl (ltb k 12) refl
      where
        go : (x : Bool) → ltb k d.count ≡ x → (y : Bool) → ltb k 12 ≡ y → get_or (tasks_in root) k 0 < 256
        go true e y g = rw (root_task k (ltb-true k d.count e)) (r.bytes k)
        go false e true g = omega (arith, past_task k (ltb-false k d.count e) (ltb-true k 12 g))
        go false e false g =
            let l : length (task_list a) ≡ 12 = length-append a (replicate (12 - length a) 255) ∙ rw (length-replicate {A = ℕ} (12 - length a) 255) (omega (arith, r.long, f.count)) in
            rw (r.tasks, get_or-eq_default (task_list a) 0 {n = k} (omega (arith, ltb-false k 12 g))) (omega arith)

    root_sound : Sound d made root
    root_sound =
        record {
          earlier = omega (arith, r.link);
          small = r.own;
          good = λ x. absurd (omega (arith, r.link));
          bytes = byte_task;
          past = past_task;
          finishes = λ k h. rw (root_task k h) (r.finishes k h);
          zeros = r.zeros;
          paths = λ k h. least_walk d (carrier k) (task (get_or a k 0)) [] (stored_path d root k) (r.least k h);
        }

    root_node : node_of d root (upward (own_in root) (link_in root) (constraints_at work)) ≡ root_of (problem d) a
    unfolding problem
    root_node =
        let ps : stored_paths d root ≡ root_paths (problem d) a = map_same (stored_path d root) _ 0 d.count (λ k x y. rw (r.least k (omega arith))) in
        let ts : assignment_of d root ≡ a = rw r.tasks (take_at a (replicate (12 - length a) 255) d.count r.long) in
        node_is d root (upward (own_in root) (link_in root) (constraints_at work)) true a [] (root_paths (problem d) a)
        (rw r.link) ts (rw r.link) ps

    pub root_added : (after : List ℕ) (v : ℕ) → made < limit → limit ≤ 4096 → 512 * limit + 4096 ≤ length work → v ≡ sum (finishes_in root) % 4294967296 → after ≡ with_key limit made v work
        → Added d limit work after made (root_of (problem d) a)
    root_added after v m c h e q =
        added d limit work work after made root v f s (record { here = refl; records = λ k ne. refl; keys = λ l k b. refl }) root_sound m c h
        (length_field work made 3 (omega arith) (omega arith)) e q (root_of (problem d) a) root_node

-- the three writes of a child's record
pub child_wrote : (before a b c : List ℕ) (made n : ℕ) (k : Constraint) (i t : ℕ) (packed : List ℕ) → Wrote before a made (fields_at before n)
    → Wrote a b made (set (set (fields_at a made) 0 ((n + 1) ∷ [])) 1 (words_of k)) → Wrote b c made (with_path (fields_at b made) i t packed)
    → Wrote before c made (child_fields (fields_at before n) n k i t packed)
child_wrote before a b c made n k i t packed u v w =
    wrote_then before b c made (λ fs. with_path fs i t packed) (set (set (fields_at before n) 0 ((n + 1) ∷ [])) 1 (words_of k))
    (wrote_then before a b made (λ fs. set (set fs 0 ((n + 1) ∷ [])) 1 (words_of k)) (fields_at before n) u v) w

-- the writes of a child's record and of its key
pub child_made : (d : Sheet) (limit : ℕ) (work a b mid after : List ℕ) (made n i : ℕ) (k : Constraint) (t : ℕ) (p : List ℕ) (w last : ℕ) → d.width ≡ w → d.horizon ≡ last
    → n < made → made < limit → limit ≤ 4096 → 512 * limit + 4096 ≤ length work → Small k → length mid ≡ length work → Wrote work a made (fields_at work n)
    → Wrote a b made (set (set (fields_at a made) 0 ((n + 1) ∷ [])) 1 (words_of k)) → Wrote b mid made (with_path (fields_at b made) i t (pack_of w last p))
    → after ≡ with_key limit made (sum (finishes_in (fields_at mid made)) % 4294967296) mid → ChildOf d limit work made n i k t p
    → Added d limit work after made (child_node (problem d) (node_at d work n) k p)
child_made d limit work a b mid after made n i k t p w last ew eh l m c h small s u v x e g =
    let fs : List (List ℕ) = child_fields (fields_at work n) n k i t (pack_of d.width d.horizon p) in
    let y : Wrote work mid made (child_fields (fields_at work n) n k i t (pack_of w last p)) = child_wrote work a b mid made n k i t (pack_of w last p) u v x in
    let z : Wrote work mid made fs =
    subst (λ (j : ℕ). Wrote work mid made (child_fields (fields_at work n) n k i t (pack_of j d.horizon p))) (sym ew)
    (subst (λ (j : ℕ). Wrote work mid made (child_fields (fields_at work n) n k i t (pack_of w j p))) (sym eh) y) in
    child_added d limit work made n i k t p (omega arith) l small g mid after (sum (finishes_in (fields_at mid made)) % 4294967296) m c (omega arith) z
    (ap (λ (q : List (List ℕ)). sum (finishes_in q) % 4294967296) z.here) e
