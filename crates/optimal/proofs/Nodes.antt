-- The root of a served assignment is a node, and so are the children of a node; its cost is at most the flowtime of each plan that
-- it covers; and a plan that it covers and that keeps one more constraint is covered by the child with that constraint. Assumes
-- nothing.
use Rattle.std.proofs.Common.{ℕ, ◌≤◌, ◌<◌, ◌≡◌, refl, ◌∙◌, ◌≢◌, ⊎_elim, List, [], ◌∷◌, Option, None, Some, le_refl, set, length-set}
use Rattle.deck.proofs.Members.{Mem, here, there, not-nil, cases_cons, only}
use Rattle.std.proofs.Math.Decide.{ℕ_discrete}
use Rattle.deck.specs.Search.{Problem, Node, task_of, path_at, flowtime, path_or, root_of, child_with, child_node, child}
use Rattle.meaning.proofs.Lists.{length_below, get_or_below}
use Rattle.optimal.specs.Plans.{Rules, Legals, IsPlan, Fits, KeepsAll, KeepsOwn, Under, IsLeast, Served, Laws}
use Rattle.optimal.specs.Nodes.{IsNode, Covers}
use Rattle.optimal.proofs.Sums.{sum_le, set_all}

module _ {Path Constraint : Type 0} (w : Problem Path Constraint) (r : Rules Path Constraint) where
  pub legals : {n : Node Path Constraint} → IsNode w r n → Legals w r n.tasks n.paths
  legals o i h = (o.least i h).0.0

  -- a node costs at most as much as each plan that it covers
  pub covered_cost : (n : Node Path Constraint) (a : List ℕ) (qs : List Path) → IsNode w r n → IsPlan w r a qs → Covers w r n a qs
      → n.cost ≤ flowtime w a qs
  covered_cost n a qs o p v =
      rw (o.cost_is, ← v.same)
      (sum_le w.count _ _ (λ i h. (o.least i h).1 (path_at w qs i) (rw v.same (p.legal i h), v.keeps i h)))

  pub no_fits : Fits w r []
  no_fits c m = absurd (not-nil m)

  no_keeps : (i : ℕ) (q : Path) → KeepsAll w r i q []
  no_keeps i q c m = absurd (not-nil m)

  pub root_covers : (a : List ℕ) (qs : List Path) → Covers w r (root_of w a) a qs
  root_covers a qs = record { same = refl; keeps = λ i h. no_keeps i (path_at w qs i) }

  -- where there is a legal path, the least path without constraints is there
  root_least : (i j : ℕ) (q : Path) → r.Legal i j q → (o : Option Path) → IsLeast w r i j [] o
      → IsLeast w r i j [] (Some (path_or w o))
  root_least i j q g None h = absurd (h q (g, no_keeps i q))
  root_least i j q g (Some p) h = h

module _ {Path Constraint : Type 0} (w : Problem Path Constraint) (r : Rules Path Constraint) (L : Laws w r) where
  pub root_is_node : (a : List ℕ) → r.IsAsg a → Served w r a → IsNode w r (root_of w a)
  root_is_node a ok serve = record {
    assigned = ok;
    fits = no_fits w r;
    a_path_each = length_below w.count _;
    least = λ i h.
        rw (get_or_below w.count (λ k. path_or w (w.least k (task_of w a k) [])) i w.no_path h)
        (root_least w r i (task_of w a i) (serve i h).0 (serve i h).1 (w.least i (task_of w a i) [])
        (L.least i (task_of w a i) [] h (no_fits w r)));
    cost_is = refl;
  }

  -- The child of a node by the constraint c
  module _ (n : Node Path Constraint) (o : IsNode w r n) (c : Constraint) (fit : r.Fit c) where
    abbrev at_bound : ℕ
    at_bound = w.bound c

    abbrev own_task : ℕ
    own_task = task_of w n.tasks at_bound

    -- its constraints
    abbrev bars : List Constraint
    bars = c ∷ n.constraints

    bound_below : at_bound < w.count
    bound_below = L.binds_below c fit

    child_fits : Fits w r bars
    child_fits b m = ⊎_elim (λ e. rw e fit) (λ t. o.fits b t) (cases_cons m)

    own_least : IsLeast w r at_bound own_task bars (w.least at_bound own_task bars)
    own_least = L.least at_bound own_task bars bound_below child_fits

    fewer : (i j : ℕ) (p : Path) → Under w r i j bars p → Under w r i j n.constraints p
    fewer i j p u = (u.0, λ b m. u.1 b (there m))

    -- the path of another carrier stays least
    still_least : (i j : ℕ) (p : Path) → i ≢ at_bound → IsLeast w r i j n.constraints (Some p) → IsLeast w r i j bars (Some p)
    still_least i j p ne h = (
      (h.0.0, λ b m. ⊎_elim (λ e. rw e (L.binds_one c i p ne)) (h.0.1 b) (cases_cons m)),
      λ q u. h.1 q (fewer i j q u),
    )

    -- what holds of the new path, and of the other carriers' old ones, holds of the child's paths
    child_paths : (P : ℕ → Path → Type 0) (p : Path) → P at_bound p → ((i : ℕ) → i < w.count → i ≢ at_bound → P i (path_at w n.paths i))
        → (i : ℕ) → i < w.count → P i (path_at w (set n.paths at_bound p) i)
    child_paths P p = set_all P w.count n.paths at_bound p w.no_path (rw o.a_path_each bound_below)

    new_is_node : (p : Path) → IsLeast w r at_bound own_task bars (Some p) → IsNode w r (child_node w n c p)
    new_is_node p h = record {
      assigned = o.assigned;
      fits = child_fits;
      a_path_each = length-set n.paths at_bound p ∙ o.a_path_each;
      least = child_paths (λ i q. IsLeast w r i (task_of w n.tasks i) bars (Some q)) p h
          (λ i l ne. still_least i _ _ ne (o.least i l));
      cost_is = refl;
    }

    node_cost : (p : Path) → IsLeast w r at_bound own_task bars (Some p) → n.cost ≤ (child_node w n c p).cost
    node_cost p h =
        rw o.cost_is
        (sum_le w.count _ _
        (child_paths
        (λ i q. w.finish (task_of w n.tasks i) (path_at w n.paths i) ≤ w.finish (task_of w n.tasks i) q) p
        ((o.least at_bound bound_below).1 p (fewer at_bound own_task p h.0))
        (λ i l ne. le_refl _)))

    -- what holds of the child by each least path holds of the child
    each_child : (P : Node Path Constraint → Type 0) → ((p : Path) → IsLeast w r at_bound own_task bars (Some p) → P (child_node w n c p))
        → (x : Node Path Constraint) → Mem x (child w n c) → P x
    each_child P f x = go (w.least at_bound own_task bars) own_least
      where
        go : (y : Option Path) → IsLeast w r at_bound own_task bars y → Mem x (child_with w n c y) → P x
        go None h m = absurd (not-nil m)
        go (Some p) h m = rw (only m) (f p h)

    pub child_is_node : (x : Node Path Constraint) → Mem x (child w n c) → IsNode w r x
    child_is_node = each_child (IsNode w r) new_is_node

    -- a child costs at least as much as its parent
    pub child_cost : (x : Node Path Constraint) → Mem x (child w n c) → n.cost ≤ x.cost
    child_cost = each_child (λ x. n.cost ≤ x.cost) node_cost

    -- a plan that the parent covers and that keeps the constraint is covered by the child
    pub child_covers : (a : List ℕ) (qs : List Path) → IsPlan w r a qs → Covers w r n a qs → KeepsOwn w r qs c
        → (x : Node Path Constraint) × Mem x (child w n c) × Covers w r x a qs
    child_covers a qs p v own = go (w.least at_bound own_task bars) own_least
      where
        new : (i : ℕ) → Dec (i ≡ at_bound) → r.Keeps i (path_at w qs i) c
        new i (yes e) = rw e own
        new i (no ne) = L.binds_one c i (path_at w qs i) ne

        keep : (i : ℕ) → i < w.count → KeepsAll w r i (path_at w qs i) bars
        keep i l b m = ⊎_elim (λ e. rw e (new i (ℕ_discrete i at_bound))) (λ t. v.keeps i l b t) (cases_cons m)

        go : (y : Option Path) → IsLeast w r at_bound own_task bars y → (x : Node Path Constraint) × Mem x (child_with w n c y) × Covers w r x a qs
        go None h = absurd (h (path_at w qs at_bound) (rw v.same (p.legal at_bound bound_below), keep at_bound bound_below))
        go (Some q) h = (child_node w n c q, here refl, record { same = v.same; keeps = keep })
