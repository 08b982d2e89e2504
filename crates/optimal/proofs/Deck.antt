-- The deck as an instance of the search: the laws that the parts of its problem keep, where each start is on the grid and the horizon
-- is below the barred entry. Assumes nothing.
use Rattle.std.proofs.Common.{ℕ, zero, suc, ◌≤◌, ◌<◌, ◌≡◌, refl, sym, ap, subst, ◌∙◌, ◌⊎◌, inl, inr, ⊎_elim, ◌≢◌, List, [], ◌∷◌, Option, None, Some, le_of_lt, le_of_eq, lt_trans, arith}
use Rattle.deck.proofs.Members.{Mem, here, there, not-nil}
use Rattle.std.proofs.Math.Decide.{ℕ_discrete}
use Rattle.deck.specs.Lists.{below}
use Rattle.deck.specs.Sheet.{Sheet, area, carrier, task, start_of}
use Rattle.deck.specs.Paths.{finish_of, least_path}
use Rattle.deck.specs.Collisions.{first_collision}
use Rattle.deck.specs.Assignments.{barred, entry_at, entry_of, sum_of, table_of, assignments_in_order}
use Rattle.deck.specs.Search.{path_or, root_of}
use Rattle.deck.specs.Planner.{bound_by, sides, sides_of, problem}
use Rattle.deck.specs.declared.Carrier.{Carrier}
use Rattle.deck.specs.declared.Task.{Task}
use Rattle.deck.specs.declared.Constraint.{Constraint}
use Rattle.deck.specs.declared.Constraint.TheVariants.{Place, Move}
use Rattle.deck.specs.declared.Collision.{Collision}
use Rattle.deck.specs.declared.Collision.TheVariants.{Place as PlaceCollision, Move as MoveCollision}
use Rattle.meaning.specs.Meaning.{◌at◌, Step, Path, Keeps, path_of, Collides, FirstCollision, Assignment, Less}
use Rattle.meaning.specs.Sorted.{Sorted}
use Rattle.meaning.proofs.Constraints.{bound_below}
use Rattle.meaning.proofs.Lists.{mem_below, sum_same, get_or_below}
use Rattle.meaning.proofs.LeastPath.{LeastMeant, least_path_meant}
use Rattle.meaning.proofs.Collisions.{FirstMeant, first_collision_meant, no_first_collides}
use Rattle.meaning.proofs.Assignments.{in_order_meant, in_order_rising, table_at, sum_at}
use Rattle.optimal.specs.Plans.{Legals, IsLeast, Splits, Served, Rising, Laws}
use Rattle.optimal.specs.Deck.{rules}

-- Of paths that do not collide one is not on u at t
split_place : (h : ℕ) (p q : List ℕ) (t u : ℕ) → t ≤ h → ¬ Collides h p q → (p at t ≢ u) ⊎ (q at t ≢ u)
split_place h p q t u l apart = go (ℕ_discrete (p at t) u) (ℕ_discrete (q at t) u)
  where
    go : Dec (p at t ≡ u) → Dec (q at t ≡ u) → (p at t ≢ u) ⊎ (q at t ≢ u)
    go (yes a) (yes b) = absurd (apart (inl (t, u, (l, a, b))))
    go (yes a) (no b) = inr b
    go (no a) b = inl a

-- Of paths that do not collide one does not go its way between u and v
split_move : (h : ℕ) (p q : List ℕ) (t u v : ℕ) → t < h → u ≢ v → ¬ Collides h p q
    → (p at t ≡ u → p at (suc t) ≢ v) ⊎ (q at t ≡ v → q at (suc t) ≢ u)
split_move h p q t u v l ne apart = go (ℕ_discrete (p at t) u) (ℕ_discrete (p at (suc t)) v)
  where
    go : Dec (p at t ≡ u) → Dec (p at (suc t) ≡ v) → (p at t ≡ u → p at (suc t) ≢ v) ⊎ (q at t ≡ v → q at (suc t) ≢ u)
    go (no a) b = inl (λ e. absurd (a e))
    go (yes a) (no b) = inl (λ e. b)
    go (yes a) (yes b) = inr (λ c e. apart (inr (t, u, v, (l, a, b, c, e, ne))))

-- A path that begins on the grid stays on it
pub path_on_grid : {d : Sheet} {i : Carrier} {j : Task} {p : List ℕ} {t : ℕ} → Path d i j p t → start_of d i < area d
    → (u : ℕ) → u ≤ d.horizon → p at u < area d
path_on_grid w on zero h = rw w.begins on
path_on_grid {d} {p} w on (suc u) h = go (w.goes u h) (path_on_grid w on u (le_of_lt h))
  where
    go : Step d (p at u) (p at (suc u)) → p at u < area d → p at (suc u) < area d
    go (inl e) l = subst (λ v. v < area d) e l
    go (inr (f, b)) l = f.on_grid

-- a constraint binds one carrier
binds_one : (c : Constraint) (i : ℕ) (p : List ℕ) → i ≢ bound_by c → Keeps (carrier i) p c
binds_one (Place a u t) i p ne = λ e. absurd (ne (sym e))
binds_one (Move a u v t) i p ne = λ e. absurd (ne (sym e))

module _ (d : Sheet) where
  -- the least path
  least_law : (i j : ℕ) (cs : List Constraint) (o : Option (List ℕ)) → LeastMeant d (carrier i) (task j) cs o → IsLeast (problem d) (rules d) i j cs o
  unfolding problem
  least_law i j cs None h = λ q u. h q (finish_of d (task j) q) (record { path = u.0; keeps = u.1 })
  least_law i j cs (Some p) h = (
    (h.under.path, h.under.keeps),
    λ q u. ⊎_elim le_of_lt (λ e. le_of_eq e.0) (h.first q (finish_of d (task j) q) (record { path = u.0; keeps = u.1 })),
  )

  -- the table's entry for carrier i and task j
  abbrev entry : ℕ → ℕ → ℕ
  entry i j = entry_at d.count (table_of d) i j

  -- an entry that is not barred is the finish of the root's path
  entry_finish : (i j : ℕ) → i < d.count → j < d.count → entry i j ≢ barred
      → finish_of d (task j) (path_or (problem d) (least_path d (carrier i) (task j) [])) ≡ entry i j
  unfolding problem entry_of
  entry_finish i j h l ne = go (least_path d (carrier i) (task j) []) (subst (λ e. e ≢ barred) (table_at d i j h l) ne) ∙ sym (table_at d i j h l)
    where
      go : (o : Option (List ℕ)) → entry_of d (task j) o ≢ barred → finish_of d (task j) (path_or (problem d) o) ≡ entry_of d (task j) o
      go None n = absurd (n refl)
      go (Some p) n = refl

  abbrev ordered : List (List ℕ)
  ordered = assignments_in_order d.count (table_of d)

  -- a root costs the sum of its entries
  root_sum : (a : List ℕ) → Mem a ordered → (root_of (problem d) a).cost ≡ sum_of d.count (table_of d) a
  unfolding problem
  root_sum a m =
      let (ok, open-entries) = (in_order_meant d.count (table_of d) a).0 m in
      sum_same _ _ (below d.count)
      (λ i n.
      let h : i < d.count = (mem_below d.count).0 n in
      ap (finish_of d (task (a at i))) (get_or_below d.count (λ k. path_or (problem d) (least_path d (carrier k) (task (a at k)) [])) i [] h)
      ∙ entry_finish i (a at i) h (ok.tasks i h) (open-entries i h))
      ∙ sym (sum_at d.count (table_of d) a ok.as_many)

  rising : (l : List (List ℕ)) → ((a : List ℕ) → Mem a l → Mem a ordered) → Sorted (Less d.count (table_of d)) l → Rising (problem d) (rules d) l
  rising [] listed h = tt
  rising (a ∷ l) listed h = (λ b m. go b (listed b (there m)) (h.0 b m), rising l (λ b m. listed b (there m)) h.1)
    where
      go : (b : List ℕ) → Mem b ordered → Less d.count (table_of d) a b → (root_of (problem d) a).cost ≤ (root_of (problem d) b).cost
      go b m (inl g) = omega (arith, root_sum a (listed a (here refl)), root_sum b m)
      go b m (inr g) = omega (arith, root_sum a (listed a (here refl)), root_sum b m, g.0)

  -- each start is on the grid
  module _ (on_grid : (i : ℕ) → i < d.count → start_of d (carrier i) < area d) where
    -- the first collision's two constraints
    split_law : (a : List ℕ) (ps : List (List ℕ)) → Legals (problem d) (rules d) a ps
        → (o : Option Collision) → first_collision d.count d.horizon ps ≡ o → Splits (problem d) (rules d) ps (sides_of o)
    unfolding problem sides sides_of
    split_law a ps legal None e = no_first_collides d.count d.horizon ps e
    split_law a ps legal (Some c) e = go c (subst (FirstMeant d.count d.horizon ps) e (first_collision_meant d.count d.horizon ps))
      where
        on : (i t : ℕ) → i < d.count → t ≤ d.horizon → (u : ℕ) → path_of ps i at t ≡ u → u < area d
        on i t h l u e = subst (λ v. v < area d) e (path_on_grid (legal i h) (on_grid i h) t l)

        go : (c : Collision) → FirstCollision d.count d.horizon ps c → Splits (problem d) (rules d) ps (Some (sides c))
        go (PlaceCollision t i j u) f =
            let (below, last, (l, p, q)) = f.collided in
            let first = lt_trans below last in (
              (first, on i.0 t first l u p, l),
              (last, on j.0 t last l u q, l),
              λ qs apart.
                  ⊎_elim (λ n. inl (λ e. n)) (λ n. inr (λ e. n))
                  (split_place d.horizon (path_of qs i.0) (path_of qs j.0) t u l (apart i.0 j.0 below last)),
            )
        go (MoveCollision t i j u v) f =
            let (below, last, (l, p, p', q, q', ne)) = f.collided in
            let first = lt_trans below last in (
              (first, on i.0 t first (le_of_lt l) u p, on i.0 (suc t) first l v p', l),
              (last, on j.0 t last (le_of_lt l) v q, on j.0 (suc t) last l u q', l),
              λ qs apart.
                  ⊎_elim (λ n. inl (λ e. n)) (λ n. inr (λ e. n))
                  (split_move d.horizon (path_of qs i.0) (path_of qs j.0) t u v l ne (apart i.0 j.0 below last)),
            )

    least_meant : (i j : ℕ) (cs : List Constraint) → i < d.count → LeastMeant d (carrier i) (task j) cs (least_path d (carrier i) (task j) cs)
    least_meant i j cs h = least_path_meant d (carrier i) (task j) cs (on_grid i h)

    -- an entry that is not barred has a path
    entry_path : (i j : ℕ) → i < d.count → j < d.count → entry i j ≢ barred → (p : List ℕ) × Path d (carrier i) (task j) p (finish_of d (task j) p)
    unfolding entry_of
    entry_path i j h l ne = go (least_path d (carrier i) (task j) []) (least_meant i j [] h) (subst (λ e. e ≢ barred) (table_at d i j h l) ne)
      where
        go : (o : Option (List ℕ)) → LeastMeant d (carrier i) (task j) [] o → entry_of d (task j) o ≢ barred
            → (p : List ℕ) × Path d (carrier i) (task j) p (finish_of d (task j) p)
        go None m n = absurd (n refl)
        go (Some p) m n = (p, m.under.path)

    sound : (a : List ℕ) → Mem a ordered → Assignment d.count a × Served (problem d) (rules d) a
    unfolding problem
    sound a m =
        let (ok, open-entries) = (in_order_meant d.count (table_of d) a).0 m in
        (ok, λ i h. entry_path i (a at i) h (ok.tasks i h) (open-entries i h))

    -- and no finish is the barred entry
    module _ (short : d.horizon < barred) where
      -- where there is a path, the entry is not barred
      path_entry : (i j : ℕ) → i < d.count → j < d.count → (q : List ℕ) (t : ℕ) → Path d (carrier i) (task j) q t → entry i j ≢ barred
      unfolding entry_of
      path_entry i j h l q t w = subst (λ e. e ≢ barred) (sym (table_at d i j h l)) (go (least_path d (carrier i) (task j) []) (least_meant i j [] h))
        where
          go : (o : Option (List ℕ)) → LeastMeant d (carrier i) (task j) [] o → entry_of d (task j) o ≢ barred
          go None m e = m q t (record { path = w; keeps = λ c n. absurd (not-nil n) })
          go (Some p) m e = omega (arith, m.under.path.finishes.rests.0)

      complete : (a : List ℕ) → Assignment d.count a → Served (problem d) (rules d) a → Mem a ordered
      unfolding problem
      complete a ok serve = (in_order_meant d.count (table_of d) a).1
          (ok, λ i h. let (p, w) = serve i h in path_entry i (a at i) h (ok.tasks i h) p _ w)

      -- The deck keeps the laws of the search
      pub laws : Laws (problem d) (rules d)
      unfolding problem
      laws = record {
        binds_one = binds_one;
        binds_below = bound_below d;
        least = λ i j cs h fits. least_law i j cs (least_path d (carrier i) (task j) cs) (least_meant i j cs h);
        collision = λ a ps legal. split_law a ps legal (first_collision d.count d.horizon ps) refl;
        assignments_sound = sound;
        assignments_all = complete;
        assignments_rising = rising ordered (λ a m. m) (in_order_rising d.count (table_of d));
      }
