-- One round of the Hungarian method: the tree of a row grows over entries of least slack until it reaches a free column, and the
-- way back to the row is turned. Assumes nothing.
use Rattle.std.proofs.Common.{ℕ, zero, suc, ◌+◌, ◌≤◌, ◌<◌, ◌≡◌, refl, sym, ap, subst, ◌∙◌, ◌⊎◌, inl, inr, ⊎_elim, ◌≢◌, Bool, true, false, map, not-suc-le-zero, le_refl, eq-or-lt_of_le, le_of_suc-le-suc, arith}
use Rattle.std.proofs.lemmas.Bool.{cases_lt, cases_Bool}
use Rattle.std.proofs.Math.Decide.{ℕ_discrete}
use Rattle.std.proofs.lemmas.List.{length-map}
use Rattle.deck.specs.Lists.{below}
use Rattle.meaning.specs.Meaning.{◌at◌, Assignment}
use Rattle.meaning.proofs.Lists.{get_or_tabulate, length_count_from}
use Rattle.meaning.proofs.Assignments.{each_assigned}
use Rattle.prices.specs.Matching.{Tight, AtMost, Bounded, Put, Raised, LeastSlack, Matches, Reached, Tree, Turning}

-- only the prices of rows and columns below m count
pub same_prices : (m : ℕ) (c : ℕ → ℕ → ℕ) (r : ℕ) (u v task carrier u' v' : ℕ → ℕ) → Matches m c r u v task carrier
    → ((k : ℕ) → k < m → (u' k ≡ u k) × (v' k ≡ v k)) → Matches m c r u' v' task carrier
same_prices m c r u v task carrier u' v' M h = record {
  feasible = λ i j li lj. omega (arith, M.feasible i j li lj, (h i li).0, (h j lj).1);
  tight = λ j lj l. omega (arith, M.tight j lj l, (h (carrier j) l).0, (h j lj).1);
  task_of = M.task_of;
  carrier_of = M.carrier_of;
  unpriced = λ j lj l. omega (arith, M.unpriced j lj l, (h j lj).1);
  matched = M.matched;
  unmatched = M.unmatched;
}

-- only the rows from which the columns of the tree were reached count
pub same_from : (m : ℕ) (c : ℕ → ℕ → ℕ) (r : ℕ) (u v task carrier : ℕ → ℕ) (rows columns : ℕ → Bool) (from order : ℕ → ℕ) (n : ℕ) (from' : ℕ → ℕ)
    → Tree m c r u v task carrier rows columns from order n → ((k : ℕ) → k < m → columns k ≡ true → from' k ≡ from k)
    → Tree m c r u v task carrier rows columns from' order n
same_from m c r u v task carrier rows columns from order n from' G h = record {
  low = G.low;
  root = G.root;
  row = G.row;
  column = G.column;
  numbered = G.numbered;
  reached = λ k lk e.
      let R = G.reached k lk e in
      let f = h k lk e in
      record {
        low = rw f R.low;
        in_tree = rw f R.in_tree;
        over = rw f R.over;
        earlier = subst (λ (z : ℕ). task z < m → order (task z) < order k) (sym f) R.earlier;
      };
}

module _ (m : ℕ) (c : ℕ → ℕ → ℕ) (r : ℕ) (u v task carrier : ℕ → ℕ) (M : Matches m c r u v task carrier) (lr : r < m) where
  abbrev some_free : ℕ → Type 0
  some_free n = ((k : ℕ) × (k < n) × (m ≤ carrier k)) ⊎ ((k : ℕ) → k < n → carrier k < m)

  look : (n : ℕ) → some_free n
  look zero = inr (λ k l. absurd (not-suc-le-zero l))
  look (suc n) = go (look n) (cases_lt (carrier n) m)
    where
      go : some_free n → (carrier n < m) ⊎ (m ≤ carrier n) → some_free (suc n)
      go (inl (k, l, h)) g = inl (k, omega arith, h)
      go (inr h) (inr g) = inl (n, le_refl (suc n), g)
      go (inr h) (inl g) = inr (λ k l. ⊎_elim (λ e. rw e g) (h k) (eq-or-lt_of_le (le_of_suc-le-suc l)))

  -- while row r has no task, some column has no row: else the carriers of the columns were an assignment without r
  pub free_column : (k : ℕ) × (k < m) × (m ≤ carrier k)
  free_column = ⊎_elim (λ h. h) (λ full. absurd (too_many full)) (look m)
    where
      too_many : ((k : ℕ) → k < m → carrier k < m) → ⊥
      too_many full =
          let c = each_assigned m (map carrier (below m)) all_rows r lr in
          omega (arith, M.unmatched r (le_refl r) lr, M.task_of c.0 c.1 (full c.0 c.1), ap task (sym (there_at c.0 c.1) ∙ c.2))
        where
          there_at : (k : ℕ) → k < m → map carrier (below m) at k ≡ carrier k
          there_at k lk = let z : 0 + k ≡ k = omega arith in get_or_tabulate carrier 0 m k 0 lk ∙ ap carrier z

          all_rows : Assignment m (map carrier (below m))
          all_rows = record {
            as_many = length-map (below m) carrier ∙ length_count_from 0 m;
            tasks = λ k lk. rw (there_at k lk) (full k lk);
            once = λ k n lk ln e.
                sym (M.task_of k lk (full k lk)) ∙ ap task (sym (there_at k lk) ∙ e ∙ there_at n ln) ∙ M.task_of n ln (full n ln);
          }

  -- its price is 0, which bounds all prices by the greatest entry
  pub bounded : Bounded m c u v
  bounded w h k lk = (row k lk, ⊎_elim (λ l. omega (arith, M.tight k lk l, row (carrier k) l)) (λ l. omega (arith, M.unpriced k lk l)) (cases_lt (carrier k) m))
    where
      row : (i : ℕ) → i < m → u i ≤ w
      row i li = let f = free_column in omega (arith, M.feasible i f.0 li f.1, M.unpriced f.0 f.1 f.2, h i f.0 li f.1)

  module _ (rows columns : ℕ → Bool) (from order : ℕ → ℕ) (n : ℕ) (G : Tree m c r u v task carrier rows columns from order n) where
    -- a free column is not in the tree
    pub free_outside : (k : ℕ) → k < m → m ≤ carrier k → columns k ≡ false
    free_outside k lk l = ⊎_elim (λ e. absurd (omega (arith, (G.column k lk e).0))) (λ e. e) (cases_Bool (columns k))

    -- so there is an entry that leads out of the tree
    pub some_outside : (k : ℕ) × (k < m) × (columns k ≡ false)
    some_outside = let f = free_column in (f.0, f.1, free_outside f.0 f.1 f.2)

    -- the row of a column outside the tree is outside the tree
    carrier_outside : (k : ℕ) → k < m → carrier k < m → columns k ≡ false → rows (carrier k) ≡ false
    carrier_outside k lk l out = ⊎_elim (λ e. absurd (inside (G.row (carrier k) l e))) (λ e. e) (cases_Bool (rows (carrier k)))
      where
        inside : (carrier k ≡ r) ⊎ ((task (carrier k) < m) × (columns (task (carrier k)) ≡ true)) → ⊥
        inside (inl e) = omega (arith, M.unmatched r (le_refl r) lr, M.task_of k lk l, ap task e)
        inside (inr (t, e)) = cc (M.task_of k lk l)

    module _ (i j d : ℕ) (L : LeastSlack m c u v rows columns i j d) where
      -- the raised prices fit where the entries fit
      pub rows_fit : (w : ℕ) → AtMost m c w → (x : ℕ) → x < m → rows x ≡ true → u x + d ≤ w
      rows_fit w h x lx e =
          let f = free_column in
          omega (arith, L.least x f.0 lx f.1 e (free_outside f.0 f.1 f.2), M.unpriced f.0 f.1 f.2, h x f.0 lx f.1)

      pub columns_fit : (w : ℕ) → AtMost m c w → (y : ℕ) → y < m → columns y ≡ true → v y + d ≤ w
      columns_fit w h y ly e =
          let t = G.column y ly e in
          omega (arith, M.tight y ly t.0, rows_fit w h (carrier y) t.0 t.1)

      module _ (u' v' : ℕ → ℕ) (U : Raised m rows d u u') (W : Raised m columns d v v') where
        -- what is tight stays tight where both ends are in the tree, or both outside
        inside_tight : (x y : ℕ) → x < m → y < m → rows x ≡ true → columns y ≡ true → Tight c u v x y → Tight c u' v' x y
        inside_tight x y lx ly a b t = omega (arith, U.marked x lx a, W.marked y ly b)

        outside_tight : (x y : ℕ) → x < m → y < m → rows x ≡ false → columns y ≡ false → Tight c u v x y → Tight c u' v' x y
        outside_tight x y lx ly a b t = omega (arith, U.others x lx a, W.others y ly b)

        pub raised_matching : Matches m c r u' v' task carrier
        raised_matching = record {
          feasible = λ x y lx ly. fe x y lx ly (cases_Bool (rows x)) (cases_Bool (columns y));
          tight = λ k lk l. ⊎_elim
              (λ e. let t = G.column k lk e in inside_tight (carrier k) k l lk t.1 e (M.tight k lk l))
              (λ e. outside_tight (carrier k) k l lk (carrier_outside k lk l e) e (M.tight k lk l)) (cases_Bool (columns k));
          task_of = M.task_of;
          carrier_of = M.carrier_of;
          unpriced = λ k lk l. omega (arith, W.others k lk (free_outside k lk l), M.unpriced k lk l);
          matched = M.matched;
          unmatched = M.unmatched;
        }
          where
            fe : (x y : ℕ) → x < m → y < m → (rows x ≡ true) ⊎ (rows x ≡ false) → (columns y ≡ true) ⊎ (columns y ≡ false) → u' x ≤ c x y + v' y
            fe x y lx ly (inl a) (inl b) = omega (arith, U.marked x lx a, W.marked y ly b, M.feasible x y lx ly)
            fe x y lx ly (inl a) (inr b) = omega (arith, U.marked x lx a, W.others y ly b, L.least x y lx ly a b)
            fe x y lx ly (inr a) (inl b) = omega (arith, U.others x lx a, W.marked y ly b, M.feasible x y lx ly)
            fe x y lx ly (inr a) (inr b) = omega (arith, U.others x lx a, W.others y ly b, M.feasible x y lx ly)

        reached_tight : Tight c u' v' i j
        reached_tight = omega (arith, U.marked i L.low_row L.from_row, W.others j L.low_column L.to_column, L.slack)

        module _ (from' order' : ℕ → ℕ) (F : Put from j i from') (O : Put order j n order') where
          -- a column of the tree is another than j
          other_column : (k : ℕ) → columns k ≡ true → k ≢ j
          other_column k e q = cc

          order_kept : (k : ℕ) → columns k ≡ true → order' k ≡ order k
          order_kept k e = O.other k (other_column k e)

          -- the row of the tree that column j was reached from has no column, or one that joined before
          pub new_reached : (rows' : ℕ → Bool) → rows' i ≡ true → Reached m c u' v' task rows' from' order' j
          new_reached rows' e = record {
            low = rw F.same L.low_row;
            in_tree = rw F.same e;
            over = rw F.same reached_tight;
            earlier = λ l. subst (λ (z : ℕ). task z < m → order' (task z) < order' j) (sym F.same) before l;
          }
            where
              before : task i < m → order' (task i) < order' j
              before l = ⊎_elim (λ e. absurd (omega (arith, M.unmatched r (le_refl r) lr, ap task e)))
                  (λ t. omega (arith, order_kept (task i) t.1, O.same, G.numbered (task i) l t.1)) (G.row i L.low_row L.from_row)

          old_reached : (rows' : ℕ → Bool) → ((x : ℕ) → x < m → rows x ≡ true → rows' x ≡ true) → (k : ℕ) → k < m → columns k ≡ true
              → Reached m c u' v' task rows' from' order' k
          old_reached rows' more k lk e =
              let R = G.reached k lk e in
              let f : from' k ≡ from k = F.other k (other_column k e) in
              record {
                low = rw f R.low;
                in_tree = rw f (more (from k) R.low R.in_tree);
                over = rw f (inside_tight (from k) k R.low lk R.in_tree e R.over);
                earlier = subst (λ (z : ℕ). task z < m → order' (task z) < order' k) (sym f) (before R);
              }
            where
              before : Reached m c u v task rows from order k → task (from k) < m → order' (task (from k)) < order' k
              before R l = ⊎_elim (λ q. absurd (omega (arith, M.unmatched r (le_refl r) lr, ap task q)))
                  (λ t. omega (arith, order_kept (task (from k)) t.1, order_kept k e, R.earlier l)) (G.row (from k) R.low R.in_tree)

          -- COLUMN j HAS A ROW: both join the tree
          module _ (rows' columns' : ℕ → Bool) (new_row : rows' (carrier j) ≡ true) (old_row : (x : ℕ) → x < m → x ≢ carrier j → rows' x ≡ rows x)
              (B : Put columns j true columns') (l : carrier j < m) where
            more_rows : (x : ℕ) → x < m → rows x ≡ true → rows' x ≡ true
            more_rows x lx e = go (ℕ_discrete x (carrier j))
              where
                go : Dec (x ≡ carrier j) → rows' x ≡ true
                go (yes q) = rw q new_row
                go (no q) = old_row x lx q ∙ e

            more_columns : (y : ℕ) → columns y ≡ true → columns' y ≡ true
            more_columns y e = B.other y (other_column y e) ∙ e

            pub joined : Tree m c r u' v' task carrier rows' columns' from' order' (suc n)
            joined = record {
              low = lr;
              root = more_rows r lr G.root;
              row = λ x lx e. row x lx e (ℕ_discrete x (carrier j));
              column = λ y ly e. column y ly e (ℕ_discrete y j);
              numbered = λ y ly e. numbered y ly e (ℕ_discrete y j);
              reached = λ y ly e. reached y ly e (ℕ_discrete y j);
            }
              where
                row : (x : ℕ) → x < m → rows' x ≡ true → Dec (x ≡ carrier j) → (x ≡ r) ⊎ ((task x < m) × (columns' (task x) ≡ true))
                row x lx e (yes q) =
                    let t : task x ≡ j = ap task q ∙ M.task_of j L.low_column l in
                    inr (rw t L.low_column, rw t B.same)
                row x lx e (no q) = ⊎_elim (λ z. inl z) (λ z. inr (z.0, more_columns (task x) z.1)) (G.row x lx (sym (old_row x lx q) ∙ e))

                column : (y : ℕ) → y < m → columns' y ≡ true → Dec (y ≡ j) → (carrier y < m) × (rows' (carrier y) ≡ true)
                column y ly e (yes q) = rw q (l, new_row)
                column y ly e (no q) = let t = G.column y ly (sym (B.other y q) ∙ e) in (t.0, more_rows (carrier y) t.0 t.1)

                numbered : (y : ℕ) → y < m → columns' y ≡ true → Dec (y ≡ j) → order' y < suc n
                numbered y ly e (yes q) = rw (q, O.same) (le_refl (suc n))
                numbered y ly e (no q) =
                    let old : columns y ≡ true = sym (B.other y q) ∙ e in
                    omega (arith, order_kept y old, G.numbered y ly old)

                reached : (y : ℕ) → y < m → columns' y ≡ true → Dec (y ≡ j) → Reached m c u' v' task rows' from' order' y
                reached y ly e (yes q) = rw q (new_reached rows' (more_rows i L.low_row L.from_row))
                reached y ly e (no q) = old_reached rows' more_rows y ly (sym (B.other y q) ∙ e)

          -- COLUMN j IS FREE: the way back begins there
          -- the tree as it stood, at the raised prices
          pub last_tree : Tree m c r u' v' task carrier rows columns from' order' n
          last_tree = record {
            low = lr;
            root = G.root;
            row = G.row;
            column = G.column;
            numbered = λ y ly e. rw (order_kept y e) (G.numbered y ly e);
            reached = λ y ly e. old_reached rows (λ x lx q. q) y ly e;
          }

          pub turn_begins : m ≤ carrier j → Turning m c r u' v' task carrier rows columns from' order' task carrier j
          turn_begins l = record {
            low = L.low_column;
            reached = new_reached rows L.from_row;
            tight = λ k lk q lc. N.tight k lk lc;
            task_of = λ k lk q lc. M.task_of k lk lc;
            carrier_of = λ x lx lt. (M.carrier_of x lx lt, λ e. omega (arith, M.carrier_of x lx lt, ap carrier e));
            unpriced = λ k lk q lc. N.unpriced k lk lc;
            matched = M.matched;
            unmatched = M.unmatched;
            ahead = λ k lk e h. refl;
          }
            where
              N : Matches m c r u' v' task carrier
              N = raised_matching

  -- THE WAY BACK: row from j takes column j; its own column is next, or it is r and the round ends
  module _ (rows columns : ℕ → Bool) (from order : ℕ → ℕ) (n : ℕ) (G : Tree m c r u v task carrier rows columns from order n)
      (task₁ carrier₁ : ℕ → ℕ) (j : ℕ) (H : Turning m c r u v task carrier rows columns from order task₁ carrier₁ j) where
    -- the row has the column that it had in the tree
    pub own_column : (from j ≡ r) ⊎ ((task₁ (from j) ≡ task (from j)) × (task (from j) < m) × (columns (task (from j)) ≡ true) × (order (task (from j)) < order j))
    own_column = ⊎_elim (λ e. inl e) (λ t. inr (other t)) (G.row (from j) H.reached.low H.reached.in_tree)
      where
        other : (task (from j) < m) × (columns (task (from j)) ≡ true)
            → (task₁ (from j) ≡ task (from j)) × (task (from j) < m) × (columns (task (from j)) ≡ true) × (order (task (from j)) < order j)
        other (l, e) =
            let k : ℕ = task (from j) in
            let o : order k < order j = H.reached.earlier l in
            let back : carrier₁ k ≡ from j = H.ahead k l e o ∙ M.carrier_of (from j) H.reached.low l in
            let ne : k ≢ j = λ q. absurd (omega (arith, o, ap order q)) in
            (sym (ap task₁ back) ∙ H.task_of k l ne (rw back H.reached.low), l, e, o)

    module _ (task₂ carrier₂ : ℕ → ℕ) (A : Put task₁ (from j) j task₂) (B : Put carrier₁ j (from j) carrier₂) where
      pub turn_ends : m ≤ task₁ (from j) → Matches m c (suc r) u v task₂ carrier₂
      turn_ends end = record {
        feasible = M.feasible;
        tight = λ k lk l. tight k lk l (ℕ_discrete k j);
        task_of = λ k lk l. task_of k lk l (ℕ_discrete k j);
        carrier_of = λ x lx l. carrier_of x lx l (ℕ_discrete x (from j));
        unpriced = λ k lk l. unpriced k lk l (ℕ_discrete k j);
        matched = λ x lx. matched x lx (ℕ_discrete x r);
        unmatched = λ x rx lx. omega (arith, A.other x (λ e. omega (arith, e, is_root)), H.unmatched x (omega arith) lx);
      }
        where
          is_root : from j ≡ r
          is_root = ⊎_elim (λ e. e) (λ t. absurd (omega (arith, t.0, t.1))) own_column

          tight : (k : ℕ) → k < m → carrier₂ k < m → Dec (k ≡ j) → Tight c u v (carrier₂ k) k
          tight k lk l (yes e) = rw (e, B.same) H.reached.over
          tight k lk l (no e) = rw (B.other k e) (H.tight k lk e (rw (B.other k e) at l))

          -- another row than from j keeps its task
          task_of : (k : ℕ) → k < m → carrier₂ k < m → Dec (k ≡ j) → task₂ (carrier₂ k) ≡ k
          task_of k lk l (yes e) = rw (e, B.same) A.same
          task_of k lk l (no e) =
              let l' : carrier₁ k < m = rw (B.other k e) at l in
              let t = H.task_of k lk e l' in
              rw (B.other k e, A.other (carrier₁ k) (λ q. absurd (omega (arith, end, t, ap task₁ q)))) t

          carrier_of : (x : ℕ) → x < m → task₂ x < m → Dec (x ≡ from j) → carrier₂ (task₂ x) ≡ x
          carrier_of x lx l (yes e) = rw (e, A.same) B.same
          carrier_of x lx l (no e) =
              let t = H.carrier_of x lx (rw (A.other x e) at l) in
              rw (A.other x e, B.other (task₁ x) t.1) t.0

          unpriced : (k : ℕ) → k < m → m ≤ carrier₂ k → Dec (k ≡ j) → v k ≡ 0
          unpriced k lk l (yes e) = absurd (omega (arith, ap carrier₂ e, B.same, H.reached.low))
          unpriced k lk l (no e) = H.unpriced k lk e (rw (B.other k e) at l)

          matched : (x : ℕ) → x < suc r → Dec (x ≡ r) → task₂ x < m
          matched x lx (yes e) = rw (e, ← is_root, A.same) H.low
          matched x lx (no e) = rw (A.other x (λ q. e (q ∙ is_root))) (H.matched x (omega arith))

      pub turn_next : task₁ (from j) < m
          → Turning m c r u v task carrier rows columns from order task₂ carrier₂ (task₁ (from j)) × (order (task₁ (from j)) < order j)
      turn_next more = (
        record {
          low = more;
          reached = subst (Reached m c u v task rows from order) (sym same) (G.reached (task (from j)) low_next in_columns);
          tight = λ x lx q l. tight x lx l (ℕ_discrete x j);
          task_of = λ x lx q l. task_of x lx q l (ℕ_discrete x j);
          carrier_of = λ x lx l. carrier_of x lx l (ℕ_discrete x (from j));
          unpriced = λ x lx q l. unpriced x lx l (ℕ_discrete x j);
          matched = λ x lx. matched x lx (ℕ_discrete x (from j));
          unmatched = λ x rx lx. unmatched x rx lx (ℕ_discrete x (from j));
          ahead = λ x lx e h. ahead x lx e (rw same at h);
        },
        rw same sooner,
      )
        where
          own : (task₁ (from j) ≡ task (from j)) × (task (from j) < m) × (columns (task (from j)) ≡ true) × (order (task (from j)) < order j)
          own = ⊎_elim (λ e. absurd (omega (arith, H.unmatched r (le_refl r) lr, ap task₁ e))) (λ t. t) own_column

          same : task₁ (from j) ≡ task (from j)
          same = own.0

          low_next : task (from j) < m
          low_next = own.1

          in_columns : columns (task (from j)) ≡ true
          in_columns = own.2

          sooner : order (task (from j)) < order j
          sooner = own.3

          -- the row from j had this column, and no other has it now
          back : carrier₁ (task₁ (from j)) ≡ from j
          back = (H.carrier_of (from j) H.reached.low more).0

          another : j ≢ task₁ (from j)
          another e = (H.carrier_of (from j) H.reached.low more).1 (sym e)

          tight : (x : ℕ) → x < m → carrier₂ x < m → Dec (x ≡ j) → Tight c u v (carrier₂ x) x
          tight x lx l (yes e) = rw (e, B.same) H.reached.over
          tight x lx l (no e) = rw (B.other x e) (H.tight x lx e (rw (B.other x e) at l))

          task_of : (x : ℕ) → x < m → x ≢ task₁ (from j) → carrier₂ x < m → Dec (x ≡ j) → task₂ (carrier₂ x) ≡ x
          task_of x lx q l (yes e) = rw (e, B.same) A.same
          task_of x lx q l (no e) =
              let t = H.task_of x lx e (rw (B.other x e) at l) in
              rw (B.other x e, A.other (carrier₁ x) (λ z. q (sym t ∙ ap task₁ z))) t

          carrier_of : (x : ℕ) → x < m → task₂ x < m → Dec (x ≡ from j) → (carrier₂ (task₂ x) ≡ x) × (task₂ x ≢ task₁ (from j))
          carrier_of x lx l (yes e) = rw (e, A.same) (B.same, another)
          carrier_of x lx l (no e) =
              let t = H.carrier_of x lx (rw (A.other x e) at l) in
              rw (A.other x e, B.other (task₁ x) t.1) (t.0, λ z. e (sym t.0 ∙ ap carrier₁ z ∙ back))

          unpriced : (x : ℕ) → x < m → m ≤ carrier₂ x → Dec (x ≡ j) → v x ≡ 0
          unpriced x lx l (yes e) = absurd (omega (arith, ap carrier₂ e, B.same, H.reached.low))
          unpriced x lx l (no e) = H.unpriced x lx e (rw (B.other x e) at l)

          matched : (x : ℕ) → x < r → Dec (x ≡ from j) → task₂ x < m
          matched x lx (yes e) = rw (e, A.same) H.low
          matched x lx (no e) = rw (A.other x e) (H.matched x lx)

          unmatched : (x : ℕ) → r ≤ x → x < m → Dec (x ≡ from j) → m ≤ task₂ x
          unmatched x rx lx (yes e) = absurd (omega (arith, more, ap task₁ e, H.unmatched x rx lx))
          unmatched x rx lx (no e) = rw (A.other x e) (H.unmatched x rx lx)

          ahead : (x : ℕ) → x < m → columns x ≡ true → order x < order (task (from j)) → carrier₂ x ≡ carrier x
          ahead x lx e h = B.other x (λ q. omega (arith, ap order q, sooner)) ∙ H.ahead x lx e (omega (arith, sooner))
