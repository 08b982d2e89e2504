-- A round over arrays: the tree of a row begins, grows by the nearest column, and reaches a free one; the way back goes a step, and
-- ends. Assumes nothing.
use Rattle.std.proofs.Common.{Option, None, Some, get_or, ℕ, suc, ◌+◌, ◌-◌, ◌≤◌, ◌<◌, ◌^◌, zero-le, ◌≡◌, refl, sym, ap, subst, ◌∙◌, ◌⊎◌, inl, inr, ⊎_elim, ◌≢◌, Bool, true, false, cond, List, not-suc-le-zero, le_refl, arith, length, set, replicate, length-set, get_or-set_same, get_or-set_other, eqb, eq-eqb, ne_eqb}
use Rattle.std.proofs.lemmas.Bool.{false≢true, cases_lt, cases_Bool}
use Rattle.std.proofs.Math.Decide.{ℕ_discrete}
use Rattle.std.proofs.lemmas.List.{get_or-replicate}
use Rattle.std.proofs.Math.ListN.{get_or-eq_default}
use Rattle.meaning.specs.Meaning.{◌at◌}
use Rattle.prices.specs.Matching.{Put, Raised, LeastSlack, Matches, Tree, Bounded}
use Rattle.prices.specs.Square.{cell}
use Rattle.prices.proofs.Growth.{same_prices, same_from, bounded, some_outside, rows_fit, columns_fit, raised_matching, joined, last_tree, turn_begins, turn_ends, turn_next}
use Rattle.std.proofs.lemmas.List.{map-set, length-map}
use Rattle.std.proofs.lemmas.Option.{none-some}
use Rattle.meaning.proofs.Lists.{get_or_same}
use Rattle.deck.specs.declared.Carrier.{Carrier}
use Rattle.deck.specs.declared.Task.{Task}
use Rattle.hungarian.specs.declared.Column.{Column}
use Rattle.hungarian.specs.declared.Pairs.{Pairs}
use Rattle.hungarian.specs.declared.Edge.{Edge}
use Rattle.hungarian.specs.Solving.{task_number, carrier_number, task_numbers, carrier_numbers, froms, paired, Within, marked, unmarked, farthest, slack_of, Slacks, Relaxed, Closest, in_tree, way_to, gain_of, row_gain, row_price, column_price, Light, Solved, Grown, Way, Reaches}
use Rattle.hungarian.proofs.Columns.{blank, from_at, column_kept, column_moved}
use Rattle.hungarian.proofs.Gains.{task_at, put_set, unmarked_set, tree_root, tree_column, tree_none, tree_row, way_root, way_column, gain_in, gain_out}

none_marked : (k : ℕ) → marked (replicate 12 false) k ≡ false
none_marked k = ⊎_elim (λ l. get_or-replicate 12 k false false l) (λ l. get_or-eq_default (replicate 12 false) false l) (cases_lt k 12)

put_at : (ℕ → ℕ) → ℕ → ℕ → ℕ → ℕ
put_at f k x i = cond (eqb i k) x (f i)

put_at_lem : (f : ℕ → ℕ) (k x : ℕ) → Put f k x (put_at f k x)
unfolding put_at
put_at_lem f k x = record { same = rw (eq-eqb k k refl); other = λ i n. rw (ne_eqb i k n) }

no_put : (f : ℕ → ℕ) (k : ℕ) → Put f k (f k) f
no_put f k = record { same = refl; other = λ i n. refl }

-- what is not marked gains nothing
no_gain : (b : Bool) (near total : ℕ) → b ≡ false → gain_of b near total ≡ 0
no_gain b near total h = rw h

some_gain : (b : Bool) (near total : ℕ) → b ≡ true → gain_of b near total ≡ total - near
some_gain b near total h = rw h

-- nor does anything at the length 0
gain_zero : (b : Bool) (near : ℕ) → gain_of b near 0 ≡ 0
gain_zero true near = omega arith
gain_zero false near = refl

row_gain_zero : (m r : ℕ) (task : List ℕ) (columns : List Bool) (near : List ℕ) (x : ℕ) → row_gain m r task columns near 0 x ≡ 0
unfolding row_gain
row_gain_zero m r task columns near x = gain_zero (in_tree m r task columns x) (way_to r task near x)

module _ (m : ℕ) (w : List ℕ) (r : ℕ) (small : m ≤ 12) (low : r < m) (light : Light m w) (u v task carrier : List ℕ) (S : Solved m w r u v task carrier) where
  -- all slacks can be reckoned
  pub slacks : Slacks m w u v
  slacks i j li lj =
      let b = S.bounded 9223372036854775807 light j lj in
      (S.matches.feasible i j li lj, omega (arith, b.1, light i j li lj))

  -- row r is the whole tree
  pub grown_begins : (from : List ℕ) → length from ≡ 12 → Grown m w r u v task carrier (replicate 12 false) (replicate 12 farthest) from 0 r
  grown_begins from e = record {
    order = λ k. 0;
    n = 0;
    matches = same_prices m (cell w) r (◌at◌ u) (◌at◌ v) (◌at◌ task) (◌at◌ carrier) (row_price m r u task (replicate 12 false) (replicate 12 farthest) 0)
        (column_price v (replicate 12 false) (replicate 12 farthest) 0) S.matches
        (λ k l. (
          omega (arith, row_gain_zero m r task (replicate 12 false) (replicate 12 farthest) k),
          omega (arith, gain_zero (marked (replicate 12 false) k) (replicate 12 farthest at k)),
        ));
    tree = record {
      low = low;
      root = tree_root m r task (replicate 12 false);
      row = λ x lx h. tree_row m r task (replicate 12 false) x h;
      column = λ y ly h. absurd (false≢true (sym (none_marked y) ∙ h));
      numbered = λ y ly h. absurd (false≢true (sym (none_marked y) ∙ h));
      reached = λ y ly h. absurd (false≢true (sym (none_marked y) ∙ h));
    };
    count = refl;
    early = λ y ly h. absurd (false≢true (sym (none_marked y) ∙ h));
    late = λ y ly h. zero-le;
    least = λ x y lx ly h n out. ⊎_elim (λ q. absurd (n q)) (λ q. absurd (false≢true (sym (none_marked (task at x)) ∙ q.1))) (tree_row m r task (replicate 12 false) x h);
    exact = λ y ly h. inl (get_or-replicate 12 y farthest 0 (omega arith), refl);
    newest = (low, tree_root m r task (replicate 12 false), way_root r task (replicate 12 farthest));
    sizes = (refl, e, refl);
  }

  module _ (columns : List Bool) (near from : List ℕ) (total i : ℕ) (G : Grown m w r u v task carrier columns near from total i)
      (near' from' : List ℕ) (e : Edge) (R : Relaxed m w u v columns total i near from near' from') (C : Closest columns near' m e) where
    abbrev rows : ℕ → Bool
    rows = in_tree m r task columns

    abbrev U : ℕ → ℕ
    U = row_price m r u task columns near total

    abbrev Y : ℕ → ℕ
    Y = column_price v columns near total

    abbrev M : Matches m (cell w) r U Y (◌at◌ task) (◌at◌ carrier)
    M = G.matches

    T' : Tree m (cell w) r U Y (◌at◌ task) (◌at◌ carrier) rows (marked columns) (◌at◌ from') G.order G.n
    T' = same_from m (cell w) r U Y (◌at◌ task) (◌at◌ carrier) rows (marked columns) (◌at◌ from) G.order G.n (◌at◌ from') G.tree
        (λ k lk h. (column_kept m w u v columns total i near from near' from' R k lk h).1)

    -- the ways to the rows of the tree are final
    way_kept : (x : ℕ) → rows x ≡ true → way_to r task near' x ≡ way_to r task near x
    way_kept x h = go (ℕ_discrete x r)
      where
        go : Dec (x ≡ r) → way_to r task near' x ≡ way_to r task near x
        go (yes q) = rw q (way_root r task near' ∙ sym (way_root r task near))
        go (no q) = ⊎_elim (λ z. absurd (q z))
            (λ z. way_column r task near' x q ∙ (column_kept m w u v columns total i near from near' from' R (task at x) z.0 z.1).0 ∙ sym (way_column r task near x q))
            (tree_row m r task columns x h)

    -- and no longer than total
    way_early : (x : ℕ) → rows x ≡ true → way_to r task near x ≤ total
    way_early x h = go (ℕ_discrete x r)
      where
        go : Dec (x ≡ r) → way_to r task near x ≤ total
        go (yes q) = rw q (omega (arith, way_root r task near))
        go (no q) = ⊎_elim (λ z. absurd (q z)) (λ z. omega (arith, way_column r task near x q, G.early (task at x) z.0 z.1)) (tree_row m r task columns x h)

    -- the newest row's ways
    newest_way : (y : ℕ) → y < m → u at i + slack_of w u v i y ≡ cell w i y + v at y
    newest_way y ly = omega (arith, (slacks i y G.newest.0 ly).0)

    reach : (y : ℕ) → y < m → marked columns y ≡ false
        → (from' at y < m) × (rows (from' at y) ≡ true) × (u at (from' at y) + near' at y ≡ way_to r task near (from' at y) + (cell w (from' at y) y + v at y)) × (near' at y < farthest)
    reach y ly h = go (column_moved m w u v columns total i near from near' from' R y ly h) (G.exact y ly h)
      where
        P : ℕ → ℕ → Type 0
        P f d = (f < m) × (rows f ≡ true) × (u at f + d ≡ way_to r task near f + (cell w f y + v at y)) × (d < farthest)

        at_column : (f d : ℕ) → from' at y ≡ f → near' at y ≡ d → P f d → P (from' at y) (near' at y)
        at_column f d p q g = subst (λ (z : ℕ). P z (near' at y)) (sym p) (subst (P f) (sym q) g)

        bound : (near at y < farthest) ⊎ (near at y ≡ farthest) → near at y ≤ farthest
        bound (inl g) = omega arith
        bound (inr g) = omega arith

        go : ((near' at y ≡ near at y) × (from' at y ≡ from at y) × (near at y - total ≤ slack_of w u v i y))
            ⊎ ((near' at y ≡ total + slack_of w u v i y) × (from' at y ≡ i) × (slack_of w u v i y < near at y - total))
            → ((near at y ≡ farthest) × (total ≡ 0)) ⊎ ((from at y < m) × (rows (from at y) ≡ true)
            × (u at (from at y) + near at y ≡ way_to r task near (from at y) + (cell w (from at y) y + v at y)) × (near at y < farthest))
            → P (from' at y) (near' at y)
        go (inl (p, q, k)) (inr old) = at_column (from at y) (near at y) q p old
        go (inl (p, q, k)) (inl (f, z)) = absurd (omega (arith, k, f, z, slacks i y G.newest.0 ly))
        go (inr (p, q, k)) old =
            let top = bound (⊎_elim (λ o. inr o.0) (λ o. inl o.3) old) in
            at_column i (total + slack_of w u v i y) q p
            (G.newest.0, G.newest.1, omega (arith, newest_way y ly, G.newest.2), omega (arith, k, top))

    no_shorter : (x y : ℕ) → x < m → y < m → rows x ≡ true → marked columns y ≡ false → u at x + near' at y ≤ way_to r task near x + (cell w x y + v at y)
    no_shorter x y lx ly h out = go (ℕ_discrete x i) (column_moved m w u v columns total i near from near' from' R y ly out)
      where
        go : Dec (x ≡ i) → ((near' at y ≡ near at y) × (from' at y ≡ from at y) × (near at y - total ≤ slack_of w u v i y))
            ⊎ ((near' at y ≡ total + slack_of w u v i y) × (from' at y ≡ i) × (slack_of w u v i y < near at y - total))
            → u at x + near' at y ≤ way_to r task near x + (cell w x y + v at y)
        go (yes q) (inl (p, f, k)) = rw q (omega (arith, p, k, newest_way y ly, G.newest.2, G.late y ly out))
        go (yes q) (inr (p, f, k)) = rw q (omega (arith, p, newest_way y ly, G.newest.2))
        go (no q) (inl (p, f, k)) = omega (arith, p, G.least x y lx ly h q out)
        go (no q) (inr (p, f, k)) = omega (arith, p, k, G.least x y lx ly h q out)

    later : (y : ℕ) → y < m → marked columns y ≡ false → total ≤ near' at y
    later y ly h = ⊎_elim (λ z. omega (arith, z.0, G.late y ly h)) (λ z. omega (arith, z.0)) (column_moved m w u v columns total i near from near' from' R y ly h)

    -- a column outside the tree is there, and the nearest of these is found
    pub next_column : (e.task.0 < m) × (marked columns e.task.0 ≡ false) × (near' at e.task.0 ≡ e.near)
    next_column =
        let o = some_outside m (cell w) r U Y (◌at◌ task) (◌at◌ carrier) M low rows (marked columns) (◌at◌ from) G.order G.n G.tree in
        ⊎_elim (λ q. absurd (omega (arith, q, C.least o.0 o.1 o.2, (reach o.0 o.1 o.2).3))) (λ q. q) C.found

    abbrev j : ℕ
    j = e.task.0

    -- how far total goes
    abbrev d : ℕ
    d = e.near - total

    farther : total ≤ e.near
    farther = let n = next_column in omega (arith, later j n.0 n.1, n.2)

    -- the price of a row of the tree, and of another
    in_price : (x : ℕ) → rows x ≡ true → U x ≡ u at x + (total - way_to r task near x)
    in_price x h = ap (λ (g : ℕ). u at x + g) (gain_in m r task columns near total x h)

    out_price : (x : ℕ) → rows x ≡ false → U x ≡ u at x
    out_price x h = omega (arith, gain_out m r task columns near total x h)

    out_column : (y : ℕ) → marked columns y ≡ false → Y y ≡ v at y
    out_column y h = omega (arith, no_gain (marked columns y) (near at y) total h)

    least_slack : LeastSlack m (cell w) U Y rows (marked columns) (from' at j) j d
    least_slack =
        let n = next_column in
        let t = reach j n.0 n.1 in
        record {
          low_row = t.0;
          low_column = n.0;
          from_row = t.1;
          to_column = n.1;
          slack = omega (arith, in_price (from' at j) t.1, out_column j n.1, t.2, n.2, way_early (from' at j) t.1, farther);
          least = λ x y lx ly h out.
              omega (arith, in_price x h, out_column y out, no_shorter x y lx ly h out, C.least y ly out, way_early x h, farther);
        }

    -- the prices where the tree stops at the new length
    pub ways_early : (x : ℕ) → rows x ≡ true → way_to r task near' x ≤ e.near
    ways_early x h = omega (arith, way_kept x h, way_early x h, farther)

    pub columns_early : (y : ℕ) → y < m → marked columns y ≡ true → near' at y ≤ e.near
    columns_early y ly h = omega (arith, (column_kept m w u v columns total i near from near' from' R y ly h).0, G.early y ly h, farther)

    in_raised : (x : ℕ) → rows x ≡ true → row_price m r u task columns near' e.near x ≡ U x + d
    in_raised x h = omega (arith, in_price x h, gain_in m r task columns near' e.near x h, way_kept x h, way_early x h, farther)

    out_raised : (x : ℕ) → rows x ≡ false → row_price m r u task columns near' e.near x ≡ U x
    out_raised x h = omega (arith, out_price x h, gain_out m r task columns near' e.near x h)

    in_column_raised : (y : ℕ) → y < m → marked columns y ≡ true → column_price v columns near' e.near y ≡ Y y + d
    in_column_raised y ly h =
        omega (
          arith,
          some_gain (marked columns y) (near' at y) e.near h,
          some_gain (marked columns y) (near at y) total h,
          (column_kept m w u v columns total i near from near' from' R y ly h).0,
          G.early y ly h,
          farther,
        )

    out_column_raised : (y : ℕ) → marked columns y ≡ false → column_price v columns near' e.near y ≡ Y y
    out_column_raised y h = omega (arith, out_column y h, no_gain (marked columns y) (near' at y) e.near h)

    pub rows_in_range : (x : ℕ) → x < m → row_price m r u task columns near' e.near x < 2 ^ 64
    rows_in_range x lx = ⊎_elim
        (λ h. omega (arith, in_raised x h, rows_fit m (cell w) r U Y (◌at◌ task) (◌at◌ carrier) M low rows (marked columns) (◌at◌ from') G.order G.n T' (from' at j) j d least_slack 9223372036854775807 light x lx h))
        (λ h. omega (arith, out_raised x h, out_price x h, (S.bounded 9223372036854775807 light x lx).0)) (cases_Bool (rows x))

    pub columns_in_range : (y : ℕ) → y < m → column_price v columns near' e.near y < 2 ^ 64
    columns_in_range y ly = ⊎_elim
        (λ h. omega (arith, in_column_raised y ly h, columns_fit m (cell w) r U Y (◌at◌ task) (◌at◌ carrier) M low rows (marked columns) (◌at◌ from') G.order G.n T' (from' at j) j d least_slack 9223372036854775807 light y ly h))
        (λ h. omega (arith, out_column_raised y h, out_column y h, (S.bounded 9223372036854775807 light y ly).1)) (cases_Bool (marked columns y))

    in_columns : j < length columns
    in_columns = omega (arith, next_column.0, G.sizes.2)

    -- there is room for one column more
    pub fewer : suc (unmarked (set columns j true)) ≡ unmarked columns
    fewer = unmarked_set columns j in_columns next_column.1

    -- COLUMN j IS FREE: the round's prices, and the way back from there
    pub grown_reaches : m ≤ carrier at j → (u' v' : List ℕ) → ((x : ℕ) → x < m → u' at x ≡ row_price m r u task columns near' e.near x) → length u' ≡ 12
        → ((y : ℕ) → y < m → v' at y ≡ column_price v columns near' e.near y) → length v' ≡ 12 → Reaches m w r u' v' from' task carrier j
    grown_reaches l u' v' P su Q sv = record {
      way = record {
        task = ◌at◌ task;
        carrier = ◌at◌ carrier;
        rows = rows;
        columns = marked columns;
        order = put_at G.order j G.n;
        n = G.n;
        matches = N;
        tree = last_tree m (cell w) r U Y (◌at◌ task) (◌at◌ carrier) M low rows (marked columns) (◌at◌ from') G.order G.n T' (from' at j) j d least_slack (◌at◌ u') (◌at◌ v') A B
            (◌at◌ from') (put_at G.order j G.n) (no_put (◌at◌ from') j) (put_at_lem G.order j G.n);
        turning = turn_begins m (cell w) r U Y (◌at◌ task) (◌at◌ carrier) M low rows (marked columns) (◌at◌ from') G.order G.n T' (from' at j) j d least_slack (◌at◌ u') (◌at◌ v') A B
            (◌at◌ from') (put_at G.order j G.n) (no_put (◌at◌ from') j) (put_at_lem G.order j G.n) l;
        left = omega (arith, (put_at_lem G.order j G.n).same, fewer, G.count);
      };
      bounded = bounded m (cell w) r (◌at◌ u') (◌at◌ v') (◌at◌ task) (◌at◌ carrier) N low;
      sizes = (su, sv, R.sizes.1);
    }
      where
        A : Raised m rows d U (◌at◌ u')
        A = record { marked = λ x lx h. P x lx ∙ in_raised x h; others = λ x lx h. P x lx ∙ out_raised x h }

        B : Raised m (marked columns) d Y (◌at◌ v')
        B = record { marked = λ y ly h. Q y ly ∙ in_column_raised y ly h; others = λ y ly h. Q y ly ∙ out_column_raised y h }

        N : Matches m (cell w) r (◌at◌ u') (◌at◌ v') (◌at◌ task) (◌at◌ carrier)
        N = raised_matching m (cell w) r U Y (◌at◌ task) (◌at◌ carrier) M low rows (marked columns) (◌at◌ from') G.order G.n T' (from' at j) j d least_slack (◌at◌ u') (◌at◌ v') A B

    -- COLUMN j HAS A ROW: both join the tree
    module _ (l : carrier at j < m) where
      abbrev columns' : List Bool
      columns' = set columns j true

      abbrev rows' : ℕ → Bool
      rows' = in_tree m r task columns'

      own_task : task at (carrier at j) ≡ j
      own_task = M.task_of j next_column.0 l

      not_root : carrier at j ≢ r
      not_root q = omega (arith, ap (◌at◌ task) q, own_task, next_column.0, M.unmatched r (le_refl r) low)

      marked_j : marked columns' j ≡ true
      marked_j = get_or-set_same columns j true false in_columns

      marked_other : (y : ℕ) → y ≢ j → marked columns' y ≡ marked columns y
      marked_other y n = get_or-set_other columns j y true false n

      -- of the rows of old and new
      row_j : rows' (carrier at j) ≡ true
      row_j = tree_column m r task columns' (carrier at j) not_root (rw own_task next_column.0) ∙ ap (marked columns') own_task ∙ marked_j

      other_task : (x : ℕ) → x < m → x ≢ carrier at j → task at x < m → task at x ≢ j
      other_task x lx n lt q = n (sym (M.carrier_of x lx lt) ∙ ap (◌at◌ carrier) q)

      row_other : (x : ℕ) → x < m → x ≢ carrier at j → rows' x ≡ rows x
      row_other x lx n = go (ℕ_discrete x r)
        where
          go : Dec (x ≡ r) → rows' x ≡ rows x
          go (yes q) = rw q (tree_root m r task columns' ∙ sym (tree_root m r task columns))
          go (no q) = ⊎_elim
              (λ lt. tree_column m r task columns' x q lt ∙ marked_other (task at x) (other_task x lx n lt) ∙ sym (tree_column m r task columns x q lt))
              (λ ge. tree_none m r task columns' x q ge ∙ sym (tree_none m r task columns x q ge)) (cases_lt (task at x) m)

      -- the row of j was outside the tree
      out_row : rows (carrier at j) ≡ false
      out_row = tree_column m r task columns (carrier at j) not_root (rw own_task next_column.0) ∙ ap (marked columns) own_task ∙ next_column.1

      more_rows : (x : ℕ) → x < m → rows x ≡ true → rows' x ≡ true
      more_rows x lx h = row_other x lx (λ q. false≢true (sym out_row ∙ ap rows (sym q) ∙ h)) ∙ h

      way_j : way_to r task near' (carrier at j) ≡ e.near
      way_j = way_column r task near' (carrier at j) not_root ∙ ap (◌at◌ near') own_task ∙ next_column.2

      -- the prices with row and column j gained nothing yet
      price_in : (x : ℕ) → x < m → rows x ≡ true → row_price m r u task columns' near' e.near x ≡ U x + d
      price_in x lx h =
          omega (arith, in_price x h, gain_in m r task columns' near' e.near x (more_rows x lx h), way_kept x h, way_early x h, farther)

      price_out : (x : ℕ) → x < m → rows x ≡ false → row_price m r u task columns' near' e.near x ≡ U x
      price_out x lx h = go (ℕ_discrete x (carrier at j))
        where
          go : Dec (x ≡ carrier at j) → row_price m r u task columns' near' e.near x ≡ U x
          go (yes q) =
              let g = gain_in m r task columns' near' e.near x (ap rows' q ∙ row_j) in
              omega (arith, g, ap (way_to r task near') q ∙ way_j, out_price x h)
          go (no q) = omega (arith, gain_out m r task columns' near' e.near x (row_other x lx q ∙ h), out_price x h)

      column_in : (y : ℕ) → y < m → marked columns y ≡ true → column_price v columns' near' e.near y ≡ Y y + d
      column_in y ly h =
          let n : y ≢ j = λ q. false≢true (sym next_column.1 ∙ ap (marked columns) (sym q) ∙ h) in
          omega (
            arith,
            some_gain (marked columns' y) (near' at y) e.near (marked_other y n ∙ h),
            some_gain (marked columns y) (near at y) total h,
            (column_kept m w u v columns total i near from near' from' R y ly h).0,
            G.early y ly h,
            farther,
          )

      column_out : (y : ℕ) → y < m → marked columns y ≡ false → column_price v columns' near' e.near y ≡ Y y
      column_out y ly h = go (ℕ_discrete y j)
        where
          go : Dec (y ≡ j) → column_price v columns' near' e.near y ≡ Y y
          go (yes q) =
              omega (arith, some_gain (marked columns' y) (near' at y) e.near (ap (marked columns') q ∙ marked_j), ap (◌at◌ near') q ∙ next_column.2, out_column y h)
          go (no q) = omega (arith, no_gain (marked columns' y) (near' at y) e.near (marked_other y q ∙ h), out_column y h)

      abbrev U' : ℕ → ℕ
      U' = row_price m r u task columns' near' e.near

      abbrev Y' : ℕ → ℕ
      Y' = column_price v columns' near' e.near

      A : Raised m rows d U U'
      A = record { marked = price_in; others = price_out }

      B : Raised m (marked columns) d Y Y'
      B = record { marked = column_in; others = column_out }

      out_old : (y : ℕ) → marked columns' y ≡ false → (y ≢ j) × (marked columns y ≡ false)
      out_old y h =
          let n : y ≢ j = λ q. false≢true (sym h ∙ ap (marked columns') q ∙ marked_j) in
          (n, sym (marked_other y n) ∙ h)

      pub grown_joins : Grown m w r u v task carrier columns' near' from' e.near (carrier at j)
      grown_joins = record {
        order = put_at G.order j G.n;
        n = suc G.n;
        matches = raised_matching m (cell w) r U Y (◌at◌ task) (◌at◌ carrier) M low rows (marked columns) (◌at◌ from') G.order G.n T' (from' at j) j d least_slack U' Y' A B;
        tree = joined m (cell w) r U Y (◌at◌ task) (◌at◌ carrier) M low rows (marked columns) (◌at◌ from') G.order G.n T' (from' at j) j d least_slack U' Y' A B
            (◌at◌ from') (put_at G.order j G.n) (no_put (◌at◌ from') j) (put_at_lem G.order j G.n) rows' (marked columns')
            row_j row_other (put_set columns j true false in_columns) l;
        count = omega (arith, fewer, G.count);
        early = λ y ly h. early y ly h (ℕ_discrete y j);
        late = λ y ly h. let o = out_old y h in C.least y ly o.1;
        least = λ x y lx ly h n out. least x y lx ly h n (out_old y out).1;
        exact = λ y ly h. let t = reach y ly (out_old y h).1 in
            inr (t.0, more_rows (from' at y) t.0 t.1, omega (arith, t.2, way_kept (from' at y) t.1), t.3);
        newest = (l, row_j, way_j);
        sizes = (R.sizes.0, R.sizes.1, length-set columns j true ∙ G.sizes.2);
      }
        where
          early : (y : ℕ) → y < m → marked columns' y ≡ true → Dec (y ≡ j) → near' at y ≤ e.near
          early y ly h (yes q) = omega (arith, ap (◌at◌ near') q, next_column.2)
          early y ly h (no q) = columns_early y ly (sym (marked_other y q) ∙ h)

          least : (x y : ℕ) → x < m → y < m → rows' x ≡ true → x ≢ carrier at j → marked columns y ≡ false → u at x + near' at y ≤ way_to r task near' x + (cell w x y + v at y)
          least x y lx ly h n out =
              let old : rows x ≡ true = sym (row_other x lx n) ∙ h in
              omega (arith, no_shorter x y lx ly old out, way_kept x old)

    -- WHAT A TURN OF THE LOOP GIVES
    pub record Turn : Type 0 where
      pub in_range : e.task.0 < m
      pub rows_rise : (x : ℕ) → x < m → (in_tree m r task columns x ≡ true → way_to r task near' x ≤ e.near) × (row_price m r u task columns near' e.near x < 2 ^ 64)
      pub columns_rise : (y : ℕ) → y < m → (marked columns y ≡ true → near' at y ≤ e.near) × (column_price v columns near' e.near y < 2 ^ 64)
      pub one_fewer : suc (unmarked (set columns e.task.0 true)) ≡ unmarked columns
      pub joins : carrier at e.task.0 < m → Grown m w r u v task carrier (set columns e.task.0 true) near' from' e.near (carrier at e.task.0)
      pub reaches : m ≤ carrier at e.task.0 → (u' v' : List ℕ) → ((x : ℕ) → x < m → u' at x ≡ row_price m r u task columns near' e.near x) → length u' ≡ 12
          → ((y : ℕ) → y < m → v' at y ≡ column_price v columns near' e.near y) → length v' ≡ 12 → Reaches m w r u' v' from' task carrier e.task.0

    pub turn : Turn
    turn = record {
      in_range = next_column.0;
      rows_rise = λ x lx. (ways_early x, rows_in_range x lx);
      columns_rise = λ y ly. (columns_early y ly, columns_in_range y ly);
      one_fewer = fewer;
      joins = grown_joins;
      reaches = grown_reaches;
    }

module _ (m : ℕ) (w : List ℕ) (r : ℕ) (small : m ≤ 12) (low : r < m) where
  -- a step of the way back: row from j takes column j
  module _ (u v from task carrier : List ℕ) (j k : ℕ) (H : Way m (cell w) r (◌at◌ u) (◌at◌ v) (◌at◌ from) (◌at◌ task) (◌at◌ carrier) j k) where
    pub way_low : (j < m) × (from at j < m)
    way_low = (H.turning.low, H.turning.reached.low)

    module _ (st : length task ≡ 12) (sc : length carrier ≡ 12) where
      put_task : Put (◌at◌ task) (from at j) j (◌at◌ (set task (from at j) j))
      put_task = put_set task (from at j) j 0 (omega (arith, way_low.1, st))

      put_carrier : Put (◌at◌ carrier) j (from at j) (◌at◌ (set carrier j (from at j)))
      put_carrier = put_set carrier j (from at j) 0 (omega (arith, way_low.0, sc))

      pub way_ends : m ≤ task at (from at j)
          → Matches m (cell w) (suc r) (◌at◌ u) (◌at◌ v) (◌at◌ (set task (from at j) j)) (◌at◌ (set carrier j (from at j)))
      way_ends l =
          turn_ends m (cell w) r (◌at◌ u) (◌at◌ v) H.task H.carrier H.matches low H.rows H.columns (◌at◌ from) H.order H.n H.tree
          (◌at◌ task) (◌at◌ carrier) j H.turning (◌at◌ (set task (from at j) j)) (◌at◌ (set carrier j (from at j))) put_task put_carrier l

      pub way_next : task at (from at j) < m
          → Way m (cell w) r (◌at◌ u) (◌at◌ v) (◌at◌ from) (◌at◌ (set task (from at j) j)) (◌at◌ (set carrier j (from at j))) (task at (from at j)) (k + 1)
      way_next l =
          let t = turn_next m (cell w) r (◌at◌ u) (◌at◌ v) H.task H.carrier H.matches low H.rows H.columns (◌at◌ from) H.order H.n H.tree
          (◌at◌ task) (◌at◌ carrier) j H.turning (◌at◌ (set task (from at j) j)) (◌at◌ (set carrier j (from at j))) put_task put_carrier l in
          record {
            task = H.task;
            carrier = H.carrier;
            rows = H.rows;
            columns = H.columns;
            order = H.order;
            n = H.n;
            matches = H.matches;
            tree = H.tree;
            turning = t.0;
            left = omega (arith, t.1, H.left);
          }

-- a step of the way back over the code's columns and pairs: the row that column t was reached from takes it
module _ (m : ℕ) (w : List ℕ) (r : ℕ) (small : m ≤ 12) (low : r < m) (u v : List ℕ) (columns : List Column) (p : Pairs) (t : Task) (k : ℕ)
    (H : Way m (cell w) r (◌at◌ u) (◌at◌ v) (◌at◌ (froms columns)) (◌at◌ (task_numbers p.tasks)) (◌at◌ (carrier_numbers p.carriers)) t.0 k) where
  abbrev own : Carrier
  own = (get_or columns t.0 blank).way.from

  pub step_low : (t.0 < m) × (own.0 < m)
  step_low =
      let l = way_low m w r small low u v (froms columns) (task_numbers p.tasks) (carrier_numbers p.carriers) t.0 k H in
      (l.0, omega (arith, from_at columns t.0, l.1))

  module _ (tasks : length p.tasks ≡ 12) (carriers : length p.carriers ≡ 12) where
    number : (o : Option Task) → get_or p.tasks own.0 None ≡ o → task_numbers p.tasks at (froms columns at t.0) ≡ task_number o
    number o e = ap (◌at◌ (task_numbers p.tasks)) (from_at columns t.0) ∙ task_at p.tasks own.0 o (omega (arith, step_low.1)) e

    numbers : (length (task_numbers p.tasks) ≡ 12) × (length (carrier_numbers p.carriers) ≡ 12)
    numbers = (length-map p.tasks task_number ∙ tasks, length-map p.carriers carrier_number ∙ carriers)

    pub step_ends : Bounded m (cell w) (◌at◌ u) (◌at◌ v) → length u ≡ 12 → length v ≡ 12 → get_or p.tasks own.0 None ≡ None
        → Solved m w (suc r) u v (task_numbers (paired p own t).tasks) (carrier_numbers (paired p own t).carriers)
    step_ends B su sv e =
        let M = way_ends m w r small low u v (froms columns) (task_numbers p.tasks) (carrier_numbers p.carriers) t.0 k H numbers.0 numbers.1 (omega (arith, number None e)) in
        record {
          matches = rw (map-set task_number p.tasks own.0 (Some t), map-set carrier_number p.carriers t.0 (Some own)) (rw (from_at columns t.0) at M);
          bounded = B;
          sizes = (
            su,
            sv,
            length-map (paired p own t).tasks task_number ∙ length-set p.tasks own.0 (Some t) ∙ tasks,
            length-map (paired p own t).carriers carrier_number ∙ length-set p.carriers t.0 (Some own) ∙ carriers,
          );
        }

    pub step_next : (j : Task) → get_or p.tasks own.0 None ≡ Some j → j.0 < m
        → Way m (cell w) r (◌at◌ u) (◌at◌ v) (◌at◌ (froms columns)) (◌at◌ (task_numbers (paired p own t).tasks)) (◌at◌ (carrier_numbers (paired p own t).carriers)) j.0 (k + 1)
    step_next j e l =
        let W = way_next m w r small low u v (froms columns) (task_numbers p.tasks) (carrier_numbers p.carriers) t.0 k H numbers.0 numbers.1 (omega (arith, number (Some j) e)) in
        rw (map-set task_number p.tasks own.0 (Some t), map-set carrier_number p.carriers t.0 (Some own)) (rw (number (Some j) e, from_at columns t.0) at W)

    pub step_within : Within m p → Within m (paired p own t)
    step_within W = record {
      tasks = λ i j e. at_task i j e (ℕ_discrete i own.0);
      carriers = λ j i e. at_carrier j i e (ℕ_discrete j t.0);
    }
      where
        at_task : (i : ℕ) (j : Task) → get_or (set p.tasks own.0 (Some t)) i None ≡ Some j → Dec (i ≡ own.0) → j.0 < m
        at_task i j e (yes q) =
            let s : get_or (set p.tasks own.0 (Some t)) i None ≡ Some t = rw q (get_or-set_same p.tasks own.0 (Some t) None (omega (arith, step_low.1))) in
            let d : Some t ≡ Some j = sym s ∙ e in
            subst (λ (x : Task). x.0 < m) (cc d) step_low.0
        at_task i j e (no n) = W.tasks i j (sym (get_or-set_other p.tasks own.0 i (Some t) None n) ∙ e)

        at_carrier : (j : ℕ) (i : Carrier) → get_or (set p.carriers t.0 (Some own)) j None ≡ Some i → Dec (j ≡ t.0) → i.0 < m
        at_carrier j i e (yes q) =
            let s : get_or (set p.carriers t.0 (Some own)) j None ≡ Some own = rw q (get_or-set_same p.carriers t.0 (Some own) None (omega (arith, step_low.0))) in
            let d : Some own ≡ Some i = sym s ∙ e in
            subst (λ (x : Carrier). x.0 < m) (cc d) step_low.1
        at_carrier j i e (no n) = W.carriers j i (sym (get_or-set_other p.carriers t.0 j (Some own) None n) ∙ e)

-- before the first round: no price, no pair
pub nothing_solved : (m : ℕ) (w : List ℕ) → m ≤ 12 → Solved m w 0 (replicate 12 0) (replicate 12 0) (replicate 12 12) (replicate 12 12)
nothing_solved m w small = record {
  matches = record {
    feasible = λ i j li lj. rw (at_zeros i (omega arith)) zero-le;
    tight = λ j lj l. absurd (omega (arith, l, at_twelves j (omega arith)));
    task_of = λ j lj l. absurd (omega (arith, l, at_twelves j (omega arith)));
    carrier_of = λ i li l. absurd (omega (arith, l, at_twelves i (omega arith)));
    unpriced = λ j lj l. at_zeros j (omega arith);
    matched = λ i l. absurd (not-suc-le-zero l);
    unmatched = λ i l li. omega (arith, at_twelves i (omega arith));
  };
  bounded = λ h b k lk. rw (at_zeros k (omega arith)) (zero-le, zero-le);
  sizes = (refl, refl, refl, refl);
}
  where
    at_zeros : (k : ℕ) → k < 12 → replicate 12 0 at k ≡ 0
    at_zeros k l = get_or-replicate 12 k 0 0 l

    at_twelves : (k : ℕ) → k < 12 → replicate 12 12 at k ≡ 12
    at_twelves k l = get_or-replicate 12 k 12 0 l

pub nothing_within : (m : ℕ) → Within m (record { tasks = replicate 12 None; carriers = replicate 12 None })
nothing_within m = record {
  tasks = λ i j e. absurd (none-some j (sym (get_or_same None 12 i) ∙ e));
  carriers = λ j i e. absurd (none-some i (sym (get_or_same None 12 j) ∙ e));
}
