-- The columns after the ways over one row, column by column, and the nearest of them. Assumes nothing.
use Rattle.std.proofs.Common.{ℕ, ◌+◌, ◌-◌, ◌≤◌, ◌<◌, ◌≡◌, refl, sym, ap, subst, ◌∙◌, ◌⊎◌, inl, inr, ⊎_elim, Bool, true, false, cond, List, not-suc-le-zero, eq-or-lt_of_le, le_of_suc-le-suc, le_refl, add-one, arith, length, get_or, set, length-set, get_or-set_same, get_or-set_other, ltb, lt-ltb, le-ltb, ltb-true, ltb-false}
use Rattle.std.proofs.lemmas.Bool.{false≢true, cases_lt}
use Rattle.std.proofs.Math.ListN.{get_or-map}
use Rattle.std.proofs.lemmas.List.{map-set, length-map}
use Rattle.std.proofs.Math.Seq.{map-set_same}
use Rattle.deck.specs.Sheet.{task}
use Rattle.meaning.specs.Meaning.{◌at◌}
use Rattle.hungarian.specs.declared.Way.{Way}
use Rattle.hungarian.specs.declared.Column.{Column}
use Rattle.hungarian.specs.declared.Edge.{Edge}
use Rattle.hungarian.specs.Solving.{marks, nears, froms, way_at, column_at, marked, farthest, slack_of, nearer_of, closer_of, Relaxed, Closest}

-- ONE COLUMN
module _ (c : Column) (total s i : ℕ) where
  pub nearer_marked : c.marked ≡ true → nearer_of c total s i ≡ c.way
  unfolding nearer_of
  nearer_marked h = rw h refl

  pub nearer_less : c.marked ≡ false → s < c.way.near - total → nearer_of c total s i ≡ way_at (total + s) i
  unfolding nearer_of
  nearer_less h k = rw (h, lt-ltb s (c.way.near - total) k) refl

  pub nearer_kept : c.marked ≡ false → c.way.near - total ≤ s → nearer_of c total s i ≡ c.way
  unfolding nearer_of
  nearer_kept h k = rw (h, le-ltb s (c.way.near - total) k) refl

pub closest_none : (columns : List Bool) (near : List ℕ) → Closest columns near 0 (record { task = task 0; near = farthest })
closest_none columns near = record { least = λ k l. absurd (not-suc-le-zero l); found = inl refl }

pub closest_more : (columns : List Bool) (near : List ℕ) (n x : ℕ) (e : Edge) → n < length near → Closest columns near n e
    → Closest columns (set near n x) (n + 1) (closer_of (marked columns n) x n e)
unfolding closer_of
closest_more columns near n x e h C = go (marked columns n) refl
  where
    here : set near n x at n ≡ x
    here = get_or-set_same near n x 0 h

    there : (k : ℕ) → k < n → set near n x at k ≡ near at k
    there k l = get_or-set_other near n k x 0 (omega arith)

    -- the columns looked at, with the new one
    each : (d : ℕ) → d ≤ e.near → (marked columns n ≡ false → d ≤ x) → (k : ℕ) → k < n + 1 → marked columns k ≡ false → d ≤ set near n x at k
    each d le at_n k l out = ⊎_elim
        (λ q. subst (λ (z : ℕ). d ≤ set near n x at z) (sym q) (rw here (at_n (subst (λ (z : ℕ). marked columns z ≡ false) q out))))
        (λ g. rw (there k g) (omega (arith, C.least k g out, le))) (eq-or-lt_of_le (le_of_suc-le-suc (rw add-one at l)))

    kept : (e.near ≡ farthest) ⊎ ((e.task.0 < n) × (marked columns e.task.0 ≡ false) × (near at e.task.0 ≡ e.near))
        → (e.near ≡ farthest) ⊎ ((e.task.0 < n + 1) × (marked columns e.task.0 ≡ false) × (set near n x at e.task.0 ≡ e.near))
    kept (inl q) = inl q
    kept (inr (l, out, q)) = inr (omega arith, out, there e.task.0 l ∙ q)

    pick : marked columns n ≡ false → (b : Bool) → ltb x e.near ≡ b → Closest columns (set near n x) (n + 1) (cond b (record { task = task n; near = x }) e)
    pick out true q = record {
      least = each x (omega (arith, ltb-true x e.near q)) (λ o. le_refl x);
      found = inr (omega arith, out, here);
    }
    pick out false q = record { least = each e.near (le_refl e.near) (λ o. ltb-false x e.near q); found = kept C.found }

    go : (b : Bool) → marked columns n ≡ b → Closest columns (set near n x) (n + 1) (cond b e (cond (ltb x e.near) (record { task = task n; near = x }) e))
    go true q = record { least = each e.near (le_refl e.near) (λ o. absurd (false≢true (sym o ∙ q))); found = kept C.found }
    go false q = pick q (ltb x e.near) refl

-- what is read of a list of columns
abbrev pub blank : Column
blank = column_at false 0 0

module _ (l : List Column) (k : ℕ) where
  pub mark_at : marked (marks l) k ≡ (get_or l k blank).marked
  mark_at = get_or-map (λ (c : Column). c.marked) l k blank

  pub near_at : nears l at k ≡ (get_or l k blank).way.near
  near_at = get_or-map (λ (c : Column). c.way.near) l k blank

  pub from_at : froms l at k ≡ (get_or l k blank).way.from.0
  from_at = get_or-map (λ (c : Column). c.way.from.0) l k blank

  -- with another way to column k, and where that joins the tree
  abbrev pub with_way : Way → List Column
  with_way w = set l k (record { way = w; marked = (get_or l k blank).marked })

  with_way_nears : (w : Way) → nears (with_way w) ≡ set (nears l) k w.near
  with_way_nears w = map-set (λ (c : Column). c.way.near) l k _

  with_way_marks : (w : Way) → marks (with_way w) ≡ marks l
  with_way_marks w = map-set_same (λ (c : Column). c.marked) l k _ blank refl

  abbrev pub joined : List Column
  joined = set l k (record { way = (get_or l k blank).way; marked = true })

  pub joined_marks : marks joined ≡ set (marks l) k true
  joined_marks = map-set (λ (c : Column). c.marked) l k _

  pub joined_nears : nears joined ≡ nears l
  joined_nears = map-set_same (λ (c : Column). c.way.near) l k _ blank refl

  pub joined_froms : froms joined ≡ froms l
  joined_froms = map-set_same (λ (c : Column). c.way.from.0) l k _ blank refl

-- THE FIRST n COLUMNS
pub record RelaxedTo (w u v : List ℕ) (total i : ℕ) (old : List Column) (n : ℕ) (new : List Column) : Type 0 where
  pub done : (k : ℕ) → k < n → (get_or new k blank).way ≡ nearer_of (get_or old k blank) total (slack_of w u v i k) i
  pub left : (k : ℕ) → n ≤ k → get_or new k blank ≡ get_or old k blank
  pub marks_kept : marks new ≡ marks old
  pub size : length new ≡ 12

module _ (w u v : List ℕ) (total i : ℕ) (old : List Column) where
  pub relaxed_more : (n : ℕ) (new : List Column) (x : Way) (s : ℕ) → n < 12 → s ≡ slack_of w u v i n
      → x ≡ nearer_of (get_or new n blank) total s i → RelaxedTo w u v total i old n new → RelaxedTo w u v total i old (n + 1) (with_way new n x)
  relaxed_more n new x s h q e R = record {
    done = λ k g. ⊎_elim (λ z. rw z here) (λ z. ap (λ (c : Column). c.way) (get_or-set_other new n k _ blank (omega arith)) ∙ R.done k z) (eq-or-lt_of_le (le_of_suc-le-suc (rw add-one at g)));
    left = λ k g. get_or-set_other new n k _ blank (omega arith) ∙ R.left k (omega arith);
    marks_kept = with_way_marks new n x ∙ R.marks_kept;
    size = length-set new n _ ∙ R.size;
  }
    where
      here : (get_or (with_way new n x) n blank).way ≡ nearer_of (get_or old n blank) total (slack_of w u v i n) i
      here = ap (λ (c : Column). c.way) (get_or-set_same new n _ blank (omega (arith, R.size))) ∙ e ∙ rw (R.left n (le_refl n), q) refl

  -- the mark of a column is as it was
  mark_now : (n : ℕ) (new : List Column) (b : Bool) → (get_or new n blank).marked ≡ b → RelaxedTo w u v total i old n new → marked (marks old) n ≡ b
  mark_now n new b h R = sym (ap (λ (l : List Bool). marked l n) R.marks_kept) ∙ mark_at new n ∙ h

  pub still_late : (n : ℕ) (new : List Column) → RelaxedTo w u v total i old n new → (marked (marks old) n ≡ false → total ≤ nears old at n)
      → (get_or new n blank).marked ≡ false → total ≤ (get_or new n blank).way.near
  still_late n new R h b = omega (arith, ap (λ (x : Column). x.way.near) (R.left n (le_refl n)), near_at old n, h (mark_now n new false b R))

  pub closest_set : (n : ℕ) (new : List Column) (x : Way) (e f : Edge) → n < 12 → f ≡ closer_of (get_or new n blank).marked x.near n e
      → RelaxedTo w u v total i old n new → Closest (marks old) (nears new) n e → Closest (marks old) (nears (with_way new n x)) (n + 1) f
  closest_set n new x e f h p R C =
      rw (with_way_nears new n x, p, ← mark_now n new _ refl R) (closest_more (marks old) (nears new) n x.near e (omega (arith, R.size, length-map new (λ (c : Column). c.way.near))) C)

  pub relaxed_all : (m n : ℕ) (new : List Column) → m ≤ n → RelaxedTo w u v total i old n new
      → Relaxed m w u v (marks old) total i (nears old) (froms old) (nears new) (froms new)
  relaxed_all m n new h R = record {
    each = λ k l. rw (near_at new k, from_at new k, near_at old k, from_at old k, mark_at old k) (R.done k (omega arith));
    sizes = (length-map new (λ (c : Column). c.way.near) ∙ R.size, length-map new (λ (c : Column). c.way.from.0) ∙ R.size);
  }

-- WHAT THE WAYS OVER ROW i CHANGE
module _ (m : ℕ) (w u v : List ℕ) (columns : List Bool) (total i : ℕ) (near from near' from' : List ℕ) (R : Relaxed m w u v columns total i near from near' from') where
  pub column_kept : (k : ℕ) → k < m → marked columns k ≡ true → (near' at k ≡ near at k) × (from' at k ≡ from at k)
  column_kept k l h =
      let e = R.each k l ∙ nearer_marked (column_at (marked columns k) (near at k) (from at k)) total (slack_of w u v i k) i h in
      (ap (λ (x : Way). x.near) e, ap (λ (x : Way). x.from.0) e)

  pub column_moved : (k : ℕ) → k < m → marked columns k ≡ false
      → ((near' at k ≡ near at k) × (from' at k ≡ from at k) × (near at k - total ≤ slack_of w u v i k))
      ⊎ ((near' at k ≡ total + slack_of w u v i k) × (from' at k ≡ i) × (slack_of w u v i k < near at k - total))
  column_moved k l h = ⊎_elim
      (λ g. let e = R.each k l ∙ nearer_less (column_at (marked columns k) (near at k) (from at k)) total s i h g in
      inr (ap (λ (x : Way). x.near) e, ap (λ (x : Way). x.from.0) e, g))
      (λ g. let e = R.each k l ∙ nearer_kept (column_at (marked columns k) (near at k) (from at k)) total s i h g in
      inl (ap (λ (x : Way). x.near) e, ap (λ (x : Way). x.from.0) e, g)) (cases_lt s (near at k - total))
    where
      s : ℕ
      s = slack_of w u v i k
