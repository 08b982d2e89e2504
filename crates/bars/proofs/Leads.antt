-- The five ways from a place: where they lead, on the grid and on the padded grid, and back; the steps by them; and the first
-- that passes a test. Assumes nothing.
use Prim.Native.Nat.{ℕ, zero, suc, ◌+◌, ◌-◌, ◌*◌, ◌/◌, ◌%◌, ◌≤◌, ◌<◌}
use Rattle.std.proofs.Common.{◌≡◌, refl, sym, ap, ap₂, ◌∙◌, subst, ◌⊎◌, inl, inr, ⊎_elim, ◌≢◌, ◌↔◌, Bool, true, false, cond, ◌&&◌, ◌||◌, List, [], ◌∷◌, mod-lt, eq-or-lt_of_le, arith, get_or, T, eqb, leb→le, le→leb, ltb→lt, lt→ltb, eq-eqb, ne_eqb}
use Rattle.deck.proofs.Members.{not-nil, Mem}
use Rattle.std.proofs.Math.Nat.{mod-le}
use Rattle.deck.specs.Sheet.{Sheet, area, grid_byte, free}
use Rattle.deck.specs.Paths.{may_leave}
use Rattle.meaning.specs.Meaning.{NextTo, Beside, Free}
use Rattle.meaning.proofs.Tests.{is_true, is_false}
use Rattle.meaning.proofs.Paths.{leave_meant, free_meant}
use Rattle.kernel.specs.Layers.{first_of}
use Rattle.kernel.specs.Near.{cons_if, near}
use Rattle.kernel.specs.Parts.{step_free}
use Rattle.kernel.proofs.Both.{and_left, and_both}
use Rattle.kernel.proofs.Near.{wide_of, left_row, right_row, below_row, right_inside, above_next, left_next, right_next, below_next, in_first, in_rest, cases_if}
use Rattle.kernel.proofs.OfSheet.{step_free_meant, step_around}
use Rattle.bars.specs.Padded.{pad_of, Border, Holds, shade, MaskOf, Gate}
use Rattle.bars.specs.Bars.{way_of}
use Rattle.bars.specs.Ways.{turn_of, move_by, place_by, has_by, way_back, byte_leaves, leaves}
use Rattle.bars.proofs.Gates.{shade_gate, gate_if, each_way}
use Rattle.bars.proofs.Grid.{pad_least, pad_above, border_above, pad_left, border_left, pad_right, border_right, pad_below, border_below}
use Rattle.bars.proofs.Ways.{way_above, way_left, way_same, way_right, way_below}

-- a way by its number
pub turn_at : (w x y : ℕ) {r : ℕ} → x ≡ y → r ≡ turn_of w y → r ≡ turn_of w x
turn_at w x y e h = rw e h

pub turn_last : (w x : ℕ) → x < 5 → x ≢ 0 → x ≢ 1 → x ≢ 2 → x ≢ 3 → 2 * w ≡ turn_of w x
turn_last w zero l a b c e = absurd (a refl)
turn_last w (suc zero) l a b c e = absurd (b refl)
turn_last w (suc (suc zero)) l a b c e = absurd (c refl)
turn_last w (suc (suc (suc zero))) l a b c e = absurd (e refl)
turn_last w (suc (suc (suc (suc x)))) l a b c e = refl

pub turn_most : (w x : ℕ) → 1 ≤ w → turn_of w x ≤ 2 * w
turn_most w zero l = omega arith
turn_most w (suc zero) l = omega arith
turn_most w (suc (suc zero)) l = omega arith
turn_most w (suc (suc (suc zero))) l = omega arith
turn_most w (suc (suc (suc (suc x)))) l = omega arith

-- the places by n ways from x on
abbrev pub by_ways : Sheet → ℕ → ℕ → ℕ → List ℕ
by_ways d u zero x = []
by_ways d u (suc n) x = cons_if (has_by d u x) (place_by d u x) (by_ways d u n (suc x))

module _ (d : Sheet) (u : ℕ) (on : u < area d) where
  z : 0 < d.width
  z = wide_of d.width d.height u on

  -- the padded place by the way x
  abbrev spot : ℕ → ℕ
  spot x = move_by (d.width + 2) (pad_of d.width u) x

  -- a way that the grid has: the place, its padded number, and the way back
  pub record Leads (x : ℕ) : Type 0 where
    pub enough : d.width ≤ u + turn_of d.width x
    pub inside : place_by d u x < area d
    pub padded : pad_of d.width (place_by d u x) ≡ spot x
    pub has_back : T (has_by d (place_by d u x) (way_back x))
    pub back : place_by d (place_by d u x) (way_back x) ≡ u

  leads_as : (x v : ℕ) → place_by d u x ≡ v → d.width ≤ u + turn_of d.width x → v < area d → pad_of d.width v ≡ spot x → T (has_by d v (way_back x))
      → place_by d v (way_back x) ≡ u → Leads x
  leads_as x v e a b c h k = record {
    enough = a;
    inside = rw e b;
    padded = rw e c;
    has_back = subst (λ (y : ℕ). T (has_by d y (way_back x))) (sym e) h;
    back = subst (λ (y : ℕ). place_by d y (way_back x) ≡ u) (sym e) k;
  }

  pub leads : (x : ℕ) → x < 5 → T (has_by d u x) → Leads x
  leads zero l t =
      let a : d.width ≤ u = leb→le d.width u t in
      leads_as 0 (u - d.width) (omega arith) (omega arith) (omega arith) (pad_above d u on t ∙ omega arith)
      (lt→ltb (u - d.width + d.width) (area d) (omega arith)) (omega arith)
  leads (suc zero) l t =
      let a : 0 < u % d.width = ltb→lt 0 (u % d.width) t in
      let b = left_row d.width u z a in
      leads_as 1 (u - 1) (omega (arith, z, mod-le u d.width)) (omega (arith, z, mod-le u d.width)) (omega arith) (pad_left d u on t ∙ omega arith)
      (lt→ltb (suc ((u - 1) % d.width)) d.width (omega (arith, b.1, mod-lt u z))) (omega (arith, mod-le u d.width))
  leads (suc (suc zero)) l t = leads_as 2 u (omega arith) (omega arith) on (omega arith) tt (omega arith)
  leads (suc (suc (suc zero))) l t =
      let b = right_row d.width u (ltb→lt (suc (u % d.width)) d.width t) in
      leads_as 3 (u + 1) (omega arith) (omega arith) (right_inside d u on t) (pad_right d u on t ∙ omega arith) (lt→ltb 0 ((u + 1) % d.width) (omega (arith, b.1))) (omega (arith, z))
  leads (suc (suc (suc (suc zero)))) l t =
      leads_as 4 (u + d.width) (omega arith) (omega arith) (ltb→lt (u + d.width) (area d) t) (pad_below d.width u z ∙ omega arith) (le→leb d.width (u + d.width) (omega arith)) (omega arith)
  leads (suc (suc (suc (suc (suc x))))) l t = absurd (omega arith)

  -- past the grid's edge lies the border
  border_by : (x : ℕ) → x < 5 → ¬ T (has_by d u x) → Border d (spot x)
  border_by zero l n = let e : pad_of d.width u - (d.width + 2) ≡ spot 0 = omega arith in subst (Border d) e (border_above d u on n)
  border_by (suc zero) l n = let e : pad_of d.width u - 1 ≡ spot 1 = omega arith in subst (Border d) e (border_left d u on n)
  border_by (suc (suc zero)) l n = absurd (n tt)
  border_by (suc (suc (suc zero))) l n = let e : pad_of d.width u + 1 ≡ spot 3 = omega arith in subst (Border d) e (border_right d u on n)
  border_by (suc (suc (suc (suc zero)))) l n = let e : pad_of d.width u + (d.width + 2) ≡ spot 4 = omega arith in subst (Border d) e (border_below d u on n)
  border_by (suc (suc (suc (suc (suc x))))) l n = absurd (omega arith)

  -- what a layer has there
  pub layer_by : (y : List ℕ) (f : ℕ → ℕ) → Holds d y f → (x : ℕ) → x < 5 → get_or y (spot x) 0 ≡ cond (has_by d u x) (f (place_by d u x)) 0
  layer_by y f h x l = go (has_by d u x) (λ t. leads x l t) (border_by x l)
    where
      go : (b : Bool) → (T b → Leads x) → (¬ T b → Border d (spot x)) → get_or y (spot x) 0 ≡ cond b (f (place_by d u x)) 0
      go true a n = subst (λ (q : ℕ). get_or y q 0 ≡ f (place_by d u x)) (a tt).padded (h.inside (place_by d u x) (a tt).inside)
      go false a n = h.border (spot x) (n (λ t. t))

  -- what the mask has there: open where the grid has the place and it is free
  pub mask_by : (mask : List ℕ) → MaskOf d mask → (x : ℕ) → x < 5 → Gate (has_by d u x && free d (place_by d u x)) (get_or mask (spot x) 0)
  mask_by mask h x l =
      subst (λ (m : ℕ). Gate (has_by d u x && free d (place_by d u x)) m) (sym (layer_by mask (shade d) h x l)) (gate_if (has_by d u x) (shade_gate d (place_by d u x)))

  -- the way of a step from there
  pub way_by : (x : ℕ) → x < 5 → T (has_by d u x) → x ≡ way_of (d.width + 2) (pad_of d.width (place_by d u x)) (pad_of d.width u)
  way_by x l t = rw (leads x l t).padded (go x l)
    where
      p : ℕ
      p = pad_of d.width u

      go : (x : ℕ) → x < 5 → x ≡ way_of (d.width + 2) (move_by (d.width + 2) p x) p
      go zero l = way_above (d.width + 2) (move_by (d.width + 2) p 0) p (omega (arith, pad_least d u on))
      go (suc zero) l = way_left (d.width + 2) (move_by (d.width + 2) p 1) p (λ e. omega (arith, pad_least d u on)) (omega (arith, pad_least d u on))
      go (suc (suc zero)) l = way_same (d.width + 2) (move_by (d.width + 2) p 2) p (λ e. omega arith) (λ e. omega arith) (omega arith)
      go (suc (suc (suc zero))) l = way_right (d.width + 2) (move_by (d.width + 2) p 3) p (λ e. omega arith) (λ e. omega arith) (λ e. omega arith) (omega arith)
      go (suc (suc (suc (suc zero)))) l = way_below (d.width + 2) (move_by (d.width + 2) p 4) p (λ e. omega arith) (λ e. omega arith) (λ e. omega arith) (λ e. omega (arith, z)) (omega arith)
      go (suc (suc (suc (suc (suc x))))) l = absurd (omega arith)

  -- the place by a way to another place, with the rows and the columns of both
  record Next (x : ℕ) : Type 0 where
    near_by : NextTo d.width u (place_by d u x)
    leave : (b : ℕ) → may_leave d.width b u (place_by d u x) ≡ byte_leaves b x

  -- what a grid byte asks of the row and the column of the next place, and of the way
  leave_as : (b v x : ℕ) → eqb (suc (v / d.width)) (u / d.width) ≡ eqb x 0 → eqb (v % d.width) (suc (u % d.width)) ≡ eqb x 3
      → eqb (v / d.width) (suc (u / d.width)) ≡ eqb x 4 → eqb (suc (v % d.width)) (u % d.width) ≡ eqb x 1 → may_leave d.width b u v ≡ byte_leaves b x
  unfolding may_leave
  leave_as b v x n e s w = rw (n, e, s, w) refl

  next_as : (x v : ℕ) → place_by d u x ≡ v → NextTo d.width u v → ((b : ℕ) → may_leave d.width b u v ≡ byte_leaves b x) → Next x
  next_as x v e n l = record {
    near_by = subst (NextTo d.width u) (sym e) n;
    leave = λ b. subst (λ (y : ℕ). may_leave d.width b u y ≡ byte_leaves b x) (sym e) (l b);
  }

  abbrev row : ℕ → ℕ
  row v = v / d.width

  abbrev column : ℕ → ℕ
  column v = v % d.width

  -- the four tests of the place above, left, right and below
  next_by : (x : ℕ) → x < 5 → x ≢ 2 → T (has_by d u x) → Next x
  next_by zero l o t =
      let v : ℕ = u - d.width in
      let e : u ≡ v + d.width = omega (arith, leb→le d.width u t) in
      let r = below_row d.width v z in
      let a : row u ≡ suc (row v) = ap row e ∙ r.0 in
      let b : column u ≡ column v = ap column e ∙ r.1 in
      next_as 0 v (omega arith) (above_next d u on t) (λ k. leave_as k v 0 (eq-eqb (suc (row v)) (row u) (sym a)) (ne_eqb (column v) (suc (column u)) (λ q. omega arith)) (ne_eqb (row v) (suc (row u)) (λ q. omega arith)) (ne_eqb (suc (column v)) (column u) (λ q. omega arith)))
  next_by (suc zero) l o t =
      let v : ℕ = u - 1 in
      let h : 0 < column u = ltb→lt 0 (column u) t in
      let r = left_row d.width u z h in
      let a : row v ≡ row u = r.0 in
      let b : suc (column v) ≡ column u = omega (arith, r.1) in
      next_as 1 v (omega (arith, z, mod-le u d.width)) (left_next d u on t) (λ k. leave_as k v 1 (ne_eqb (suc (row v)) (row u) (λ q. omega arith)) (ne_eqb (column v) (suc (column u)) (λ q. omega arith)) (ne_eqb (row v) (suc (row u)) (λ q. omega arith)) (eq-eqb (suc (column v)) (column u) b))
  next_by (suc (suc zero)) l o t = absurd (o refl)
  next_by (suc (suc (suc zero))) l o t =
      let v : ℕ = u + 1 in
      let r = right_row d.width u (ltb→lt (suc (column u)) d.width t) in
      let a : row v ≡ row u = r.0 in
      let b : column v ≡ suc (column u) = r.1 in
      next_as 3 v (omega arith) (right_next d u t) (λ k. leave_as k v 3 (ne_eqb (suc (row v)) (row u) (λ q. omega arith)) (eq-eqb (column v) (suc (column u)) b) (ne_eqb (row v) (suc (row u)) (λ q. omega arith)) (ne_eqb (suc (column v)) (column u) (λ q. omega arith)))
  next_by (suc (suc (suc (suc zero)))) l o t =
      let v : ℕ = u + d.width in
      let r = below_row d.width u z in
      let a : row v ≡ suc (row u) = r.0 in
      let b : column v ≡ column u = r.1 in
      next_as 4 v (omega arith) (below_next d u on) (λ k. leave_as k v 4 (ne_eqb (suc (row v)) (row u) (λ q. omega arith)) (ne_eqb (column v) (suc (column u)) (λ q. omega arith)) (eq-eqb (row v) (suc (row u)) a) (ne_eqb (suc (column v)) (column u) (λ q. omega arith)))
  next_by (suc (suc (suc (suc (suc x))))) l o t = absurd (omega arith)

  -- a place next to another is another
  next_other : (v : ℕ) → NextTo d.width u v → u ≢ v
  next_other v (inl (a, inl b)) e = omega (arith, ap (λ (y : ℕ). y % d.width) e)
  next_other v (inl (a, inr b)) e = omega (arith, ap (λ (y : ℕ). y % d.width) e)
  next_other v (inr (a, inl b)) e = omega (arith, ap (λ (y : ℕ). y / d.width) e)
  next_other v (inr (a, inr b)) e = omega (arith, ap (λ (y : ℕ). y / d.width) e)

  -- a step by the way x is one to the place itself, or to one beside, which asks for the way
  goes_by_lem : (x : ℕ) → x < 5 → T (has_by d u x) → ((u ≡ place_by d u x) ⊎ Beside d u (place_by d u x)) ↔ T (leaves d u x)
  unfolding leaves
  goes_by_lem = each_way (λ (x : ℕ). T (has_by d u x) → ((u ≡ place_by d u x) ⊎ Beside d u (place_by d u x)) ↔ T (leaves d u x))
      (other 0 (omega arith) (λ e. omega arith)) (other 1 (omega arith) (λ e. omega arith)) (λ t. (λ h. tt, λ h. inl (omega arith)))
      (other 3 (omega arith) (λ e. omega arith)) (other 4 (omega arith) (λ e. omega arith))
    where
      other : (x : ℕ) → x < 5 → x ≢ 2 → T (has_by d u x) → ((u ≡ place_by d u x) ⊎ Beside d u (place_by d u x)) ↔ T (eqb x 2 || byte_leaves (grid_byte d u) x)
      other x l o t =
          let r = next_by x l o t in
          let b : ℕ = grid_byte d u in
          rw (ne_eqb x 2 o) (
            ⊎_elim (λ e. absurd (next_other (place_by d u x) r.near_by e)) (λ h. subst T (r.leave b) ((leave_meant d.width b u (place_by d u x)).test h.1)),
            λ h. inr (r.near_by, (leave_meant d.width b u (place_by d u x)).fact (subst T (sym (r.leave b)) h)),
          )

  -- a step by the way x: the place may be left that way, and both places are free
  pub step_by : (x : ℕ) → x < 5 → T (has_by d u x) → step_free d u (place_by d u x) ≡ (leaves d u x && (free d u && free d (place_by d u x)))
  step_by x l t = go (leaves d u x) refl (free d u) refl (free d v) refl
    where
      v : ℕ
      v = place_by d u x

      touching : T (step_free d u v) → (u ≡ v) ⊎ Beside d u v
      touching s = ⊎_elim (λ q. inl q) (λ q. inr q.1) ((step_free_meant d u v).fact s).1.1

      go : (o : Bool) → leaves d u x ≡ o → (a : Bool) → free d u ≡ a → (b : Bool) → free d v ≡ b → step_free d u v ≡ (o && (a && b))
      go true k true e true f = is_true (step_free d u v) ((step_free_meant d u v).test (is u e, (is v f, ⊎_elim (λ q. inl q) (λ q. inr (is v f, q)) ((goes_by_lem x l t).1 (subst T (sym k) tt)))))
        where
          is : (y : ℕ) → free d y ≡ true → Free d y
          is y e = (free_meant d y).fact (subst T (sym e) tt)
      go true k true e false f = is_false (step_free d u v) (λ t. subst T f ((free_meant d v).test ((step_free_meant d u v).fact t).1.0))
      go true k false e b f = is_false (step_free d u v) (λ t. subst T e ((free_meant d u).test ((step_free_meant d u v).fact t).0))
      go false k a e b f = is_false (step_free d u v) (λ s. subst T k ((goes_by_lem x l t).0 (touching s)))

  pub near_ways : near d u ≡ by_ways d u 5 0
  near_ways =
      same 0 (u - d.width) (λ t. omega arith)
      (same 1 (u - 1) (λ t. omega (arith, z, mod-le u d.width, ltb→lt 0 (u % d.width) t))
      (same 2 u (λ t. omega arith) (same 3 (u + 1) (λ t. omega arith) (same 4 (u + d.width) (λ t. omega arith) refl))))
    where
      same_if : (b : Bool) (v w : ℕ) {k l : List ℕ} → (T b → v ≡ w) → k ≡ l → cons_if b v k ≡ cons_if b w l
      same_if true v w e f = ap₂ (λ (i : ℕ) (y : List ℕ). i ∷ y) (e tt) f
      same_if false v w e f = f

      same : (x v : ℕ) {k l : List ℕ} → (T (has_by d u x) → v ≡ place_by d u x) → k ≡ l → cons_if (has_by d u x) v k ≡ cons_if (has_by d u x) (place_by d u x) l
      same x v e f = same_if (has_by d u x) v (place_by d u x) e f

  pub mem_by : (x : ℕ) → x < 5 → T (has_by d u x) → Mem (place_by d u x) (near d u)
  mem_by x l t = rw near_ways (go 5 0 (omega arith) (omega arith))
    where
      go : (n y : ℕ) → y ≤ x → x < y + n → Mem (place_by d u x) (by_ways d u n y)
      go zero y a b = absurd (omega arith)
      go (suc n) y a b = ⊎_elim
          (λ e. subst (λ (i : ℕ). Mem (place_by d u x) (cons_if (has_by d u i) (place_by d u i) (by_ways d u n (suc y)))) (sym e) (in_first (has_by d u x) (place_by d u x) (by_ways d u n (suc y)) t))
          (λ h. in_rest (has_by d u y) (place_by d u y) (by_ways d u n (suc y)) (go n (suc y) h (omega arith))) (eq-or-lt_of_le a)

  -- a place around is one by some way
  pub record Way (v : ℕ) : Type 0 where
    pub by : ℕ
    pub within : by < 5
    pub has : T (has_by d u by)
    pub to : v ≡ place_by d u by

  pub way_of_lem : (v : ℕ) → Mem v (near d u) → Way v
  way_of_lem v m = go 5 0 (omega arith) (rw near_ways at m)
    where
      go : (n y : ℕ) → y + n ≤ 5 → Mem v (by_ways d u n y) → Way v
      go zero y l m = absurd (not-nil m)
      go (suc n) y l m = ⊎_elim (λ e. record { by = y; within = omega arith; has = e.0; to = e.1 }) (λ k. go n (suc y) (omega arith) k)
          (cases_if (has_by d u y) (place_by d u y) (by_ways d u n (suc y)) m)

  -- a test of the places by the ways
  module _ (ok : ℕ → Bool) where
    abbrev tested : ℕ → Bool
    tested x = has_by d u x && ok (place_by d u x)

    first_if : (b : Bool) (v : ℕ) (l : List ℕ) → first_of ok (cons_if b v l) ≡ cond (b && ok v) v (first_of ok l)
    first_if true v l = refl
    first_if false v l = refl

    -- one way more
    passes : (n y : ℕ) → T (tested y) → place_by d u y ≡ first_of ok (by_ways d u (suc n) y)
    passes n y t = rw (first_if (has_by d u y) (place_by d u y) (by_ways d u n (suc y)), is_true (tested y) t) refl

    fails : (n y : ℕ) → ¬ T (tested y) → first_of ok (by_ways d u (suc n) y) ≡ first_of ok (by_ways d u n (suc y))
    fails n y t = rw (first_if (has_by d u y) (place_by d u y) (by_ways d u n (suc y)), is_false (tested y) t) refl

    -- the first way that passes leads to the first place that passes
    pub first_by : (x : ℕ) → x < 5 → T (tested x) → ((y : ℕ) → y < x → ¬ T (tested y)) → place_by d u x ≡ first_of ok (near d u)
    first_by x l t none = rw near_ways (go 5 0 (omega arith) (omega arith))
      where
        go : (n y : ℕ) → y ≤ x → x < y + n → place_by d u x ≡ first_of ok (by_ways d u n y)
        go zero y a b = absurd (omega arith)
        go (suc n) y a b = ⊎_elim
            (λ e. subst (λ (i : ℕ). place_by d u x ≡ first_of ok (by_ways d u (suc n) i)) (sym e) (passes n x t))
            (λ h. go n (suc y) h (omega arith) ∙ sym (fails n y (none y h))) (eq-or-lt_of_le a)

    -- where none passes, no place around does
    pub none_by : ((y : ℕ) → y < 5 → ¬ T (tested y)) → (v : ℕ) → Mem v (near d u) → ¬ T (ok v)
    none_by none v m t = let r = way_of_lem v m in none r.by r.within (and_both (has_by d u r.by) (ok (place_by d u r.by)) r.has (subst (λ (y : ℕ). T (ok y)) r.to t))

    pub no_first : ((y : ℕ) → y < 5 → ¬ T (tested y)) → first_of ok (near d u) ≡ 0
    no_first none = rw near_ways (fails 4 0 (none 0 (omega arith)) ∙ fails 3 1 (none 1 (omega arith)) ∙ fails 2 2 (none 2 (omega arith)) ∙ fails 1 3 (none 3 (omega arith)) ∙ fails 0 4 (none 4 (omega arith)))

-- a step to v from the place by the way x goes by the way back
pub step_into : (d : Sheet) (v : ℕ) → v < area d → (x : ℕ) → x < 5 → T (has_by d v x)
    → step_free d (place_by d v x) v ≡ (leaves d (place_by d v x) (way_back x) && (free d (place_by d v x) && free d v))
step_into d v on x l t =
    let r = leads d v on x l t in
    let u : ℕ = place_by d v x in
    subst (λ (y : ℕ). step_free d u y ≡ (leaves d u (way_back x) && (free d u && free d y))) r.back (step_by d u r.inside (way_back x) (omega arith) r.has_back)

-- an allowed step goes by a way by which the place may be left
pub step_way : (d : Sheet) (u v : ℕ) (on : u < area d) → T (step_free d u v) → (w : Way d u on v) × T (leaves d u w.by)
step_way d u v on h =
    let r = way_of_lem d u on v (step_around d u v h) in
    (r, and_left (leaves d u r.by) _ (subst T (step_by d u on r.by r.within r.has) (subst (λ (y : ℕ). T (step_free d u y)) r.to h)))
