-- The step of the code on the padded grid is the step of the layer on the grid. Assumes nothing.
use Rattle.std.proofs.lemmas.Bool.{cases_lt, eqb-false}
use Rattle.std.proofs.Math.Bool.{and_comm}
use Prim.Native.Nat.{ℕ, ◌+◌, ◌-◌, ◌*◌, ◌≤◌, ◌<◌, max, min}
use Rattle.std.proofs.Common.{◌≡◌, refl, sym, ap, ap₂, ◌∙◌, subst, ◌⊎◌, inl, inr, ⊎_elim, Bool, true, false, cond, ◌&&◌, List, arith, length, get_or, T, eqb, eqb-true}
use Rattle.deck.specs.Sheet.{Sheet, area, free}
use Rattle.deck.specs.declared.Carrier.{Carrier}
use Rattle.deck.specs.declared.Constraint.{Constraint}
use Rattle.kernel.specs.Parts.{free_move, step_free}
use Rattle.bars.specs.Padded.{pad_of, Border, Holds, shade, MaskOf, Gate}
use Rattle.bars.specs.Ways.{move_by, place_by, has_by, way_back, leaves, opens_by}
use Rattle.bars.proofs.Gates.{shade_gate, opens_shade, open_leaves, gate_if, gate_shut}
use Rattle.bars.proofs.Grid.{pad_least, pad_most}
use Rattle.bars.proofs.Leads.{leads, layer_by, step_by, step_into}
use Rattle.layers.specs.Fill.{Filled}
use Rattle.layers.specs.Spread.{spread_at, spread_by}
use Rattle.layers.specs.Step.{may_go, around, Labels, Margin, Plain, door_at, Doors, way_at}
use Rattle.layers.proofs.Around.{label_by, best_near, way_term}

min_max : (a b m : ℕ) → min (max a b) m ≡ max (min a m) (min b m)
min_max a b m = omega arith

-- one mask for the five is a mask for each
min_five : (a l s r b m : ℕ) → min (max (max (max a l) (max s r)) b) m ≡ max (max (max (min a m) (min l m)) (max (min s m) (min r m))) (min b m)
min_five a l s r b m =
    min_max (max (max a l) (max s r)) b m
    ∙ ap (λ (z : ℕ). max z (min b m)) (min_max (max a l) (max s r) m ∙ ap₂ max (min_max a l m) (min_max s r m))

-- a step may be taken: from a free place, the move not barred, by a way that is open, to a free place
arrange : (o a b move : Bool) → ((o && (a && b)) && move) ≡ (a && (move && (o && b)))
arrange true true true true = refl
arrange true true true false = refl
arrange true true false true = refl
arrange true true false false = refl
arrange true false b move = refl
arrange false true b true = refl
arrange false true b false = refl
arrange false false b move = refl

module _ (d : Sheet) (i : Carrier) (cs : List Constraint) (t : ℕ) (back : Bool) where
  -- whether the move from u to v, or backward from v to u, is free
  abbrev pub move_free : ℕ → ℕ → Bool
  move_free u v = cond back (free_move i cs t v u) (free_move i cs t u v)

  -- whether the place by the way x may be left to v, or backward v to it
  abbrev pub opens : ℕ → ℕ → Bool
  opens v x = cond back (leaves d v x) (leaves d (place_by d v x) (way_back x))

  -- whether a label may come to v by the way x, if it is at a free place
  abbrev pub may_come : ℕ → ℕ → Bool
  may_come v x = move_free (place_by d v x) v && (opens v x && free d v)

  may_is : (v : ℕ) → v < area d → (x : ℕ) → x < 5 → T (has_by d v x) → may_go d i cs t back v (place_by d v x) ≡ (free d (place_by d v x) && may_come v x)
  may_is v on x l h = go back
    where
      u : ℕ
      u = place_by d v x

      go : (b : Bool) → cond b (step_free d v u && free_move i cs t v u) (step_free d u v && free_move i cs t u v)
          ≡ (free d u && (cond b (free_move i cs t v u) (free_move i cs t u v) && (cond b (leaves d v x) (leaves d u (way_back x)) && free d v)))
      go true = rw (step_by d v on x l h, and_comm (free d v) (free d u)) (arrange (leaves d v x) (free d u) (free d v) (free_move i cs t v u))
      go false = rw (step_into d v on x l h) (arrange (leaves d u (way_back x)) (free d u) (free d v) (free_move i cs t u v))

  -- five labels with their gates, and the greatest of the layer around v
  module _ (y : List ℕ) (f : ℕ → ℕ) (h : Holds d y f) (labels : Labels d f) (v : ℕ) (on : v < area d) where
    abbrev Through : ℕ → ℕ → Type 0
    Through x m = T (has_by d v x) → T (free d (place_by d v x)) → Gate (may_come v x) m

    way_is : (x : ℕ) → x < 5 → (p m : ℕ) → p ≡ move_by (d.width + 2) (pad_of d.width v) x → Through x m
        → min (get_or y p 0) m ≡ label_by d (may_go d i cs t back v) f v on x
    way_is x l p m e g =
        rw (e, layer_by d v on y f h x l)
        (way_term (has_by d v x) (free d (place_by d v x)) (may_come v x) (f (place_by d v x)) m (labels.small (place_by d v x)) (λ q. labels.blocked (place_by d v x) (λ z. subst T q z)) g
        ∙ ap (λ (b : Bool). cond b (f (place_by d v x)) 0) (and_if (has_by d v x) (λ t. sym (may_is v on x l t))))
      where
        and_if : (b : Bool) {a c : Bool} → (T b → a ≡ c) → (b && a) ≡ (b && c)
        and_if true e = e tt
        and_if false e = refl

    pub five : (m : ℕ → ℕ) → ((x : ℕ) → x < 5 → Through x (m x))
        → max
        (max
        (max (min (get_or y (pad_of d.width v - (d.width + 2)) 0) (m 0)) (min (get_or y (pad_of d.width v - 1) 0) (m 1)))
        (max (min (get_or y (pad_of d.width v) 0) (m 2)) (min (get_or y (pad_of d.width v + 1) 0) (m 3))))
        (min (get_or y (pad_of d.width v + (d.width + 2)) 0) (m 4))
        ≡ around d i cs t back f v
    five m g =
        ap₂ max
        (ap₂ max
        (ap₂ max (by_way 0 (omega arith) (pad_of d.width v - (d.width + 2)) (omega arith)) (by_way 1 (omega arith) (pad_of d.width v - 1) (omega arith)))
        (ap₂ max (by_way 2 (omega arith) (pad_of d.width v) (omega arith)) (by_way 3 (omega arith) (pad_of d.width v + 1) (omega arith))))
        (by_way 4 (omega arith) (pad_of d.width v + (d.width + 2)) (omega arith))
        ∙ sym (best_near d (may_go d i cs t back v) f v on)
      where
        by_way : (x : ℕ) → x < 5 → (p : ℕ) → p ≡ move_by (d.width + 2) (pad_of d.width v) x → min (get_or y p 0) (m x) ≡ label_by d (may_go d i cs t back v) f v on x
        by_way x l p e = way_is x l p (m x) e (g x l)

-- a padded place outside the rows of the grid, or in them
outside_or_in : (p a b : ℕ) → ((p < a) ⊎ (b ≤ p)) ⊎ ((a ≤ p) × (p < b))
outside_or_in p a b = ⊎_elim (λ h. inl (inl h)) (λ h. ⊎_elim (λ k. inr (h, k)) (λ k. inl (inr k)) (cases_lt p b)) (cases_lt p a)

-- the filled rows of a layer hold a function, where the border is filled with 0
module _ (d : Sheet) (g f : ℕ → ℕ) (before after : List ℕ) (fill : Filled (d.width + 2) ((d.width + 2) * (d.height + 1)) g before after)
    (m : Margin d.width d.height before) (inside : (v : ℕ) → v < area d → g (pad_of d.width v) ≡ f v)
    (edge : (p : ℕ) → Border d p → d.width + 2 ≤ p → p < (d.width + 2) * (d.height + 1) → g p ≡ 0) where
  pub filled_holds : Holds d after f
  filled_holds = record {
    size = fill.size ∙ m.size;
    inside = λ v h. fill.inside (pad_of d.width v) (pad_least d v h) (pad_most d v h) ∙ inside v h;
    border = λ p b. ⊎_elim
        (λ o. ⊎_elim (λ l. fill.below p l ∙ m.over p l) (λ l. fill.above p l ∙ m.under p l) o)
        (λ q. fill.inside p q.0 q.1 ∙ edge p b q.0 q.1)
        (outside_or_in p (d.width + 2) ((d.width + 2) * (d.height + 1)));
  }

-- a layer that holds a function is 0 above and below the grid
pub holds_margin : (d : Sheet) (x : List ℕ) (f : ℕ → ℕ) → Holds d x f → Margin d.width d.height x
holds_margin d x f h = record {
  size = h.size;
  over = λ p l. h.border p (λ v a e. omega (arith, pad_least d v a));
  under = λ p l. h.border p (λ v a e. omega (arith, pad_most d v a));
}

min_zero : (a m : ℕ) → m ≡ 0 → min a m ≡ 0
min_zero a m e = omega arith

five_none : (a l s r b : ℕ) {m0 m1 m2 m3 m4 : ℕ} → m0 ≡ 0 → m1 ≡ 0 → m2 ≡ 0 → m3 ≡ 0 → m4 ≡ 0
    → max (max (max (min a m0) (min l m1)) (max (min s m2) (min r m3))) (min b m4) ≡ 0
five_none a l s r b {m0} {m1} {m2} {m3} {m4} e0 e1 e2 e3 e4 =
    rw (min_zero a m0 e0, min_zero l m1 e1, min_zero s m2 e2, min_zero r m3 e3, min_zero b m4 e4) refl

-- the greatest label of p and the four around it, where the way x has the byte m x p
abbrev pub spread_of : List ℕ → (ℕ → ℕ → ℕ) → ℕ → ℕ → ℕ
spread_of x m wide p =
    max
    (max (max (min (get_or x (p - wide) 0) (m 0 p)) (min (get_or x (p - 1) 0) (m 1 p))) (max (min (get_or x p 0) (m 2 p)) (min (get_or x (p + 1) 0) (m 3 p))))
    (min (get_or x (p + wide) 0) (m 4 p))

-- one mask for the five
pub spread_one : (x mask : List ℕ) (wide p : ℕ) → spread_at x mask wide p ≡ spread_of x (λ k q. get_or mask q 0) wide p
spread_one x mask wide p = min_five (get_or x (p - wide) 0) (get_or x (p - 1) 0) (get_or x p 0) (get_or x (p + 1) 0) (get_or x (p + wide) 0) (get_or mask p 0)

-- one for each
pub spread_each : (x ways : List ℕ) (wide p : ℕ) → spread_by x ways wide p ≡ spread_of x (λ k q. get_or ways (1156 * k + q) 0) wide p
spread_each x ways wide p = let e : 1156 * 0 + p ≡ p = omega arith in rw e refl

-- the gate of a way, where the way is open at a free place
gate_and : (o b : Bool) {m : ℕ} → (T b → T o) → Gate b m → Gate (o && b) m
gate_and true b h g = g
gate_and false true h g = absurd (h tt)
gate_and false false h g = g

-- the gate of a door: the place that is left is free if a, and may be left if o
gate_door : (a o b : Bool) {m : ℕ} → (T b → T a) → Gate b m → Gate (o && b) (cond (a && o) m 0)
gate_door true true b h g = g
gate_door true false b h g = record { lets = λ t. absurd t; shuts = λ n. refl }
gate_door false o true h g = absurd (h tt)
gate_door false true false h g = record { lets = λ t. absurd t; shuts = λ n. refl }
gate_door false false false h g = record { lets = λ t. absurd t; shuts = λ n. refl }

module _ (d : Sheet) (i : Carrier) (cs : List Constraint) (t : ℕ) (back : Bool) (mask : List ℕ) (masked : MaskOf d mask) (v : ℕ) (on : v < area d) where
  abbrev pad : ℕ
  pad = pad_of d.width v

  -- where no place is a lane, the mask's byte of the place serves every way
  plain_gate : Plain mask (d.width + 2) ((d.width + 2) * (d.height + 1)) → (x : ℕ) → x < 5 → T (has_by d v x) → T (free d (place_by d v x))
      → Gate (opens d i cs t back v x && free d v) (get_or mask pad 0)
  plain_gate plain x l has from = rw (masked.inside v on) (gate_and (opens d i cs t back v x) (free d v) (go back) (shade_gate d v))
    where
      leave : (u y : ℕ) → u < area d → y < 5 → T (free d u) → T (leaves d u y)
      leave u y a b h =
          let e = masked.inside u a in
          open_leaves d u y b (sym e ∙ plain (pad_of d.width u) (pad_least d u a) (pad_most d u a) (λ z. gate_shut (free d u) (shade_gate d u) (sym e ∙ z) h))

      go : (b : Bool) → T (free d v) → T (cond b (leaves d v x) (leaves d (place_by d v x) (way_back x)))
      go true h = leave v x on l h
      go false h = leave (place_by d v x) (way_back x) (leads d v on x l has).inside (omega arith) from

  -- the door of a way
  door_gate : (x : ℕ) → x < 5 → T (has_by d v x) → T (free d (place_by d v x)) → Gate (opens d i cs t back v x && free d v) (door_at mask (d.width + 2) back x pad)
  door_gate x l has from = go back
    where
      u : ℕ
      u = place_by d v x

      -- the byte m of the place z that is left, by the way y
      gate_of : (z y m : ℕ) → y < 5 → m ≡ shade d z → (T (free d v) → T (free d z)) → Gate (leaves d z y && free d v) (cond (opens_by m y) (get_or mask pad 0) 0)
      gate_of z y m b e h = rw (e, opens_shade d z y b, masked.inside v on) (gate_door (free d z) (leaves d z y) (free d v) h (shade_gate d v))

      with_place : (b : Bool) (m n : ℕ) → T b → m ≡ cond b n 0 → m ≡ n
      with_place true m n t e = e
      with_place false m n t e = absurd t

      go : (b : Bool) → Gate (cond b (leaves d v x) (leaves d u (way_back x)) && free d v)
          (cond (opens_by (get_or mask (move_by (d.width + 2) pad (cond b 2 x)) 0) (cond b x (way_back x))) (get_or mask pad 0) 0)
      go true =
          let e : pad + (d.width + 2) - (d.width + 2) ≡ pad = omega arith in
          gate_of v x (get_or mask (pad + (d.width + 2) - (d.width + 2)) 0) l (ap (λ (q : ℕ). get_or mask q 0) e ∙ masked.inside v on) (λ h. h)
      go false =
          let p : ℕ = move_by (d.width + 2) pad x in
          gate_of u (way_back x) (get_or mask p 0) (omega arith) (with_place (has_by d v x) (get_or mask p 0) (shade d u) has (layer_by d v on mask (shade d) masked x l)) (λ h. from)

  -- the byte of a way before the constraints
  pub way_gate : (doors : List ℕ) → Doors mask d.width d.height back doors → (x : ℕ) → x < 5 → T (has_by d v x) → T (free d (place_by d v x))
      → Gate (opens d i cs t back v x && free d v) (way_at mask doors x pad)
  way_gate doors given x l has from = go (eqb (length doors) 0) refl
    where
      go : (b : Bool) → eqb (length doors) 0 ≡ b → Gate (opens d i cs t back v x && free d v) (cond b (get_or mask pad 0) (get_or doors (1156 * x + pad) 0))
      go true e = plain_gate (given.none (eqb-true (length doors) 0 e)) x l has from
      go false e = rw ((given.five (eqb-false (length doors) 0 e)).at x l pad (pad_least d v on) (pad_most d v on)) (door_gate x l has from)

-- a way to the border has 0
way_edge : (d : Sheet) (back : Bool) (mask : List ℕ) → MaskOf d mask → (doors : List ℕ) → Doors mask d.width d.height back doors → (p : ℕ) → Border d p
    → d.width + 2 ≤ p → p < (d.width + 2) * (d.height + 1) → (x : ℕ) → x < 5 → way_at mask doors x p ≡ 0
way_edge d back mask masked doors given p b lo hi x l = go (eqb (length doors) 0) refl
  where
    none : (o : Bool) (m : ℕ) → m ≡ 0 → cond o m 0 ≡ 0
    none true m e = e
    none false m e = refl

    go : (c : Bool) → eqb (length doors) 0 ≡ c → cond c (get_or mask p 0) (get_or doors (1156 * x + p) 0) ≡ 0
    go true e = masked.border p b
    go false e = (given.five (eqb-false (length doors) 0 e)).at x l p lo hi ∙ none (opens_by (get_or mask (move_by (d.width + 2) p (cond back 2 x)) 0) (cond back x (way_back x))) (get_or mask p 0) (masked.border p b)

-- the labels go one step by ways that have their bytes where the move is free, and 0 where it is barred
module _ (d : Sheet) (i : Carrier) (cs : List Constraint) (t : ℕ) (back : Bool) (src mask before after : List ℕ) (f : ℕ → ℕ)
    (masked : MaskOf d mask) (labels : Labels d f) (h : Holds d src f) (m : Margin d.width d.height before) (doors : List ℕ)
    (given : Doors mask d.width d.height back doors) where
  pub ways_holds : (ways : ℕ → ℕ → ℕ)
      → ((v : ℕ) → v < area d → (x : ℕ) → x < 5 → T (has_by d v x)
      → ways x (pad_of d.width v) ≡ cond (move_free d i cs t back (place_by d v x) v) (way_at mask doors x (pad_of d.width v)) 0)
      → ((x : ℕ) → x < 5 → (p : ℕ) → p < (d.width + 2) * (d.height + 1) → ways x p ≤ way_at mask doors x p)
      → Filled (d.width + 2) ((d.width + 2) * (d.height + 1)) (spread_of src ways (d.width + 2)) before after → Holds d after (around d i cs t back f)
  ways_holds ways left less fill = filled_holds d (spread_of src ways (d.width + 2)) (around d i cs t back f) before after fill m
      (λ v on. five d i cs t back src f h labels v on (λ x. ways x (pad_of d.width v)) (by_way v on))
      (λ p b lo hi.
      let none : (x : ℕ) → x < 5 → ways x p ≡ 0 = λ x l. omega (arith, less x l p hi, way_edge d back mask masked doors given p b lo hi x l) in
      five_none (get_or src (p - (d.width + 2)) 0) (get_or src (p - 1) 0) (get_or src p 0) (get_or src (p + 1) 0) (get_or src (p + (d.width + 2)) 0)
      (none 0 (omega arith)) (none 1 (omega arith)) (none 2 (omega arith)) (none 3 (omega arith)) (none 4 (omega arith)))
    where
      by_way : (v : ℕ) (on : v < area d) (x : ℕ) → x < 5 → T (has_by d v x) → T (free d (place_by d v x)) → Gate (may_come d i cs t back v x) (ways x (pad_of d.width v))
      by_way v on x l has from =
          rw (left v on x l has) (gate_if (move_free d i cs t back (place_by d v x) v) (way_gate d i cs t back mask masked v on doors given x l has from))

  -- no move is barred: the ways have their bytes
  pub free_holds : ((u v : ℕ) → free_move i cs t u v ≡ true) → (ways : ℕ → ℕ → ℕ) → ((x p : ℕ) → ways x p ≡ way_at mask doors x p)
      → Filled (d.width + 2) ((d.width + 2) * (d.height + 1)) (spread_of src ways (d.width + 2)) before after → Holds d after (around d i cs t back f)
  free_holds all-free ways same fill =
      ways_holds ways (λ v on x l has. rw (free_move_lem (place_by d v x) v) (same x (pad_of d.width v))) (λ x l p b. omega (arith, same x p)) fill
    where
      free_move_lem : (u v : ℕ) → move_free d i cs t back u v ≡ true
      free_move_lem u v = go back
        where
          go : (b : Bool) → cond b (free_move i cs t v u) (free_move i cs t u v) ≡ true
          go true = all-free v u
          go false = all-free u v
