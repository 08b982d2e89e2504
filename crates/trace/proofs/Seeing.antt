-- What the code reads around a place of the trace. Assumes nothing.
use Prim.Native.Nat.{ℕ, suc, ◌+◌, ◌-◌, ◌*◌, ◌≤◌, ◌<◌}
use Rattle.std.specs.Prelude.{Option, None, Some}
use Rattle.std.proofs.Common.{◌≡◌, refl, sym, ap, ap₂, ◌∙◌, subst, ◌≢◌, Bool, true, false, not, ◌&&◌, List, add-one, arith, mul-le-mul, length, get_or, T, eqb, ltb, eq-eqb, eqb-true}
use Rattle.std.proofs.lemmas.Bool.{false≢true}
use Rattle.deck.specs.Sheet.{Sheet, read, area, free}
use Rattle.deck.specs.Calls.{constraints_of}
use Rattle.deck.specs.declared.Carrier.{Carrier}
use Rattle.deck.specs.declared.Task.{Task}
use Rattle.meaning.proofs.Tests.{is_true, is_false}
use Rattle.meaning.proofs.Paths.{free_meant}
use Rattle.sheet.proofs.Accepted.{area_range}
use Rattle.kernel.specs.Layers.{first_of}
use Rattle.kernel.specs.Labels.{all_goals}
use Rattle.kernel.specs.Near.{near}
use Rattle.kernel.specs.Parts.{free_move}
use Rattle.kernel.specs.Kernel.{hind, onward, OnTime}
use Rattle.kernel.proofs.Both.{and_left, and_right, and_both}
use Rattle.bars.specs.Padded.{pad_of, Gate}
use Rattle.bars.specs.Ways.{number_of, number_if, turn_of, move_by, place_by, has_by, leaves, opens_by}
use Rattle.bars.specs.declared.Way.{Way}
use Rattle.bars.proofs.Ways.{number_small}
use Rattle.bars.proofs.Gates.{opens_shade, gate_shut, gate_open}
use Rattle.bars.proofs.Grid.{pad_least, pad_most, size_of, size_small}
use Rattle.bars.proofs.Leads.{turn_most, leads, mask_by, step_by, first_by, no_first}
use Rattle.layers.specs.Packed.{kept_at, words_for}
use Rattle.layers.proofs.Keeping.{byte_in_lem}
use Rattle.passes.specs.Ready.{Ready, layer_at, Backed}
use Rattle.passes.proofs.Given.{wide_most, high_most, horizon_most, few_labels, all_counted, pad_small}
use Rattle.passes.proofs.Backing.{layer_in}
use Rattle.passes.specs.Listed.{listed}
use Rattle.passes.specs.Courses.{sheet_of, carrier_of, bars_of}
use Rattle.passes.specs.declared.Course.{Course}
use Rattle.trace.specs.declared.kept_layers.Kept.{Kept}
use Rattle.trace.specs.Along.{View, view, spot_of, byte_of, leads_on, FirstWay, Sees, Inside}
use Rattle.trace.proofs.Looking.{way_onward, onward_step, onward_free}

module _ (s : List ℕ) (i : Carrier) (j : Task) (mask rs : List ℕ) (r : Ready s i j mask rs) (words : List ℕ) (end t u k : ℕ) (bk : Backed s i j rs end 0 words)
    (l : t < end) (m : end ≤ (read s).horizon) (o : OnTime (read s) i j (constraints_of rs) (end - t) t u k) where
  abbrev d : Sheet
  d = read s

  abbrev many : ℕ
  many = all_goals (read s) j

  abbrev look : ℕ → ℕ → ℕ → ℕ → View
  look w at p n = record { i = i; cs = constraints_of rs; mask = mask; words = words; w = w; n = n; t = t; u = u; p = p; at = at; k = k }

  -- the next step leads to q
  abbrev goes : ℕ → Bool
  goes q = onward d i j (constraints_of rs) (end - (t + 1)) t u k q

  pub record Seen (w at p n : ℕ) : Type 0 where
    pub sees : Sees (look w at p n)
    pub ways : (x : ℕ) → x < 5 → leads_on (look w at p n) x ≡ (has_by d u x && goes (place_by d u x))

  on : u < area d
  on = ((free_meant d u).fact o.on_free).on_grid

  abbrev place : ℕ
  place = layer_at s (t + 1)

  abbrev here : View
  here = look (read s).width (layer_at s (t + 1)) (pad_of (read s).width u) (all_goals (read s) j)

  room : place + words_for d.width d.height ≤ suc d.horizon * area d
  room = layer_in s i j mask rs r (t + 1) (omega arith)

  inside : (q : ℕ) → q < area d → Inside here (pad_of d.width q - (d.width + 2))
  inside q h = (
    omega (arith, pad_small r q h),
    omega (arith, room, mul-le-mul {n₁ = suc d.horizon} {m₁ = area d} {n₂ = 256} {m₂ = 1024} (omega (arith, horizon_most r)) (area_range s r.accepted).1),
    omega (arith, byte_in_lem d q h, room, bk.room),
  )

  -- what the mask has by the way x
  abbrev opened : ℕ → ℕ
  opened x = get_or mask (spot_of here x) 0

  gate : (x : ℕ) → x < 5 → Gate (has_by d u x && free d (place_by d u x)) (opened x)
  gate x b = mask_by d u on mask r.masked x b

  open_both : (x : ℕ) → x < 5 → opened x ≢ 0 → T (has_by d u x) × T (free d (place_by d u x))
  open_both x b n =
      let h = gate_open (has_by d u x && free d (place_by d u x)) (gate x b) n in
      (and_left (has_by d u x) (free d (place_by d u x)) h, and_right (has_by d u x) (free d (place_by d u x)) h)

  -- by which ways the mask lets the place itself be left
  leaves_here : (x : ℕ) → x < 5 → opens_by (get_or mask (pad_of d.width u) 0) x ≡ leaves d u x
  leaves_here x b = rw (r.masked.inside u on, opens_shade d u x b, is_true (free d u) o.on_free) refl

  -- the place by the way x is free, and this one may be left that way
  open_goes : (x : ℕ) → x < 5 → T (has_by d u x) → T (free d (place_by d u x)) → leaves d u x ≡ true
      → (ltb many (k + kept_at words place (byte_of here x)) && free_move i (constraints_of rs) t u (place_by d u x)) ≡ goes (place_by d u x)
  open_goes x b h f e =
      let a = leads d u on x b h in
      let v : ℕ = place_by d u x in
      way_onward d i j (constraints_of rs) (end - (t + 1)) t u k v (kept_at words place (byte_of here x))
      (rw (step_by d u on x b h, e) (and_both (free d u) (free d v) o.on_free f))
      (ap (λ (y : ℕ). kept_at words place (y - (d.width + 2))) (sym a.padded)
      ∙ subst (λ (y : ℕ). kept_at words place (pad_of d.width v - (d.width + 2)) ≡ hind d i j (constraints_of rs) (end - (t + 1)) y v) (add-one t)
      (bk.layers (t + 1) (omega arith) (omega arith) v a.inside))

  -- it may not be left that way
  closed_goes : (x : ℕ) → x < 5 → T (has_by d u x) → leaves d u x ≡ false → goes (place_by d u x) ≡ false
  closed_goes x b h e =
      is_false (goes (place_by d u x))
      (λ g. subst T e (and_left (leaves d u x) _ (subst T (step_by d u on x b h) (onward_step d i j (constraints_of rs) (end - (t + 1)) t u k (place_by d u x) g))))

  by_way : (x : ℕ) → x < 5 → leads_on here x ≡ (has_by d u x && goes (place_by d u x))
  by_way x b = rw (leaves_here x b) (go (leaves d u x) refl (eqb (opened x) 0) refl)
    where
      v : ℕ
      v = place_by d u x

      go : (y : Bool) → leaves d u x ≡ y → (z : Bool) → eqb (opened x) 0 ≡ z
          → (y && (not z && (ltb many (k + kept_at words place (byte_of here x)) && free_move i (constraints_of rs) t u v))) ≡ (has_by d u x && goes v)
      go false f z e = sym (is_false (has_by d u x && goes v) (λ h. subst T (closed_goes x b (and_left (has_by d u x) (goes v) h) f) (and_right (has_by d u x) (goes v) h)))
      go true f true e = sym (is_false (has_by d u x && goes v) (λ h.
          gate_shut (has_by d u x && free d v) (gate x b) (eqb-true (opened x) 0 e)
          (and_both (has_by d u x) (free d v) (and_left (has_by d u x) (goes v) h)
          (onward_free d i j (constraints_of rs) (end - (t + 1)) t u k v (and_right (has_by d u x) (goes v) h)))))
      go true f false e =
          let n : opened x ≢ 0 = λ q. absurd (false≢true (sym e ∙ eq-eqb (opened x) 0 q)) in
          let h = open_both x b n in
          rw (is_true (has_by d u x) h.0) (open_goes x b h.0 h.1 f)

  seen : Seen d.width place (pad_of d.width u) many
  seen = record {
    sees = record {
      in_time = omega (arith, horizon_most r);
      label = omega (arith, o.label, few_labels r);
      place = let q : u < 1024 = omega (arith, on, (area_range s r.accepted).1) in q;
      padded = (pad_least d u on, pad_small r u on);
      masked = λ x b. omega (arith, turn_most (d.width + 2) x (omega arith), pad_most d u on, size_of d.width d.height, size_small d.width d.height (wide_most r) (high_most r), wide_most r, high_most r);
      open_way = λ x b n.
          let a = leads d u on x b (open_both x b n).0 in
          let v : ℕ = place_by d u x in (
            a.enough,
            omega (arith, a.padded, pad_least d v a.inside),
            subst (λ (y : ℕ). Inside here (y - (d.width + 2))) a.padded (inside v a.inside),
          );
    };
    ways = by_way;
  }

  -- in the numbers of the code
  pub seen_at : {w at p n : ℕ} → w ≡ d.width → at ≡ place → p ≡ pad_of w u → n ≡ many → Seen w at p n
  seen_at {w} {at} {p} {n} ew ea ep en =
      subst (λ (x : ℕ). Seen w at p x) (sym en)
      (subst (λ (x : ℕ). Seen w at x many) (sym (ep ∙ ap (λ (y : ℕ). pad_of y u) ew))
      (subst (λ (x : ℕ). Seen w x (pad_of d.width u) many) (sym ea) (subst (λ (x : ℕ). Seen x place (pad_of d.width u) many) (sym ew) seen)))

  -- the way that is found leads to the next place
  module _ {w at p n : ℕ} (q : Seen w at p n) (ew : w ≡ d.width) {x : ℕ} (f : FirstWay (leads_on (look w at p n)) x) where
    passed : (y : ℕ) → y < x → ¬ T (has_by d u y && goes (place_by d u y))
    passed y b h = f.before y b (subst T (sym (q.ways y (omega (arith, f.within)))) h)

    module _ (b : x < 5) where
      found : T (has_by d u x && goes (place_by d u x))
      found = subst T (q.ways x b) (f.passes b)

      pub way_enough : w ≤ u + turn_of w x
      way_enough = rw ew (leads d u on x b (and_left (has_by d u x) (goes (place_by d u x)) found)).enough

      pub way_first : move_by w u x ≡ first_of goes (near d u)
      way_first = rw ew (first_by d u on goes x b found passed)

    pub way_none : 5 ≤ x → 0 ≡ first_of goes (near d u)
    way_none b = sym (no_first d u on goes (λ y a. passed y (omega arith)))

-- the place that a walk has come to is one of the grid, and the words of a time's layer are within the workspace
pub on_layer : (kept : Kept) (t u k : ℕ) → OnTime (sheet_of kept.course.now) (carrier_of kept.course.now) kept.course.now.task (bars_of kept.course.now) (kept.end - t) t u k → u < 1024
on_layer kept t u k o =
    let d = sheet_of kept.course.now in
    omega (arith, ((free_meant d u).fact o.on_free).on_grid, (area_range kept.course.now.sheet.now.bytes.now kept.course.now.ready.accepted).1)

pub time_fits : (kept : Kept) (t : ℕ) → t < kept.end → {n : ℕ} → words_for kept.course.now.size.width kept.course.now.size.height ≡ n → (t + 1) * n ≤ 262144
time_fits kept t l {n} e =
    let c = kept.course.now in
    let d = sheet_of c in
    let q : n ≡ words_for d.width d.height = sym e ∙ ap₂ words_for c.sized.0 c.sized.1 in
    let room = layer_in c.sheet.now.bytes.now (carrier_of c) c.task c.mask.now c.chains.now.records.now c.ready (t + 1) (omega (arith, kept.in_time)) in
    rw q (omega (arith, room, mul-le-mul {n₁ = suc d.horizon} {m₁ = area d} {n₂ = 256} {m₂ = 1024} (omega (arith, horizon_most c.ready)) (area_range c.sheet.now.bytes.now c.ready.accepted).1))

-- a look of the code
module _ (kept : Kept) (t u k : ℕ) (l : t < kept.end) (o : OnTime (sheet_of kept.course.now) (carrier_of kept.course.now) kept.course.now.task (bars_of kept.course.now) (kept.end - t) t u k)
    {p at : ℕ} (ep : p ≡ pad_of kept.course.now.size.width u) (ea : at ≡ (t + 1) * words_for kept.course.now.size.width kept.course.now.size.height) where
  abbrev c : Course
  c = kept.course.now

  abbrev wide : ℕ
  wide = c.size.width

  abbrev all : ℕ
  all = length (listed c.goals)

  pub looked : Seen c.sheet.now.bytes.now (carrier_of c) c.task c.mask.now c.chains.now.records.now c.ready kept.words.now kept.end t u k kept.backed l kept.in_time o wide at p all
  looked = seen_at c.sheet.now.bytes.now (carrier_of c) c.task c.mask.now c.chains.now.records.now c.ready kept.words.now kept.end t u k kept.backed l kept.in_time o c.sized.0
      (ea ∙ ap₂ (λ (x y : ℕ). (t + 1) * words_for x y) c.sized.0 c.sized.1) ep (all_counted c.ready (sym c.goals_at.many))

  pub place_small : u < 1024
  place_small = looked.sees.place

  -- the way that is found leads to the next place, and where none is there is none
  module _ {r : Option Way} (f : FirstWay (leads_on (view kept t u p at k)) (number_if r)) where
    pub next_room : {way : Way} → r ≡ Some way → wide ≤ u + turn_of wide (number_of way)
    next_room {way} e = way_enough c.sheet.now.bytes.now (carrier_of c) c.task c.mask.now c.chains.now.records.now c.ready kept.words.now kept.end t u k kept.backed l kept.in_time o looked c.sized.0
        (rw e at f) (number_small way)

    pub next_some : {way : Way} → r ≡ Some way → move_by wide u (number_of way) ≡ first_of (onward (sheet_of c) (carrier_of c) c.task (bars_of c) (kept.end - (t + 1)) t u k) (near (sheet_of c) u)
    next_some {way} e = way_first c.sheet.now.bytes.now (carrier_of c) c.task c.mask.now c.chains.now.records.now c.ready kept.words.now kept.end t u k kept.backed l kept.in_time o looked c.sized.0
        (rw e at f) (number_small way)

    pub next_none : r ≡ None → 0 ≡ first_of (onward (sheet_of c) (carrier_of c) c.task (bars_of c) (kept.end - (t + 1)) t u k) (near (sheet_of c) u)
    next_none e = way_none c.sheet.now.bytes.now (carrier_of c) c.task c.mask.now c.chains.now.records.now c.ready kept.words.now kept.end t u k kept.backed l kept.in_time o looked c.sized.0
        (rw e at f) (omega arith)
