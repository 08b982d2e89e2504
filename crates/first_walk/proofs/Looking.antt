-- A look by one of the five ways: what each test says. Assumes nothing.
use Prim.Native.Nat.{ℕ, suc, ◌+◌, ◌-◌, ◌*◌, ◌≤◌, ◌<◌}
use Rattle.std.proofs.Common.{◌≡◌, refl, sym, ap, ◌∙◌, subst, ◌≢◌, Bool, true, false, ◌&&◌, List, add-one, arith, length, get_or, T, eqb, ltb→lt, eqb-true}
use Rattle.std.specs.Prelude.{Some}
use Rattle.deck.specs.Sheet.{Sheet, read, area, free, last_goal}
use Rattle.deck.specs.Calls.{constraints_of}
use Rattle.deck.specs.declared.Carrier.{Carrier}
use Rattle.deck.specs.declared.Task.{Task}
use Rattle.meaning.proofs.Tests.{is_true}
use Rattle.meaning.proofs.Paths.{free_meant}
use Rattle.sheet.proofs.Accepted.{area_range}
use Rattle.kernel.specs.Layers.{Parts, pass, back, good}
use Rattle.kernel.specs.Labels.{all_goals, raised}
use Rattle.kernel.specs.Parts.{free_move, free_place, stands, step_free, parts_of}
use Rattle.kernel.proofs.Both.{and_left, and_right, and_both}
use Rattle.kernel.proofs.OfTask.{raised_le}
use Rattle.kernel.proofs.OfSheet.{stands_is, step_free_meant}
use Rattle.bars.specs.Padded.{pad_of, row_of, Gate}
use Rattle.bars.specs.Ways.{turn_of, move_by, place_by, has_by, leaves, opens_by}
use Rattle.bars.proofs.Gates.{opens_shade, gate_shut, gate_open}
use Rattle.bars.proofs.Grid.{pad_most, size_of, size_small}
use Rattle.bars.proofs.Leads.{turn_most, leads, mask_by, step_by}
use Rattle.passes.proofs.Given.{wide_one, wide_most, high_most, horizon_most, few_labels}
use Rattle.trace.specs.Along.{Visited}
use Rattle.trace.proofs.Looking.{visited_raised}
use Rattle.bounds.specs.Low.{Low}
use Rattle.passes.specs.Ready.{Ready, Sized, GoalsOf}
use Rattle.passes.specs.Listed.{listed}
use Rattle.passes.specs.Courses.{carrier_of}
use Rattle.first_walk.specs.Slots.{slot_of, code_of}
use Rattle.first_walk.specs.Walk.{goes_by, Dead}
use Rattle.first_walk.specs.Steps.{OnPlace, SeenFrom}
use Rattle.first_walk.specs.declared.Walk.{Walk}
use Rattle.first_walk.specs.declared.spot.Spot.{Spot}

and_no : (a : Bool) → (a && false) ≡ false
and_no true = refl
and_no false = refl

-- What a walk is given, in plain terms
pub record Given (s : List ℕ) (i : Carrier) (j : Task) (mask goals rs table : List ℕ) (wide high end last : ℕ) : Type 0 where
  pub ready : Ready s i j mask rs
  pub on_goals : GoalsOf s j goals
  pub sized : Sized s wide high
  pub low : Low (read s) j table
  pub long : length table ≡ 9216
  pub in_time : end ≤ (read s).horizon
  pub final : last ≡ last_goal (read s) j

pub given_of : (w : Walk)
    → Given w.course.now.sheet.now.bytes.now (carrier_of w.course.now) w.course.now.task w.course.now.mask.now (listed w.course.now.goals) w.course.now.chains.now.records.now w.bounds.now
    w.course.now.size.width w.course.now.size.height w.end w.last
given_of w = record { ready = w.course.now.ready; on_goals = w.course.now.goals_at; sized = w.course.now.sized; low = w.low; long = w.long; in_time = w.in_time; final = w.ends }

module _ {s : List ℕ} {i : Carrier} {j : Task} {mask goals rs table : List ℕ} {wide high end last : ℕ} (g : Given s i j mask goals rs table wide high end last)
    {t u p k : ℕ} (o : OnPlace (read s) j end t u p k) where
  abbrev d : Sheet
  d = read s

  abbrev w : Parts
  w = parts_of (read s) i j (constraints_of rs)

  pub inside : u < area d
  inside = ((free_meant d u).fact o.on_free).on_grid

  pub place_small : u < 1024
  place_small = omega (arith, inside, (area_range s g.ready.accepted).1)

  pub label_small : k ≤ 8
  label_small = omega (arith, o.label, few_labels g.ready)

  pub time_small : t < 256
  time_small = omega (arith, o.time, g.in_time, horizon_most g.ready)

  pub width_small : (1 ≤ wide) × (wide ≤ 32)
  width_small = (omega (arith, g.sized.0, wide_one g.ready), omega (arith, g.sized.0, wide_most g.ready))

  -- the padded place by the way x
  abbrev pub spot : ℕ → ℕ
  spot x = move_by ((read s).width + 2) (pad_of (read s).width u) x

  pub spot_is : (x row q : ℕ) → row ≡ row_of wide → q ≡ move_by row p x → q ≡ spot x
  spot_is x row q er e = rw (e, er, g.sized.0, o.padded) refl

  pub padded_small : p < 1156
  padded_small =
      omega (arith, o.padded, pad_most d u inside, size_of d.width d.height, size_small d.width d.height (wide_most g.ready) (high_most g.ready), wide_most g.ready, high_most g.ready)

  pub spot_small : (x : ℕ) → spot x < 1156
  spot_small x =
      omega (
        arith,
        turn_most (d.width + 2) x (omega arith),
        pad_most d u inside,
        size_of d.width d.height,
        size_small d.width d.height (wide_most g.ready) (high_most g.ready),
        wide_most g.ready,
        high_most g.ready,
      )

  -- what it takes that the way x leads on
  goes_asks : (x : ℕ) → T (goes_by d i j (constraints_of rs) end t u k x)
      → T (has_by d u x) × T (pass w t u (place_by d u x)) × (all_goals d j < raised d j u (place_by d u x) k + back w (end - (t + 1)) (suc t) (place_by d u x))
  goes_asks x h =
      let a = and_right (has_by d u x) (good w (end - (t + 1)) t u k (place_by d u x)) h in (
        and_left (has_by d u x) (good w (end - (t + 1)) t u k (place_by d u x)) h,
        and_left (pass w t u (place_by d u x)) _ a,
        ltb→lt w.whole (w.raise u (place_by d u x) k + back w (end - (t + 1)) (suc t) (place_by d u x)) (and_right (pass w t u (place_by d u x)) _ a),
      )

  pass_step : (v : ℕ) → T (pass w t u v) → T (step_free d u v && free_move i (constraints_of rs) t u v)
  pass_step v h = and_left (w.step t u v) (w.stand (suc t) v) h

  pass_goes : (v : ℕ) → T (pass w t u v) → T (step_free d u v)
  pass_goes v h = and_left (step_free d u v) (free_move i (constraints_of rs) t u v) (pass_step v h)

  pass_free : (v : ℕ) → T (pass w t u v) → T (free d v)
  pass_free v h = (free_meant d v).test ((step_free_meant d u v).fact (pass_goes v h)).1.0

  module _ (x : ℕ) (lx : x < 5) where
    abbrev Closed : Type 0
    Closed = ¬ T (goes_by (read s) i j (constraints_of rs) end t u k x)

    mask_at : (q m : ℕ) → q ≡ spot x → m ≡ get_or mask q 0 → Gate (has_by d u x && free d (place_by d u x)) m
    mask_at q m e f = rw (f, e) (mask_by d u inside mask g.ready.masked x lx)

    -- no free place
    pub blocked_way : (q m : ℕ) → q ≡ spot x → m ≡ get_or mask q 0 → m ≡ 0 → Closed
    blocked_way q m e f z h =
        let a = goes_asks x h in
        gate_shut (has_by d u x && free d (place_by d u x)) (mask_at q m e f) z (and_both (has_by d u x) (free d (place_by d u x)) a.0 (pass_free (place_by d u x) a.1))

    -- this place may be left by the way x where its byte of the mask says so
    opens_is : (b : Bool) → b ≡ opens_by (get_or mask p 0) x → b ≡ leaves d u x
    opens_is b e = e ∙ rw (o.padded, g.ready.masked.inside u inside, opens_shade d u x lx, is_true (free d u) o.on_free) refl

    -- it may not be left that way
    pub closed_way : (b : Bool) → b ≡ opens_by (get_or mask p 0) x → b ≡ false → Closed
    closed_way b e z h =
        let a = goes_asks x h in
        subst T (sym (opens_is b e) ∙ z) (and_left (leaves d u x) _ (subst T (step_by d u inside x lx a.0) (pass_goes (place_by d u x) a.1)))

    -- the place by the way x is free
    pub record Opens (v q : ℕ) : Type 0 where
      pub has : T (has_by d u x)
      pub is_free : T (free d (place_by d u x))
      pub at : v ≡ place_by d u x
      pub padded : q ≡ pad_of d.width v

    module _ (q : ℕ) (e : q ≡ spot x) (n : get_or mask q 0 ≢ 0) where
      is_open : T (has_by d u x && free d (place_by d u x))
      is_open = gate_open (has_by d u x && free d (place_by d u x)) (mask_at q (get_or mask q 0) e refl) n

      leads_there : T (has_by d u x)
      leads_there = and_left (has_by d u x) (free d (place_by d u x)) is_open

      pub way_enough : wide ≤ u + turn_of wide x
      way_enough =
          let c : turn_of wide x ≡ turn_of d.width x = ap (λ (z : ℕ). turn_of z x) g.sized.0 in
          omega (arith, g.sized.0, (leads d u inside x lx leads_there).enough)

      pub open_way : (v : ℕ) → v ≡ move_by wide u x → Opens v q
      open_way v ev =
          let y : v ≡ place_by d u x = rw (ev, g.sized.0) refl in
          record {
            has = leads_there;
            is_free = and_right (has_by d u x) (free d (place_by d u x)) is_open;
            at = y;
            padded = rw y (e ∙ sym (leads d u inside x lx leads_there).padded);
          }

    module _ (tl : t < end) {v q : ℕ} (op : Opens v q) where
      pub open_inside : v < area d
      open_inside = rw op.at (leads d u inside x lx op.has).inside

      pub open_small : v < 1024
      open_small = omega (arith, open_inside, (area_range s g.ready.accepted).1)

      module _ {c : ℕ} (vis : Visited goals (length goals) q k c) where
        pub counted : c ≡ raised d j u v k
        counted = visited_raised d j d.width (omega (arith, wide_one g.ready)) goals (length goals) g.on_goals u v q k c op.padded vis

        pub count_within : c ≤ all_goals d j
        count_within = rw counted (raised_le d j u v k o.label)

        pub count_small : c ≤ 8
        count_small = omega (arith, count_within, few_labels g.ready)

        same_count : raised d j u (place_by d u x) k ≡ c
        same_count = ap (λ (y : ℕ). raised d j u y k) (sym op.at) ∙ sym counted

        meets_there : T (goes_by d i j (constraints_of rs) end t u k x) → all_goals d j < c + back w (end - (t + 1)) (suc t) v
        meets_there h = rw op.at (rw same_count at (goes_asks x h).2)

        -- the bound says that it is too late
        pub too_late : (b : ℕ) → b ≡ get_or table (1024 * c + v) 0 → end < t + 1 + b → Closed
        too_late b e m h = omega (arith, g.low i (constraints_of rs) (end - (t + 1)) (suc t) v c count_within open_inside (meets_there h))

        -- it is remembered
        pub was_dead : (dead : List ℕ) (b : Bool) → Dead d i j (constraints_of rs) end dead → b ≡ eqb (get_or dead (slot_of (t + 1) v) 0) (code_of (t + 1) v c) → b ≡ true → Closed
        was_dead dead b f e y h =
            let a = f.fails (slot_of (t + 1) v) (t + 1) v c (omega arith) open_small count_within (eqb-true (get_or dead (slot_of (t + 1) v) 0) (code_of (t + 1) v c) (sym e ∙ y)) in
            let m : all_goals d j < c + back w (end - (t + 1)) (t + 1) v = subst (λ (y : ℕ). all_goals d j < c + back w (end - (t + 1)) y v) (sym (add-one t)) (meets_there h) in
            omega arith

        -- what the constraints let
        lets_stand : (b : Bool) → b ≡ (free_move i (constraints_of rs) t u v && free_place i (constraints_of rs) (t + 1) v)
            → b ≡ (free_move i (constraints_of rs) t u v && stands d i (constraints_of rs) (t + 1) v)
        lets_stand b e = rw (stands_is d i (constraints_of rs) (t + 1) v) e

        -- it is barred
        pub barred_way : (b : Bool) → b ≡ (free_move i (constraints_of rs) t u v && free_place i (constraints_of rs) (t + 1) v) → b ≡ false → Closed
        barred_way b e y h =
            let a = rw (← op.at) at (goes_asks x h).1 in
            subst T (sym (lets_stand b e) ∙ y)
            (and_both (free_move i (constraints_of rs) t u v) (stands d i (constraints_of rs) (t + 1) v) (and_right (step_free d u v) (free_move i (constraints_of rs) t u v) (pass_step v a))
            (rw (add-one t) (and_right (w.step t u v) (w.stand (suc t) v) a)))

        pub barred_move : (b : Bool) → b ≡ free_move i (constraints_of rs) t u v → b ≡ false → Closed
        barred_move b e y = barred_way false (rw (sym e ∙ y) refl) refl

        pub barred_place : (b : Bool) → b ≡ free_place i (constraints_of rs) (t + 1) v → b ≡ false → Closed
        barred_place b e y = barred_way false (rw (sym e ∙ y) (sym (and_no (free_move i (constraints_of rs) t u v)))) refl

        -- the way is open
        pub clear_way : (a : Bool) → a ≡ opens_by (get_or mask p 0) x → a ≡ true → T (free_move i (constraints_of rs) t u v) → T (free_place i (constraints_of rs) (t + 1) v)
            → (next : Spot) → next.time ≡ t + 1 → next.place ≡ v → next.padded ≡ q → next.visited ≡ c → SeenFrom d i j (constraints_of rs) end t u k x (Some next)
        clear_way a f z fm fp next et ev eq ec =
            let both : T (free_move i (constraints_of rs) t u v && stands d i (constraints_of rs) (t + 1) v) = subst T (lets_stand _ refl) (and_both (free_move i (constraints_of rs) t u v) (free_place i (constraints_of rs) (t + 1) v) fm fp) in
            let free-v : T (free d v) = rw op.at op.is_free in
            let step : T (step_free d u v) = rw (op.at, step_by d u inside x lx op.has, sym (opens_is a f) ∙ z) (and_both (free d u) (free d (place_by d u x)) o.on_free op.is_free) in
            rw (et, ev, eq, ec) (
              op.has,
              op.at,
              counted,
              and_both (w.step t u v) (w.stand (suc t) v)
                  (and_both (step_free d u v) (free_move i (constraints_of rs) t u v) step (and_left (free_move i (constraints_of rs) t u v) (stands d i (constraints_of rs) (t + 1) v) both))
                  (rw (← (add-one t)) (and_right (free_move i (constraints_of rs) t u v) (stands d i (constraints_of rs) (t + 1) v) both)),
              record { on_free = free-v; padded = op.padded; label = count_within; time = omega arith },
              refl,
            )
