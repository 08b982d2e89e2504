-- A look from a spot of a walk, by what its tests find. Assumes nothing.
use Rattle.std.proofs.Common.{ℕ, ◌+◌, ◌*◌, ◌≤◌, ◌<◌, ◌≡◌, ◌≢◌, refl, sym, ◌∙◌, subst, Bool, true, false, List, length, get_or, T, eqb, None, Some, arith}
use Rattle.kernel.specs.Parts.{free_move, free_place}
use Rattle.passes.specs.Listed.{listed}
use Rattle.passes.specs.Courses.{carrier_of, bars_of}
use Rattle.passes.proofs.Given.{horizon_most, all_counted}
use Rattle.bars.specs.declared.Way.{Way}
use Rattle.bars.specs.Padded.{row_of}
use Rattle.bars.specs.Ways.{number_of, turn_of, move_by, opens_by}
use Rattle.bars.proofs.Ways.{number_small}
use Rattle.trace.specs.Along.{Visited}
use Rattle.first_walk.specs.declared.Walk.{Walk}
use Rattle.first_walk.specs.declared.spot.Spot.{Spot}
use Rattle.first_walk.specs.Slots.{slot_of, code_of}
use Rattle.first_walk.specs.Steps.{On, Remembers, Seen}
use Rattle.first_walk.proofs.Looking.{given_of, width_small, place_small, spot, spot_is, spot_small, blocked_way, closed_way, Opens, way_enough, open_way, open_small, count_small, too_late, was_dead, barred_move, barred_place, clear_way}

module _ (w : Walk) (at : Spot) (o : On w at) (way : Way) {row q : ℕ} (er : row ≡ row_of w.course.now.size.width) (eq : q ≡ move_by row at.padded (number_of way)) where
  abbrev x : ℕ
  x = number_of way

  abbrev wide : ℕ
  wide = w.course.now.size.width

  abbrev goals : List ℕ
  goals = listed w.course.now.goals

  abbrev mask : List ℕ
  mask = w.course.now.mask.now

  here : q ≡ spot (given_of w) o x
  here = spot_is (given_of w) o x row q er eq

  pub look_inside : q < 1156
  look_inside = rw here (spot_small (given_of w) o x)

  pub look_blocked : get_or mask q 0 ≡ 0 → Seen w at x None
  look_blocked z = blocked_way (given_of w) o x (number_small way) q _ here refl z

  pub look_closed : (b : Bool) → b ≡ opens_by (get_or mask at.padded 0) x → b ≡ false → Seen w at x None
  look_closed = closed_way (given_of w) o x (number_small way)

  pub look_label : at.visited ≤ length goals
  look_label = omega (arith, o.label, all_counted w.course.now.ready (sym w.course.now.goals_at.many))

  module _ (n : get_or mask q 0 ≢ 0) where
    pub look_from : (1 ≤ wide) × (wide ≤ 34) × (at.place < 2048) × (wide ≤ at.place + turn_of wide x)
    look_from =
        let a = width_small (given_of w) o in
        (a.0, omega (arith, a.1), omega (arith, place_small (given_of w) o), way_enough (given_of w) o x (number_small way) q here n)

    module _ (before : at.time < w.end) {v c : ℕ} (ev : v ≡ move_by wide at.place x) (vis : Visited goals (length goals) q at.visited c) where
      open_to : Opens (given_of w) o x (number_small way) v q
      open_to = open_way (given_of w) o x (number_small way) q here n v ev

      pub next_small : (at.time + 1 < 256) × (v < 1024) × (q < 1156) × (c ≤ 8)
      next_small = (
        omega (arith, w.in_time, horizon_most w.course.now.ready),
        open_small (given_of w) o x (number_small way) before open_to,
        look_inside,
        count_small (given_of w) o x (number_small way) before open_to vis,
      )

      module _ (next : Spot) (made : (next.time ≡ at.time + 1) × (next.place ≡ v) × (next.padded ≡ q) × (next.visited ≡ c)) where
        pub look_late : w.end < next.time + get_or w.bounds.now (1024 * c + v) 0 → Seen w at x None
        look_late m = too_late (given_of w) o x (number_small way) before open_to vis _ refl (rw made.0 at m)

        pub look_failed : (codes : List ℕ) → Remembers w codes → (b : Bool) → b ≡ eqb (get_or codes (slot_of next.time next.place) 0) (code_of next.time next.place next.visited) → b ≡ true → Seen w at x None
        look_failed codes f b e y = was_dead (given_of w) o x (number_small way) before open_to vis codes b f (rw (made.0, made.1, made.3) at e) y

        pub look_no_move : (b : Bool) → b ≡ free_move (carrier_of w.course.now) (bars_of w.course.now) at.time at.place v → b ≡ false → Seen w at x None
        look_no_move = barred_move (given_of w) o x (number_small way) before open_to vis

        pub look_no_place : (b : Bool) → b ≡ free_place (carrier_of w.course.now) (bars_of w.course.now) next.time v → b ≡ false → Seen w at x None
        look_no_place b e = barred_place (given_of w) o x (number_small way) before open_to vis b (rw made.0 at e)

        pub look_open : (a b m : Bool) → m ≡ free_move (carrier_of w.course.now) (bars_of w.course.now) at.time at.place v → m ≡ true
            → b ≡ free_place (carrier_of w.course.now) (bars_of w.course.now) next.time v → b ≡ true → a ≡ opens_by (get_or mask at.padded 0) x → a ≡ true → Seen w at x (Some next)
        look_open a b m em m-true eb b-true ea a-true =
            clear_way (given_of w) o x (number_small way) before open_to vis a ea a-true (subst T (sym (sym em ∙ m-true)) tt) (subst T (sym (sym (rw made.0 at eb) ∙ b-true)) tt) next made.0 made.1 made.2 made.3
