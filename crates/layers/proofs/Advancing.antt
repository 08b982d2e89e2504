-- From what the parts of a step ensure to what the step does. Assumes nothing.
use Prim.Native.Nat.{ℕ, ◌+◌, ◌-◌, ◌*◌, ◌≤◌, ◌<◌}
use Rattle.std.proofs.Common.{◌≡◌, refl, sym, ap, ◌∙◌, subst, ⊎_elim, ◌≢◌, Bool, true, false, cond, List, [], le_trans, not-suc-le-zero, arith, length, get_or, set, replicate, length-set, get_or-set_same, get_or-set_other, T, eqb, eq-eqb, ne_eqb}
use Rattle.std.proofs.lemmas.Bool.{cases_lt}
use Rattle.std.proofs.lemmas.List.{length-replicate, get_or-replicate}
use Rattle.std.proofs.Math.ListN.{get_or-eq_default}
use Rattle.std.proofs.Math.Decide.{ℕ_discrete}
use Rattle.deck.specs.Sheet.{Sheet, area, carrier}
use Rattle.deck.specs.Calls.{constraints_of}
use Rattle.kernel.specs.Layers.{lift}
use Rattle.kernel.specs.Goals.{up}
use Rattle.kernel.specs.Parts.{stands, free_move}
use Rattle.kernel.proofs.OfSheet.{stands_is}
use Rattle.bars.specs.Padded.{pad_of}
use Rattle.bars.specs.declared.Way.{Way}
use Rattle.bars.specs.Ways.{number_of, place_by, has_by}
use Rattle.bars.specs.Bars.{way_of, move_slot, place_slot, OnLayer, ours_at, Cleared}
use Rattle.bars.proofs.Grid.{pad_inj, pad_most, size_of, size_small}
use Rattle.bars.proofs.Leads.{leads, way_by}
use Rattle.bars.proofs.Slots.{way_shut, place_cleared}
use Rattle.layers.specs.Fill.{Filled}
use Rattle.layers.specs.Spread.{spread_at, spread_by}
use Rattle.layers.specs.Raise.{Raised, GoalsAt}
use Rattle.layers.specs.Step.{around, Ground, Margin, door_at, DoorsTo, Doors, way_at, Copies, Advanced, Stepped, Seeded}
use Rattle.layers.proofs.Copying.{CopiedTo}
use Rattle.layers.proofs.Fills.{up_to, filled_as}
use Rattle.layers.proofs.Raising.{raise_none, raised_up}
use Rattle.layers.proofs.Stepping.{move_free, spread_of, spread_one, spread_each, ways_holds, free_holds}

-- the copies of the mask are the ways where there are no doors, and else the doors
pub copies_plain : (mask : List ℕ) {ways : List ℕ} → CopiedTo 5 mask ways → Copies mask [] ways
copies_plain mask c = record { size = c.size; copied = c.copied }

pub copies_doors : (mask doors : List ℕ) → length doors ≡ 5780 → Copies mask doors doors
copies_doors mask doors e = record { size = e; copied = λ k l p h. rw (ne_eqb (length doors) 0 (λ z. omega arith)) refl }

-- the doors of the ways, one way more a turn
module _ (mask : List ℕ) (wide end : ℕ) (back : Bool) (small : end ≤ 1122) where
  pub doors_none : {doors : List ℕ} → length doors ≡ 5780 → DoorsTo 0 mask wide end back doors
  doors_none e = record { size = e; at = λ x l. absurd (not-suc-le-zero l) }

  pub doors_more : (x : ℕ) {before after : List ℕ} → DoorsTo x mask wide end back before
      → Filled (1156 * x + wide) (1156 * x + end) (λ q. door_at mask wide back x (q - 1156 * x)) before after → DoorsTo (x + 1) mask wide end back after
  doors_more x {before} {after} g f = record {
    size = f.size ∙ g.size;
    at = λ y l p lo hi. ⊎_elim
        (λ e. subst (λ (z : ℕ). get_or after (1156 * z + p) 0 ≡ door_at mask wide back z p) (sym e) (here p lo hi))
        (λ k. f.below (1156 * y + p) (omega arith) ∙ g.at y k p lo hi) (up_to y x l);
  }
    where
      here : (p : ℕ) → wide ≤ p → p < end → get_or after (1156 * x + p) 0 ≡ door_at mask wide back x p
      here p lo hi =
          let e : 1156 * x + p - 1156 * x ≡ p = omega arith in
          f.inside (1156 * x + p) (omega arith) (omega arith) ∙ ap (door_at mask wide back x) e

  -- those of the way with that number
  pub doors_by : (x : ℕ) (way : Way) {before after : List ℕ} → number_of way ≡ x → DoorsTo x mask wide end back before
      → Filled (1156 * number_of way + wide) (1156 * number_of way + end) (λ q. door_at mask wide back (number_of way) (q - 1156 * number_of way)) before after
      → DoorsTo (x + 1) mask wide end back after
  doors_by x way {before} {after} e g f =
      doors_more x g (subst (λ (n : ℕ). Filled (1156 * n + wide) (1156 * n + end) (λ q. door_at mask wide back n (q - 1156 * n)) before after) e f)

  pub doors_all : {x n : ℕ} {doors : List ℕ} → x ≡ n → DoorsTo x mask wide end back doors → DoorsTo n mask wide end back doors
  doors_all {doors} e g = subst (λ (k : ℕ). DoorsTo k mask wide end back doors) e g

-- what holds of the width and the height of the code holds of those of the sheet
at_sheet : (P : ℕ → ℕ → Type 0) {d : Sheet} {w h : ℕ} {mask : List ℕ} → Ground d w h mask → P w h → P d.width d.height
at_sheet P {d} {w} {h} g x = subst (λ (z : ℕ). P z d.height) (sym g.width) (subst (λ (z : ℕ). P w z) (sym g.height) x)

module _ (w h : ℕ) (mask doors rs : List ℕ) (i t : ℕ) (back : Bool) (src before after : List ℕ)
    (w1 : 1 ≤ w) (w32 : w ≤ 32) (h32 : h ≤ 32) (given : Doors mask w h back doors) (size : length before ≡ 1156) where
  abbrev Rows : (ℕ → ℕ → ℕ) → ℕ → ℕ → Type 0
  Rows ways y z = Filled (y + 2) ((y + 2) * (z + 1)) (spread_of src ways (y + 2)) before after

  -- no constraint of the carrier at t
  module _ (all_free : (u v : ℕ) → free_move (carrier i) (constraints_of rs) t u v ≡ true) where
    free_advanced : (ways : ℕ → ℕ → ℕ) → ((x p : ℕ) → ways x p ≡ way_at mask doors x p) → Rows ways w h → Advanced w h mask (carrier i) (constraints_of rs) t back src before after
    free_advanced ways same fill = record {
      size = fill.size ∙ size;
      holds = λ d f g labels holds m.
          free_holds d (carrier i) (constraints_of rs) t back src mask before after f g.masked labels holds (at_sheet (λ y z. Margin y z before) g m)
          doors (at_sheet (λ y z. Doors mask y z back doors) g given)
          all_free
          ways same (at_sheet (Rows ways) g fill);
    }

    -- where no place is a lane
    pub plain_advanced : length doors ≡ 0 → Filled (w + 2) ((w + 2) * (h + 1)) (spread_at src mask (w + 2)) before after
        → Advanced w h mask (carrier i) (constraints_of rs) t back src before after
    plain_advanced n fill = free_advanced (λ k q. get_or mask q 0) (λ x p. rw (eq-eqb (length doors) 0 n) refl) (filled_as (spread_one src mask (w + 2)) fill)

    -- by the doors
    pub doors_advanced : length doors ≢ 0 → Filled (w + 2) ((w + 2) * (h + 1)) (spread_by src doors (w + 2)) before after
        → Advanced w h mask (carrier i) (constraints_of rs) t back src before after
    doors_advanced n fill = free_advanced (λ k q. get_or doors (1156 * k + q) 0) (λ x p. rw (ne_eqb (length doors) 0 n) refl) (filled_as (spread_each src doors (w + 2)) fill)

  -- over the ways that the carrier's constraints leave
  pub ways_advanced : (copies ways : List ℕ) → OnLayer w rs → Copies mask doors copies → Cleared (move_slot w back) (ours_at rs i t) copies ways
      → Filled (w + 2) ((w + 2) * (h + 1)) (spread_by src ways (w + 2)) before after → Advanced w h mask (carrier i) (constraints_of rs) t back src before after
  ways_advanced copies ways on cop c fill = record {
    size = fill.size ∙ size;
    holds = λ d f g labels holds m.
        ways_holds d (carrier i) (constraints_of rs) t back src mask before after f g.masked labels holds (at_sheet (λ y z. Margin y z before) g m)
        doors (at_sheet (λ y z. Doors mask y z back doors) g given)
        (λ k q. get_or ways (1156 * k + q) 0) (left d g)
        (λ x l p b. le_trans (c.less (1156 * x + p)) (rw (cop.copied x l p (omega (arith, small d g))) (omega arith)))
        (at_sheet (Rows (λ k q. get_or ways (1156 * k + q) 0)) g (filled_as (spread_each src ways (w + 2)) fill));
  }
    where
      small : (d : Sheet) → Ground d w h mask → (d.width + 2) * (d.height + 1) ≤ 1156
      small d g = at_sheet (λ y z. (y + 2) * (z + 1) ≤ 1156) g (omega (arith, size_of w h, size_small w h w32 h32))

      left : (d : Sheet) → Ground d w h mask → (v : ℕ) → v < area d → (x : ℕ) → x < 5 → T (has_by d v x)
          → get_or ways (1156 * x + pad_of d.width v) 0 ≡ cond (move_free d (carrier i) (constraints_of rs) t back (place_by d v x) v) (way_at mask doors x (pad_of d.width v)) 0
      left d g v a x l has =
          let u : ℕ = place_by d v x in
          let e = way_by d v a x l has in
          let pu : pad_of d.width u < 1156 = omega (arith, pad_most d u (leads d v a x l has).inside, small d g) in
          let pv : pad_of d.width v < 1156 = omega (arith, pad_most d v a, small d g) in
          let y : ℕ = way_of (d.width + 2) (pad_of d.width u) (pad_of d.width v) in
          let within : y < 5 = omega arith in
          subst
          (λ (z : ℕ). get_or ways (1156 * z + pad_of d.width v) 0 ≡ cond (move_free d (carrier i) (constraints_of rs) t back u v) (way_at mask doors z (pad_of d.width v)) 0) (sym e)
          (way_shut rs i t d.width (omega (arith, g.width)) copies ways back u v pu pv within
          (subst (λ (z : ℕ). OnLayer z rs) (sym g.width) on)
          (subst (λ (z : ℕ). Cleared (move_slot z back) (ours_at rs i t) copies ways) (sym g.width) c)
          ∙ ap (λ (z : ℕ). cond (move_free d (carrier i) (constraints_of rs) t back u v) z 0) (cop.copied y within (pad_of d.width v) pv))

-- clearing the barred places keeps the labels where the carrier may stand
stand_cleared : (d : Sheet) (rs : List ℕ) (i on : ℕ) → 0 < d.width → {one two : List ℕ} (v : ℕ) → length one ≡ 1156 → Cleared (place_slot d.width) (ours_at rs i on) one two
    → get_or two (pad_of d.width v) 0 ≡ cond (stands d (carrier i) (constraints_of rs) on v) (get_or one (pad_of d.width v) 0) 0
stand_cleared d rs i on z {one} {two} v l c = rw (stands_is d (carrier i) (constraints_of rs) on v) (place_cleared rs i on d.width z one two v l c)

-- the labels advanced, those on barred places taken away, the others raised
pub all_stepped : (w h : ℕ) (mask rs : List ℕ) (i t on : ℕ) (back : Bool) (goals : List ℕ) (n : ℕ) (src before : List ℕ) {one two after : List ℕ} → 1 ≤ w
    → Advanced w h mask (carrier i) (constraints_of rs) t back src before one → Cleared (place_slot w) (ours_at rs i on) one two → Raised goals n two after
    → Stepped w h mask (carrier i) (constraints_of rs) t on back goals n src before after
all_stepped w h mask rs i t on back goals n src before {one} {two} {after} w1 a c r = record {
  size = r.size ∙ c.size ∙ a.size;
  holds = λ d gs f g goals_at labels holds m.
      let x = a.holds d f g labels holds m in
      let z : 0 < d.width = omega (arith, g.width) in
      let cl : Cleared (place_slot d.width) (ours_at rs i on) one two = subst (λ (y : ℕ). Cleared (place_slot y) (ours_at rs i on) one two) (sym g.width) c in
      let ga : GoalsAt d.width gs goals n = subst (λ (y : ℕ). GoalsAt y gs goals n) (sym g.width) goals_at in
      record {
        size = r.size ∙ c.size ∙ a.size;
        inside = λ v b.
            r.at (pad_of d.width v)
            ∙ raised_up d.width z gs goals n ga v (get_or two (pad_of d.width v) 0)
            ∙ ap (lift (up v gs)) (stand_cleared d rs i on z v a.size cl ∙ ap (λ (y : ℕ). cond (stands d (carrier i) (constraints_of rs) on v) y 0) (x.inside v b))
            ∙ lift_cond (stands d (carrier i) (constraints_of rs) on v) (up v gs) (around d (carrier i) (constraints_of rs) t back f v);
        border = λ p b.
            let e : get_or two p 0 ≡ 0 = omega (arith, c.less p, x.border p b) in
            r.at p ∙ rw e (raise_none goals n p);
      };
}
  where
    lift_cond : (b : Bool) (g : ℕ → ℕ) (y : ℕ) → lift g (cond b y 0) ≡ cond b (lift g y) 0
    lift_cond true g y = refl
    lift_cond false g y = refl

-- one place alone, taken away where it is barred, and raised
pub all_seeded : (w : ℕ) (rs : List ℕ) (i on : ℕ) (goals : List ℕ) (n p : ℕ) {one two after : List ℕ} → 1 ≤ w → p < 1156
    → one ≡ set (replicate 1156 0) p 1 → Cleared (place_slot w) (ours_at rs i on) one two → Raised goals n two after
    → Seeded w (carrier i) (constraints_of rs) on goals n p after
all_seeded w rs i on goals n p {one} {two} {after} w1 small made c r = record {
  size = size;
  holds = λ d gs v0 e goals_at in-grid place.
      let z : 0 < d.width = omega (arith, e) in
      let cl : Cleared (place_slot d.width) (ours_at rs i on) one two = subst (λ (y : ℕ). Cleared (place_slot y) (ours_at rs i on) one two) (sym e) c in
      let ga : GoalsAt d.width gs goals n = subst (λ (y : ℕ). GoalsAt y gs goals n) (sym e) goals_at in
      let pl : p ≡ pad_of d.width v0 = subst (λ (y : ℕ). p ≡ pad_of y v0) (sym e) place in
      record {
        size = size;
        inside = λ v b.
            r.at (pad_of d.width v)
            ∙ raised_up d.width z gs goals n ga v (get_or two (pad_of d.width v) 0)
            ∙ ap (lift (up v gs)) (stand_cleared d rs i on z v size_one cl ∙ ap (λ (y : ℕ). cond (stands d (carrier i) (constraints_of rs) on v) y 0) (first d v v0 z pl (ℕ_discrete v v0)))
            ∙ lift_if (stands d (carrier i) (constraints_of rs) on v) (up v gs) (cond (eqb v v0) 1 0);
        border = λ q b.
            let f : get_or two q 0 ≡ 0 = omega (arith, c.less q, other q (λ x. b v0 in-grid (sym pl ∙ sym x))) in
            r.at q ∙ rw f (raise_none goals n q);
      };
}
  where
    size_one : length one ≡ 1156
    size_one = ap length made ∙ length-set (replicate 1156 0) p 1 ∙ length-replicate {A = ℕ} 1156 0

    size : length after ≡ 1156
    size = r.size ∙ c.size ∙ size_one

    lift_if : (b : Bool) (g : ℕ → ℕ) (y : ℕ) → lift g (cond b y 0) ≡ cond b (lift g y) 0
    lift_if true g y = refl
    lift_if false g y = refl

    zeros : (q : ℕ) → get_or {A = ℕ} (replicate 1156 0) q 0 ≡ 0
    zeros q = ⊎_elim (λ h. get_or-replicate {A = ℕ} 1156 q 0 0 h) (λ h. get_or-eq_default (replicate {A = ℕ} 1156 0) 0 {n = q} (omega (arith, length-replicate {A = ℕ} 1156 0))) (cases_lt q 1156)

    other : (q : ℕ) → (q ≡ p → ⊥) → get_or one q 0 ≡ 0
    other q ne = rw made (get_or-set_other (replicate 1156 0) p q 1 0 ne ∙ zeros q)

    here_one : get_or one p 0 ≡ 1
    here_one = rw made (get_or-set_same (replicate 1156 0) p 1 0 (omega (arith, length-replicate {A = ℕ} 1156 0)))

    first : (d : Sheet) (v v0 : ℕ) → 0 < d.width → p ≡ pad_of d.width v0 → Dec (v ≡ v0) → get_or one (pad_of d.width v) 0 ≡ cond (eqb v v0) 1 0
    first d v v0 z e (yes x) = rw (eq-eqb v v0 x, x, ← e) here_one
    first d v v0 z e (no x) = rw (ne_eqb v v0 x) (other (pad_of d.width v) (λ q. x (pad_inj d.width v v0 z (q ∙ e))))
