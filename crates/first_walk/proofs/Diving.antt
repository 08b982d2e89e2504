-- The answer of the walk from a place, by what the code finds. Assumes nothing.
use Prim.Native.Nat.{ℕ, suc, ◌+◌, ◌≤◌, ◌<◌}
use Rattle.std.proofs.Common.{◌≡◌, sym, ap, ◌∙◌, subst, ⊎_elim, ◌≢◌, Bool, true, false, List, eq-or-lt_of_le, arith, length, set, length-set, T, eqb, eqb→eq, eq-eqb}
use Rattle.kernel.proofs.Both.{and_left, and_right}
use Rattle.deck.specs.Sheet.{Sheet, read, last_goal}
use Rattle.deck.specs.Calls.{constraints_of}
use Rattle.deck.specs.declared.Carrier.{Carrier}
use Rattle.deck.specs.declared.Task.{Task}
use Rattle.deck.specs.declared.Constraint.{Constraint}
use Rattle.kernel.specs.Labels.{all_goals}
use Rattle.passes.proofs.Given.{few_labels, all_counted}
use Rattle.std.specs.Prelude.{Result, Ok}
use Rattle.first_walk.specs.declared.CutOff.{CutOff}
use Rattle.first_walk.specs.Slots.{slot_of, code_of}
use Rattle.first_walk.specs.Walk.{Fails, goes_by, Dead, Dived, Led}
use Rattle.first_walk.specs.Steps.{OnPlace}
use Rattle.first_walk.proofs.Walking.{ends_here, ends_not, goes_on, goes_nowhere, dead_more, led_found}
use Rattle.first_walk.proofs.Looking.{Given, inside, place_small}

module _ {s : List ℕ} {i : Carrier} {j : Task} {mask goals rs table : List ℕ} {wide high end last : ℕ} (g : Given s i j mask goals rs table wide high end last)
    {t u p k : ℕ} (o : OnPlace (read s) j end t u p k) where
  abbrev d : Sheet
  d = read s

  abbrev cs : List Constraint
  cs = constraints_of rs

  -- on the last goal with all goals visited, at the end
  pub dived_here : (before : List ℕ) (x : ℕ) → t ≡ end → u ≡ last → k ≡ length goals → x ≡ u → suc d.horizon ≤ length before → Dived d i j cs end t u k before (set before t x) (Ok true)
  dived_here before x h a b ex room =
      let there : eqb u (last_goal d j) ≡ true = eq-eqb u (last_goal d j) (a ∙ g.final) in
      let all : eqb k (all_goals d j) ≡ true = eq-eqb k (all_goals d j) (b ∙ all_counted g.ready (sym g.on_goals.many)) in
      ends_here d i j cs end t u k before x ex h o.label (omega (arith, g.in_time)) (rw (there, all) tt)

  pub dived_not : (before : List ℕ) → t ≡ end → (u ≡ last → k ≡ length goals → ⊥) → Dived d i j cs end t u k before before (Ok false)
  dived_not before h never = ends_not d i j cs end t u k before h o.label (λ a.
      never (eqb→eq u (last_goal d j) (and_left (eqb u (last_goal d j)) (eqb k (all_goals d j)) a) ∙ sym g.final)
      (eqb→eq k (all_goals d j) (and_right (eqb u (last_goal d j)) (eqb k (all_goals d j)) a) ∙ sym (all_counted g.ready (sym g.on_goals.many))))

  module _ (n : t ≢ end) where
    pub not_yet : t < end
    not_yet = ⊎_elim (λ e. absurd (n e)) (λ h. h) (eq-or-lt_of_le o.time)

    pub dived_on : (x y : ℕ) {before now after : List ℕ} {r : Result Bool CutOff} → x < 5 → ((z : ℕ) → z < x → ¬ T (goes_by d i j cs end t u k z)) → now ≡ before → r ≡ Ok true
        → Led d i j cs end t u k x now after r → y ≡ u → suc d.horizon ≤ length before → Dived d i j cs end t u k before (set after t y) (Ok true)
    dived_on x y {before} {now} {after} lx h e er f ey room =
        goes_on d i j cs end t u k (inside g o) not_yet o.label x lx h before after y ey (omega (arith, g.in_time))
        (subst (λ (z : List ℕ). Led d i j cs end t u k x z after (Ok true)) e (led_found d i j cs end t u k x er f))

    pub found_room : (x : ℕ) {before now after : List ℕ} {r : Result Bool CutOff} → now ≡ before → r ≡ Ok true → Led d i j cs end t u k x now after r → suc d.horizon ≤ length before
        → t < length after
    found_room x e er f room = let a = (led_found d i j cs end t u k x er f).says.1.size in omega (arith, not_yet, g.in_time, ap length e)

    pub found_size : (x y : ℕ) {before now after : List ℕ} {r : Result Bool CutOff} → now ≡ before → r ≡ Ok true → Led d i j cs end t u k x now after r
        → length (set after t y) ≡ length before
    found_size x y {before} {now} {after} e er f = length-set after t y ∙ (led_found d i j cs end t u k x er f).says.1.size ∙ ap length e

    pub dived_none : (x : ℕ) {dead after : List ℕ} → 5 ≤ x → ((z : ℕ) → z < x → ¬ T (goes_by d i j cs end t u k z)) → Dead d i j cs end dead
        → after ≡ set dead (slot_of t u) (code_of t u k) → Fails d i j cs end t u k × Dead d i j cs end after
    dived_none x {dead} {after} lx h f e =
        let a = goes_nowhere d i j cs end t u k (inside g o) not_yet o.label (λ z b. h z (omega arith)) in
        (a, dead_more d i j cs end dead after (slot_of t u) t u k o.time (place_small g o) o.label (few_labels g.ready) (omega arith) a f e)

  -- one way more does not lead on
  pub ways_more : (x : ℕ) → ((z : ℕ) → z < x → ¬ T (goes_by d i j cs end t u k z)) → ¬ T (goes_by d i j cs end t u k x)
      → (z : ℕ) → z < x + 1 → ¬ T (goes_by d i j cs end t u k z)
  ways_more x h a z b = ⊎_elim (λ e. let y : z ≡ x = omega arith in subst (λ (q : ℕ). ¬ T (goes_by d i j cs end t u k q)) (sym y) a) (λ q. h z (omega arith)) (eq-or-lt_of_le b)
