-- A look around a place finds the next place of the trace. Assumes nothing.
use Prim.Native.Nat.{ℕ, zero, suc, ◌+◌, ◌-◌, ◌≤◌, ◌<◌}
use Rattle.std.proofs.Math.Bool.{and_comm}
use Rattle.std.specs.Prelude.{Option, None, Some}
use Rattle.std.specs.List.{find, HoldsAt, AllWithin}
use Rattle.std.proofs.Common.{◌≡◌, refl, sym, ap, ◌∙◌, subst, ⊎_elim, ◌≢◌, eq-or-lt_of_le, Bool, true, false, cond, ◌&&◌, List, [], ◌∷◌, arith, length, get_or, take, drop, length-drop, get_or-drop, take_all, T, ltb, eq-eqb, ne_eqb}
use Rattle.deck.specs.Sheet.{Sheet, free, start_of, goals_of}
use Rattle.deck.specs.declared.Carrier.{Carrier}
use Rattle.deck.specs.declared.Task.{Task}
use Rattle.deck.specs.declared.Constraint.{Constraint}
use Rattle.meaning.proofs.Tests.{is_true}
use Rattle.meaning.proofs.Paths.{free_meant}
use Rattle.kernel.specs.Goals.{up}
use Rattle.kernel.specs.Labels.{all_goals, first_label, raised}
use Rattle.kernel.specs.Parts.{free_move, step_free}
use Rattle.kernel.specs.Kernel.{hind, onward}
use Rattle.kernel.proofs.Both.{and_left, and_right, and_both}
use Rattle.kernel.proofs.OfTask.{first_label_is, raised_is}
use Rattle.kernel.proofs.OfSheet.{step_free_meant}
use Rattle.bars.specs.Padded.{pad_of}
use Rattle.bars.proofs.Grid.{pad_inj}
use Rattle.layers.specs.Raise.{GoalsAt}
use Rattle.std.specs.Option.{option_map}
use Rattle.bars.specs.declared.Way.{Way}
use Rattle.bars.specs.declared.Way.TheVariants.{Above, Left, Same, Right, Below}
use Rattle.bars.specs.Ways.{number_of, number_if, all_ways, opens_by}
use Rattle.bars.proofs.Gates.{all_open}
use Rattle.trace.specs.Along.{View, way_on, leads_on, Visited, FirstWay}

-- a label is raised as far as the goals in front are the place
up_run : (gs : List ℕ) (v k r : ℕ) → k ≤ r → r ≤ length gs → ((m : ℕ) → k ≤ m → m < r → get_or gs m 0 ≡ v) → (r < length gs → get_or gs r 0 ≢ v) → r ≡ up v gs k
up_run [] v k r a b p s = omega arith
up_run (g ∷ gs) v zero zero a b p s = rw (ne_eqb v g (λ e. s (omega arith) (sym e)))
up_run (g ∷ gs) v zero (suc r) a b p s =
    rw (eq-eqb v g (sym (p 0 (omega arith) (omega arith))))
    (ap suc (up_run gs v zero r (omega arith) (omega arith) (λ m x y. p (suc m) (omega arith) (omega arith)) (λ l. s (omega arith))))
up_run (g ∷ gs) v (suc k) zero a b p s = absurd (omega arith)
up_run (g ∷ gs) v (suc k) (suc r) a b p s = ap suc (up_run gs v k r (omega arith) (omega arith) (λ m x y. p (suc m) (omega arith) (omega arith)) (λ l. s (omega arith)))

visited_up : (w : ℕ) → 0 < w → (gs goals : List ℕ) (n v p k r : ℕ) → GoalsAt w gs goals n → p ≡ pad_of w v → Visited goals n p k r → r ≡ up v gs k
visited_up w z gs goals n v p k r g e x =
    up_run gs v k r x.from (omega (arith, x.within, g.many))
    (λ m a b. pad_inj w (get_or gs m 0) v z (sym (g.at m (omega (arith, x.within))) ∙ x.passed m a b ∙ e))
    (λ l h. x.stops (omega (arith, g.many)) (g.at r (omega (arith, g.many)) ∙ ap (pad_of w) h ∙ sym e))

-- so the code counts as the labels of a task do
module _ (d : Sheet) (j : Task) (w : ℕ) (z : 0 < w) (goals : List ℕ) (n : ℕ) (g : GoalsAt w (goals_of d j) goals n) where
  pub visited_first : (i : Carrier) (p r : ℕ) → p ≡ pad_of w (start_of d i) → Visited goals n p 0 r → r ≡ first_label d i j
  visited_first i p r e x = visited_up w z (goals_of d j) goals n (start_of d i) p 0 r g e x ∙ sym (first_label_is d j i)

  pub visited_raised : (u v p k r : ℕ) → p ≡ pad_of w v → Visited goals n p k r → r ≡ raised d j u v k
  visited_raised u v p k r e x = visited_up w z (goals_of d j) goals n v p k r g e x ∙ sym (raised_is d j u v k)

-- where a step is allowed, the test by the kept layer is the test of the trace
pub way_onward : (d : Sheet) (i : Carrier) (j : Task) (cs : List Constraint) (n t u k q m : ℕ) → T (step_free d u q) → m ≡ hind d i j cs n (suc t) q
    → (ltb (all_goals d j) (k + m) && free_move i cs t u q) ≡ onward d i j cs n t u k q
unfolding onward
way_onward d i j cs n t u k q m h e = rw (e, is_true (step_free d u q) h) (and_comm (ltb (all_goals d j) (k + hind d i j cs n (suc t) q)) (free_move i cs t u q))

-- the trace goes by allowed steps, and to free places
pub onward_step : (d : Sheet) (i : Carrier) (j : Task) (cs : List Constraint) (n t u k q : ℕ) → T (onward d i j cs n t u k q) → T (step_free d u q)
unfolding onward
onward_step d i j cs n t u k q h = and_left (step_free d u q) (free_move i cs t u q) (and_left (step_free d u q && free_move i cs t u q) _ h)

pub onward_free : (d : Sheet) (i : Carrier) (j : Task) (cs : List Constraint) (n t u k q : ℕ) → T (onward d i j cs n t u k q) → T (free d q)
onward_free d i j cs n t u k q h = (free_meant d q).test ((step_free_meant d u q).fact (onward_step d i j cs n t u k q h)).1.0

-- the first of the ways that passes a test, by its number
pub first_found : (ok : ℕ → Bool) (r : Option Way) → option_map (λ (x : Way). x) r ≡ find (λ x. ok (number_of x)) all_ways → FirstWay ok (number_if r)
first_found ok r same = rw (itself r ∙ same) (go0 (ok 0) refl)
  where
    itself : (o : Option Way) → o ≡ option_map (λ (x : Way). x) o
    itself None = refl
    itself (Some x) = refl

    Found : ℕ → Type 0
    Found r = FirstWay ok r

    at : (r : ℕ) → r ≤ 5 → ((y : ℕ) → y < r → ok y ≡ false) → (r < 5 → ok r ≡ true) → Found r
    at r l n o = record { within = l; before = λ y b h. subst T (n y b) h; passes = λ b. subst T (sym (o b)) tt }

    below1 : ok 0 ≡ false → (y : ℕ) → y < 1 → ok y ≡ false
    below1 a zero b = a
    below1 a (suc y) b = absurd (omega arith)

    next : (r : ℕ) → ((y : ℕ) → y < r → ok y ≡ false) → ok r ≡ false → (y : ℕ) → y < suc r → ok y ≡ false
    next r n e y b = ⊎_elim (λ q. let z : y ≡ r = omega arith in ap ok z ∙ e) (λ q. n y (omega arith)) (eq-or-lt_of_le b)

    go4 : ((y : ℕ) → y < 4 → ok y ≡ false) → (b : Bool) → ok 4 ≡ b → Found (number_if (cond b (Some Below) None))
    go4 n true e = at 4 (omega arith) n (λ l. e)
    go4 n false e = at 5 (omega arith) (next 4 n e) (λ l. absurd (omega arith))

    go3 : ((y : ℕ) → y < 3 → ok y ≡ false) → (b : Bool) → ok 3 ≡ b → Found (number_if (cond b (Some Right) (cond (ok 4) (Some Below) None)))
    go3 n true e = at 3 (omega arith) n (λ l. e)
    go3 n false e = go4 (next 3 n e) (ok 4) refl

    go2 : ((y : ℕ) → y < 2 → ok y ≡ false) → (b : Bool) → ok 2 ≡ b → Found (number_if (cond b (Some Same) (cond (ok 3) (Some Right) (cond (ok 4) (Some Below) None))))
    go2 n true e = at 2 (omega arith) n (λ l. e)
    go2 n false e = go3 (next 2 n e) (ok 3) refl

    go1 : ((y : ℕ) → y < 1 → ok y ≡ false) → (b : Bool) → ok 1 ≡ b
        → Found (number_if (cond b (Some Left) (cond (ok 2) (Some Same) (cond (ok 3) (Some Right) (cond (ok 4) (Some Below) None)))))
    go1 n true e = at 1 (omega arith) n (λ l. e)
    go1 n false e = go2 (next 1 n e) (ok 2) refl

    go0 : (b : Bool) → ok 0 ≡ b
        → Found (number_if (cond b (Some Above) (cond (ok 1) (Some Left) (cond (ok 2) (Some Same) (cond (ok 3) (Some Right) (cond (ok 4) (Some Below) None))))))
    go0 true e = at 0 (omega arith) (λ y b. absurd (omega arith)) (λ l. e)
    go0 false e = go1 (below1 e) (ok 1) refl

-- where the place is no lane, the first way that leads on is one by which it may be left
pub first_open : (l : View) (r : ℕ) → get_or l.mask l.p 0 ≡ 255 → FirstWay (way_on l) r → FirstWay (leads_on l) r
first_open l r e f = record {
  within = f.within;
  before = λ y b h. f.before y b (and_right (opens_by (get_or l.mask l.p 0) y) (way_on l y) h);
  passes = λ b. and_both (opens_by (get_or l.mask l.p 0) r) (way_on l r) (rw e (all_open r b)) (f.passes b);
}

pub from_part : (l : List ℕ) (k : ℕ) → take (length l - k) (drop k l) ≡ drop k l
from_part l k = take_all (length l - k) (drop k l) (omega (arith, length-drop k l))

-- the goals passed from goal k on, up to the first that is another place
module _ (goals : List ℕ) (k p : ℕ) (l : k ≤ length goals) where
  at_drop : (m : ℕ) → k ≤ m → get_or (drop k goals) (m - k) 0 ≡ get_or goals m 0
  at_drop m a = let e : k + (m - k) ≡ m = omega arith in get_or-drop k goals (m - k) 0 ∙ ap (λ (z : ℕ). get_or goals z 0) e

  pub visited_some : {i : ℕ} → (i < length (drop k goals)) × HoldsAt (λ x. x ≢ p) (drop k goals) i × AllWithin (λ x. x ≡ p) (drop k goals) 0 i → Visited goals (length goals) p k (k + i)
  visited_some {i} f = record {
    from = omega arith;
    within = omega (arith, f.0, length-drop k goals);
    passed = λ m a b. sym (at_drop m a) ∙ f.2 (m - k) 0 (omega arith) (omega arith);
    stops = λ b e. f.1 0 (get_or-drop k goals i 0 ∙ e);
  }

  pub visited_none : AllWithin (λ x. x ≡ p) (drop k goals) 0 (length (drop k goals)) → Visited goals (length goals) p k (length goals)
  visited_none f = record {
    from = l;
    within = omega arith;
    passed = λ m a b. sym (at_drop m a) ∙ f (m - k) 0 (omega arith) (omega (arith, length-drop k goals));
    stops = λ b. absurd (omega arith);
  }
