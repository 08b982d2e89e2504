-- One step of a layer of labels: what the code's step comes to on the grid itself. Assumes nothing.
use Rattle.std.specs.Prelude.{ℕ, ◌+◌, ◌-◌, ◌*◌, ◌≤◌, ◌<◌, ◌≡◌, ◌≢◌, Bool, cond, ◌&&◌, Option, None, Some, List, [], length, get_or, max, min, T, eqb}
use Rattle.std.specs.Borrow.{Bor}
use Rattle.deck.specs.Sheet.{Sheet, area, free}
use Rattle.deck.specs.declared.Carrier.{Carrier}
use Rattle.deck.specs.declared.Constraint.{Constraint}
use Rattle.kernel.specs.Layers.{best}
use Rattle.kernel.specs.Near.{near}
use Rattle.kernel.specs.Parts.{free_move, stands, step_free}
use Rattle.kernel.specs.Kernel.{settle, seed}
use Rattle.bars.specs.Padded.{pad_of, Holds, MaskOf}
use Rattle.bars.specs.Ways.{move_by, way_back, opens_by}
use Rattle.layers.specs.Raise.{GoalsAt}

-- one may go from u to v at t, or backward from v to u
abbrev pub may_go : Sheet → Carrier → List Constraint → ℕ → Bool → ℕ → ℕ → Bool
may_go d i cs t back v u = cond back (step_free d v u && free_move i cs t v u) (step_free d u v && free_move i cs t u v)

-- the greatest label around v that may come, or go, to v at t
abbrev pub around : Sheet → Carrier → List Constraint → ℕ → Bool → (ℕ → ℕ) → ℕ → ℕ
around d i cs t back f v = best (may_go d i cs t back v) f (near d v)

-- the next layer: `on` is the time at which one is there, t that of the moves
abbrev pub next_layer : Sheet → Carrier → List Constraint → (t on : ℕ) → Bool → List ℕ → (ℕ → ℕ) → ℕ → ℕ
next_layer d i cs t on back gs f v = settle (stands d i cs on) gs v (around d i cs t back f v)

-- the width, the height and the mask are those of the sheet
pub record Ground (d : Sheet) (w h : ℕ) (mask : List ℕ) : Type 0 where
  pub width : d.width ≡ w
  pub height : d.height ≡ h
  pub masked : MaskOf d mask

-- labels are small enough to pass through the mask whole, and 0 at a blocked place
pub record Labels (d : Sheet) (f : ℕ → ℕ) : Type 0 where
  pub small : (v : ℕ) → f v < 224
  pub blocked : (v : ℕ) → ¬ T (free d v) → f v ≡ 0

-- above and below the grid a layer is 0
pub record Margin (w h : ℕ) (x : List ℕ) : Type 0 where
  pub size : length x ≡ 1156
  pub over : (p : ℕ) → p < w + 2 → get_or x p 0 ≡ 0
  pub under : (p : ℕ) → (w + 2) * (h + 1) ≤ p → get_or x p 0 ≡ 0

-- the greater of a number and of what a byte is away from 0 or from 255
abbrev pub farther : ℕ → ℕ → ℕ
farther most b = max most (min b (255 - b))

-- from wide to end - 1 no byte of the mask is that of a lane
abbrev pub Plain : List ℕ → ℕ → ℕ → Type 0
Plain mask wide end = (p : ℕ) → wide ≤ p → p < end → get_or mask p 0 ≢ 0 → get_or mask p 0 ≡ 255

-- the byte by which labels pass to the padded place p by the way x: that of p, if the place that is left may be left that way. Forward the
-- place by the way x is left, by the way back; backward p itself is left
abbrev pub door_at : List ℕ → ℕ → Bool → ℕ → ℕ → ℕ
door_at mask wide back x p = cond (opens_by (get_or mask (move_by wide p (cond back 2 x)) 0) (cond back x (way_back x))) (get_or mask p 0) 0

-- these bytes of the first n ways
pub record DoorsTo (n : ℕ) (mask : List ℕ) (wide end : ℕ) (back : Bool) (doors : List ℕ) : Type 0 where
  pub size : length doors ≡ 5780
  pub at : (x : ℕ) → x < n → (p : ℕ) → wide ≤ p → p < end → get_or doors (1156 * x + p) 0 ≡ door_at mask wide back x p

-- the doors that a step is given: none where no place is a lane, and else the bytes of the five ways
pub record Doors (mask : List ℕ) (w h : ℕ) (back : Bool) (doors : List ℕ) : Type 0 where
  pub none : length doors ≡ 0 → Plain mask (w + 2) ((w + 2) * (h + 1))
  pub five : length doors ≢ 0 → DoorsTo 5 mask (w + 2) ((w + 2) * (h + 1)) back doors

-- the same of a pass, which has these bytes or none
pub record Passable (mask : List ℕ) (w h : ℕ) (back : Bool) (doors : Option (Bor (List ℕ))) : Type 0 where
  pub none : doors ≡ None → Plain mask (w + 2) ((w + 2) * (h + 1))
  pub five : (ways : Bor (List ℕ)) → doors ≡ Some ways → DoorsTo 5 mask (w + 2) ((w + 2) * (h + 1)) back ways.now

abbrev pub bytes_of : Option (Bor (List ℕ)) → List ℕ
bytes_of None = []
bytes_of (Some ways) = ways.now

-- the byte of the way x to p before the constraints: where there are no doors that of the place
abbrev pub way_at : List ℕ → List ℕ → ℕ → ℕ → ℕ
way_at mask doors x p = cond (eqb (length doors) 0) (get_or mask p 0) (get_or doors (1156 * x + p) 0)

-- these bytes of the five ways
pub record Copies (mask doors ways : List ℕ) : Type 0 where
  pub size : length ways ≡ 5780
  pub copied : (k : ℕ) → k < 5 → (p : ℕ) → p < 1156 → get_or ways (1156 * k + p) 0 ≡ way_at mask doors k p

-- after the labels of src have gone one step at t: on every sheet that the numbers and the mask are those of
pub record Advanced (w h : ℕ) (mask : List ℕ) (i : Carrier) (cs : List Constraint) (t : ℕ) (back : Bool) (src before after : List ℕ) : Type 0 where
  pub size : length after ≡ 1156
  pub holds : (d : Sheet) (f : ℕ → ℕ) → Ground d w h mask → Labels d f → Holds d src f → Margin w h before → Holds d after (around d i cs t back f)

-- the same, where one may be there at `on`, raised by the goals
pub record Stepped (w h : ℕ) (mask : List ℕ) (i : Carrier) (cs : List Constraint) (t on : ℕ) (back : Bool) (goals : List ℕ) (n : ℕ) (src before after : List ℕ) : Type 0 where
  pub size : length after ≡ 1156
  pub holds : (d : Sheet) (gs : List ℕ) (f : ℕ → ℕ) → Ground d w h mask → GoalsAt w gs goals n → Labels d f → Holds d src f → Margin w h before
      → Holds d after (next_layer d i cs t on back gs f)

-- the layer of one place, where one may be at `on`, raised by the goals
pub record Seeded (w : ℕ) (i : Carrier) (cs : List Constraint) (on : ℕ) (goals : List ℕ) (n p : ℕ) (layer : List ℕ) : Type 0 where
  pub size : length layer ≡ 1156
  pub holds : (d : Sheet) (gs : List ℕ) (v : ℕ) → d.width ≡ w → GoalsAt w gs goals n → v < area d → p ≡ pad_of w v
      → Holds d layer (seed (stands d i cs on) gs v)
