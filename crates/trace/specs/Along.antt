-- What the trace goes by: the layers of the backward pass, looked at around one place. Assumes nothing.
use Rattle.std.specs.Prelude.{ℕ, ◌+◌, ◌-◌, ◌/◌, ◌≤◌, ◌<◌, ◌≡◌, ◌≢◌, Bool, not, ◌&&◌, List, length, get_or, T, eqb, ltb}
use Rattle.deck.specs.declared.Carrier.{Carrier}
use Rattle.deck.specs.declared.Constraint.{Constraint}
use Rattle.kernel.specs.Parts.{free_move}
use Rattle.bars.specs.Ways.{opens_by, turn_of, move_by}
use Rattle.layers.specs.Packed.{kept_at}
use Rattle.passes.specs.Listed.{listed}
use Rattle.passes.specs.Courses.{carrier_of, bars_of}
use Rattle.trace.specs.declared.kept_layers.Kept.{Kept}

-- the labels that are enough: from goal k of n to the last
pub record Visited (goals : List ℕ) (n p k r : ℕ) : Type 0 where
  pub from : k ≤ r
  pub within : r ≤ n
  pub passed : (m : ℕ) → k ≤ m → m < r → get_or goals m 0 ≡ p
  pub stops : r < n → get_or goals r 0 ≢ p

-- a look around the place u with the padded number p, on a grid of width w, at time t with the label k of n: the layer of t + 1 is kept
-- from the word `at` on
pub record View : Type 0 where
  pub i : Carrier
  pub cs : List Constraint
  pub mask : List ℕ
  pub words : List ℕ
  pub w : ℕ
  pub n : ℕ
  pub t : ℕ
  pub u : ℕ
  pub p : ℕ
  pub at : ℕ
  pub k : ℕ

abbrev pub view : Kept → ℕ → ℕ → ℕ → ℕ → ℕ → View
view kept t u p at k =
    record {
      i = carrier_of kept.course.now;
      cs = bars_of kept.course.now;
      mask = kept.course.now.mask.now;
      words = kept.words.now;
      w = kept.course.now.size.width;
      n = length (listed kept.course.now.goals);
      t = t;
      u = u;
      p = p;
      at = at;
      k = k;
    }

-- the padded place by the way x, and its byte in the layer
abbrev pub spot_of : View → ℕ → ℕ
spot_of l x = move_by (l.w + 2) l.p x

abbrev pub byte_of : View → ℕ → ℕ
byte_of l x = spot_of l x - (l.w + 2)

-- by the mask and the layer, a step by the way x leads to a free place, keeps the time and is not barred
abbrev pub way_on : View → ℕ → Bool
way_on l x =
    not (eqb (get_or l.mask (spot_of l x) 0) 0)
    && (ltb l.n (l.k + kept_at l.words l.at (byte_of l x)) && free_move l.i l.cs l.t l.u (move_by l.w l.u x))

-- and the place itself may be left that way
abbrev pub leads_on : View → ℕ → Bool
leads_on l x = opens_by (get_or l.mask l.p 0) x && way_on l x

-- r is the first of the five ways that passes the test, and 5 where none does
pub record FirstWay (ok : ℕ → Bool) (r : ℕ) : Type 0 where
  pub within : r ≤ 5
  pub before : (y : ℕ) → y < r → ¬ T (ok y)
  pub passes : r < 5 → T (ok r)

-- the byte is among those kept
abbrev pub Inside : View → ℕ → Type 0
Inside l b = (b < 4096) × (l.at + 1024 < 18446744073709551615) × (l.at + b / 4 < length l.words)

-- what a look asks
pub record Sees (l : View) : Type 0 where
  pub in_time : l.t < 256
  pub label : l.k < 224
  pub place : l.u < 1024
  pub padded : (l.w + 2 ≤ l.p) × (l.p < 1156)
  pub masked : (x : ℕ) → x < 5 → spot_of l x < 1156
  pub open_way : (x : ℕ) → x < 5 → get_or l.mask (spot_of l x) 0 ≢ 0 → (l.w ≤ l.u + turn_of l.w x) × (l.w + 2 ≤ spot_of l x) × Inside l (byte_of l x)
