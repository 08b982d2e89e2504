-- Where a walk is, what it sees from there, and what it answers. Assumes nothing.
use Rattle.std.specs.Prelude.{ℕ, ◌+◌, ◌≤◌, ◌≡◌, Bool, List, T, Option, None, Some, Result}
use Rattle.deck.specs.Sheet.{Sheet, free}
use Rattle.deck.specs.declared.Carrier.{Carrier}
use Rattle.deck.specs.declared.Task.{Task}
use Rattle.deck.specs.declared.Constraint.{Constraint}
use Rattle.kernel.specs.Labels.{all_goals, raised}
use Rattle.kernel.specs.Layers.{pass}
use Rattle.kernel.specs.Parts.{parts_of}
use Rattle.bars.specs.Padded.{pad_of}
use Rattle.bars.specs.Ways.{place_by, has_by}
use Rattle.passes.specs.Courses.{sheet_of, carrier_of, bars_of}
use Rattle.first_walk.specs.declared.CutOff.{CutOff}
use Rattle.first_walk.specs.declared.Walk.{Walk}
use Rattle.first_walk.specs.declared.spot.Spot.{Spot}
use Rattle.first_walk.specs.Walk.{goes_by, Dead, Dived as DivedFrom}

-- on the free place u at t, with the label k
pub record OnPlace (d : Sheet) (j : Task) (end t u p k : ℕ) : Type 0 where
  pub on_free : T (free d u)
  pub padded : p ≡ pad_of d.width u
  pub label : k ≤ all_goals d j
  pub time : t ≤ end

-- what a look by the way x from the place u at t with the label k says of where it leads
abbrev pub SeenFrom : Sheet → Carrier → Task → List Constraint → (end t u k x : ℕ) → Option Spot → Type 0
SeenFrom d i j cs end t u k x None = ¬ T (goes_by d i j cs end t u k x)
SeenFrom d i j cs end t u k x (Some s) =
    T (has_by d u x) × (s.place ≡ place_by d u x) × (s.visited ≡ raised d j u s.place k) × T (pass (parts_of d i j cs) t u s.place)
    × OnPlace d j end (t + 1) s.place s.padded s.visited × (s.time ≡ t + 1)

-- the same of a walk and a spot
abbrev pub On : Walk → Spot → Type 0
On w s = OnPlace (sheet_of w.course.now) w.course.now.task w.end s.time s.place s.padded s.visited

abbrev pub Seen : Walk → Spot → ℕ → Option Spot → Type 0
Seen w s x r = SeenFrom (sheet_of w.course.now) (carrier_of w.course.now) w.course.now.task (bars_of w.course.now) w.end s.time s.place s.visited x r

abbrev pub Remembers : Walk → List ℕ → Type 0
Remembers w codes = Dead (sheet_of w.course.now) (carrier_of w.course.now) w.course.now.task (bars_of w.course.now) w.end codes

abbrev pub Dived : Walk → Spot → List ℕ → List ℕ → Result Bool CutOff → Type 0
Dived w s before after r = DivedFrom (sheet_of w.course.now) (carrier_of w.course.now) w.course.now.task (bars_of w.course.now) w.end s.time s.place s.visited before after r
