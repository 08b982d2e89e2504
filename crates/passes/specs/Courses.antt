-- What the two passes do on a course. Assumes nothing.
use Rattle.std.specs.Prelude.{ℕ, suc, ◌*◌, ◌≤◌, Bool, List, length, ltb, Option, None, Some}
use Rattle.std.specs.Borrow.{Bor}
use Rattle.deck.specs.Sheet.{Sheet, read, area, start_of}
use Rattle.deck.specs.Calls.{constraints_of}
use Rattle.deck.specs.declared.Carrier.{Carrier}
use Rattle.deck.specs.declared.Constraint.{Constraint}
use Rattle.kernel.specs.Labels.{all_goals}
use Rattle.kernel.specs.Kernel.{hind, LeastTime}
use Rattle.layers.specs.Step.{Passable}
use Rattle.passes.specs.Ready.{Early, Backed}
use Rattle.passes.specs.declared.Course.{Course}

-- the sheet, the carrier and the constraints
abbrev pub sheet_of : Course → Sheet
sheet_of c = read c.sheet.now.bytes.now

abbrev pub carrier_of : Course → Carrier
carrier_of c = c.chains.now.carrier

abbrev pub bars_of : Course → List Constraint
bars_of c = constraints_of c.chains.now.records.now

-- a time before which the carrier cannot finish, and from which it may stay on its last goal
abbrev pub EarlyOn : Course → ℕ → Type 0
EarlyOn c from = Early c.sheet.now.bytes.now (carrier_of c) c.task c.chains.now.records.now from

-- the least time at which the task can be finished, or one above the horizon
abbrev pub LeastOn : Course → ℕ → Type 0
LeastOn c t = LeastTime (sheet_of c) (carrier_of c) c.task (bars_of c) t

-- the same of a time within the horizon, or none
abbrev pub LeastIs : Course → Option ℕ → Type 0
LeastIs c None = LeastOn c (suc (sheet_of c).horizon)
LeastIs c (Some t) = LeastOn c t × (t ≤ (sheet_of c).horizon)

-- the task can be finished at `end`
abbrev pub can_finish : Course → ℕ → Bool
can_finish c end = ltb (all_goals (sheet_of c) c.task) (hind (sheet_of c) (carrier_of c) c.task (bars_of c) end 0 (start_of (sheet_of c) (carrier_of c)))

-- the words have room for a layer to each time
abbrev pub Roomy : Course → List ℕ → Type 0
Roomy c words = suc (sheet_of c).horizon * area (sheet_of c) ≤ length words

-- they hold the layers from time t up to `end` of the backward pass from `end`
abbrev pub BackedOn : Course → ℕ → ℕ → List ℕ → Type 0
BackedOn c end t words = Backed c.sheet.now.bytes.now (carrier_of c) c.task c.chains.now.records.now end t words

-- the doors by which a pass goes in the one direction or the other
abbrev pub DoorsOn : Course → Bool → Option (Bor (List ℕ)) → Type 0
DoorsOn c back doors = Passable c.mask.now c.size.width c.size.height back doors
