-- Lower bounds on the steps that are left. Assumes nothing.
use Rattle.std.specs.Prelude.{ℕ, ◌+◌, ◌*◌, ◌≤◌, ◌<◌, List, get_or}
use Rattle.deck.specs.Sheet.{Sheet, area}
use Rattle.deck.specs.declared.Carrier.{Carrier}
use Rattle.deck.specs.declared.Task.{Task}
use Rattle.deck.specs.declared.Constraint.{Constraint}
use Rattle.kernel.specs.Layers.{back}
use Rattle.kernel.specs.Labels.{all_goals}
use Rattle.kernel.specs.Parts.{parts_of}

-- from the place u with the label k: where the task can be finished n steps after t, under any constraints, the bound is at most n
abbrev pub Low : Sheet → Task → List ℕ → Type 0
Low d j table = (i : Carrier) (cs : List Constraint) (n t u k : ℕ) → k ≤ all_goals d j → u < area d → all_goals d j < k + back (parts_of d i j cs) n t u → get_or table (1024 * k + u) 0 ≤ n
