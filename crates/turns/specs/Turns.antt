-- What a turn and the end of the search on the workspace are to the definition's. Assumes nothing.
use Rattle.std.specs.Prelude.{ℕ, ◌<◌, ◌≡◌, List, get_or}
use Rattle.std.specs.declared.ops.ControlFlow.{ControlFlow}
use Rattle.std.specs.declared.ops.ControlFlow.TheVariants.{Continue, Break}
use Rattle.deck.specs.Sheet.{Sheet}
use Rattle.deck.specs.Search.{State, Turn, done, more, Answer, plan, no_plan, spent}
use Rattle.deck.specs.Planner.{problem}
use Rattle.deck.specs.Calls.{task_list}
use Rattle.deck.specs.declared.Constraint.{Constraint}
use Rattle.optimal.specs.Invariant.{Invariant}
use Rattle.optimal.specs.Deck.{rules}
use Rattle.records.specs.Record.{fields_at, tasks_in, bytes}
use Rattle.nodes.specs.Nodes.{node_at}
use Rattle.expand.specs.Held.{Held}
use Rattle.expand.specs.declared.Made.{Made}
use Rattle.turns.specs.declared.End.{End}
use Rattle.turns.specs.declared.End.TheVariants.{Plan, NoPlan, Spent}

-- the starts of the sheet's carriers
abbrev pub StartsOf : Sheet → List ℕ → Type 0
StartsOf d starts = (i : ℕ) → i < d.count → get_or starts i 0 ≡ get_or d.starts i 0

-- the state is held and keeps the search's invariant after k turns
abbrev pub Turning : Sheet → List ℕ → ℕ → ℕ → ℕ → State (List ℕ) Constraint → Type 0
Turning d work made latest k st = Held d work made latest st × Invariant (problem d) (rules d) d.limit st k

-- node n with this cost is the plan: its tasks and paths are those of its record
pub record PlanAt (d : Sheet) (work : List ℕ) (made n cost : ℕ) (a : Answer (List ℕ)) : Type 0 where
  pub inside : n < d.limit
  pub answer : a ≡ plan (node_at d work n).tasks (node_at d work n).paths cost made cost
  pub tasks : bytes (tasks_in (fields_at work n)) ≡ task_list (node_at d work n).tasks

-- the end is the answer a
abbrev pub EndedWith : Sheet → List ℕ → End → Answer (List ℕ) → Type 0
EndedWith d work (Plan node made) a = PlanAt d work made node.n node.cost a
EndedWith d work (NoPlan made) a = a ≡ no_plan made
EndedWith d work (Spent bound) a = a ≡ spent d.limit bound

-- what a turn on the workspace comes to is the definition's turn t
abbrev pub TurnedTo : Sheet → List ℕ → ControlFlow End Made → Turn (List ℕ) Constraint → Type 0
TurnedTo d work (Continue m) t = (st : State (List ℕ) Constraint) × (t ≡ more st) × Held d work m.nodes m.latest st
TurnedTo d work (Break end) t = (a : Answer (List ℕ)) × (t ≡ done a) × EndedWith d work end a
