-- Demand 3 of the search call: of its answer and of the words of output as they stand afterwards. Assumes nothing.
use Rattle.std.specs.Prelude.{ℕ, suc, ◌≡◌, List, take, Result, Ok, Err}
use Rattle.deck.specs.Lists.{sum, pieces}
use Rattle.deck.specs.Sheet.{Sheet}
use Rattle.deck.specs.declared.cause.Cause.{Cause}
use Rattle.deck.specs.declared.SearchAnswer.{SearchAnswer}
use Rattle.deck.specs.declared.SearchAnswer.TheVariants.{Plan as PlanFound, NoPlan, Spent}
use Rattle.meaning.specs.Meaning.{Plan, NoPlanBelow}

-- by the case of the answer: the task list's first m numbers with the paths that were written are a plan of least flowtime; there is
-- no plan; no plan is below the bound
abbrev pub RightAnswer : Sheet → SearchAnswer → List ℕ → Type 0
RightAnswer d (PlanFound tasks f n b) out =
    ((fs : List ℕ)
    × Plan d (take d.count tasks) (pieces d.count (suc d.horizon) out) fs
    × (sum fs ≡ f))
    × (b ≡ f)
    × NoPlanBelow d f
RightAnswer d (NoPlan n) out = (tasks : List ℕ) (ps : List (List ℕ)) (fs : List ℕ) → ¬ Plan d tasks ps fs
RightAnswer d (Spent n b) out = NoPlanBelow d b

-- a refused call says nothing of plans
abbrev pub RightCall : Sheet → Result SearchAnswer Cause → List ℕ → Type 0
RightCall d (Ok a) out = RightAnswer d a out
RightCall d (Err c) out = Unit {0}
