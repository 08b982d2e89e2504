-- What the plan check's yes says of the sheet, the task list and the words, by the meaning. Assumes nothing.
use Rattle.std.specs.Prelude.{ℕ, suc, ◌≤◌, ◌<◌, ◌≡◌, ◌↔◌, List, length, take, Option, None, Some, Result, Ok}
use Rattle.deck.specs.Lists.{◌at◌, sum, pieces}
use Rattle.deck.specs.Sheet.{read, sheet_cause, count_of, horizon_of}
use Rattle.deck.specs.Calls.{plan_words}
use Rattle.deck.specs.declared.cause.Cause.{Cause}
use Rattle.meaning.specs.Meaning.{Plan}

-- the sheet is accepted, the words are as many as a plan has, 255 follows the first m tasks, and these with the words, carrier by
-- carrier, are a plan with the flowtime f
pub record PlanFor (s tasks ws : List ℕ) (f : ℕ) : Type 0 where
  pub accepted : sheet_cause s ≡ None
  pub exact : length ws ≡ plan_words (read s)
  pub rest : (k : ℕ) → count_of s ≤ k → k < length tasks → tasks at k ≡ 255
  pub finishes : List ℕ
  pub plan : Plan (read s) (take (count_of s) tasks) (pieces (count_of s) (suc (horizon_of s)) ws) finishes
  pub flowtime : sum finishes ≡ f

-- "Plan check says yes exactly for a plan, with its flowtime"
abbrev pub Meant : List ℕ → List ℕ → List ℕ → Result (Option ℕ) Cause → Type 0
Meant s tasks ws r = (f : ℕ) → (r ≡ Ok (Some f)) ↔ PlanFor s tasks ws f
