-- What a board says, in the meaning's terms. Assumes nothing.
use Rattle.std.specs.Prelude.{ℕ, suc, ◌≤◌, ◌<◌, ◌≡◌, ◌⊎◌, List, get_or, Result, Ok, Err}
use Rattle.deck.specs.Lists.{pieces}
use Rattle.deck.specs.Sheet.{Sheet, last_goal}
use Rattle.deck.specs.declared.cause.Cause.{Cause}
use Rattle.deck.specs.declared.SearchAnswer.{SearchAnswer}
use Rattle.deck.specs.declared.SearchAnswer.TheVariants.{Plan, NoPlan, Spent}
use Rattle.meaning.specs.Meaning.{◌at◌, path_of, Path}
use Rattle.board_lines.specs.Board.{no_line}
use Rattle.board_lines.specs.declared.Line.{Line}

-- the line at k
abbrev pub line_at : List Line → ℕ → Line
line_at ls k = get_or ls k no_line

-- x comes before y: "sorted by finish and then by last goal"
abbrev pub Earlier : Line → Line → Type 0
Earlier x y = (x.finish < y.finish) ⊎ ((x.finish ≡ y.finish) × (x.goal < y.goal))

-- of a plan, by its task list and the words of its paths
pub record Stands (d : Sheet) (tasks words : List ℕ) (ls : List Line) : Type 0 where
  -- "Every task of a plan stands on the board once": at k, and nowhere else
  pub once : (j : ℕ) → j < d.count
      → (k : ℕ) × (k < d.count) × ((line_at ls k).task.0 ≡ j) × ((l : ℕ) → l < d.count → (line_at ls l).task.0 ≡ j → l ≡ k)
  -- with the carrier that has it
  pub carriers : (k : ℕ) → k < d.count
      → ((line_at ls k).carrier.0 < d.count) × ((line_at ls k).task.0 < d.count) × (tasks at (line_at ls k).carrier.0 ≡ (line_at ls k).task.0)
  -- with its last goal
  pub goals : (k : ℕ) → k < d.count → (line_at ls k).goal ≡ last_goal d (line_at ls k).task
  -- and with the finish of the path that was written
  pub finishes : (k : ℕ) → k < d.count
      → Path d (line_at ls k).carrier (line_at ls k).task (path_of (pieces d.count (suc d.horizon) words) (line_at ls k).carrier.0) (line_at ls k).finish
  -- in strictly rising order
  pub rising : (k l : ℕ) → k < l → l < d.count → Earlier (line_at ls k) (line_at ls l)
  -- "the rest zeros"
  pub rest : (k : ℕ) → d.count ≤ k → line_at ls k ≡ no_line

-- no line at all
abbrev pub Empty : List Line → Type 0
Empty ls = (k : ℕ) → line_at ls k ≡ no_line

-- by the answer
abbrev pub BoardStands : Sheet → Result SearchAnswer Cause → List ℕ → List Line → Type 0
BoardStands d (Ok (Plan tasks f n b)) words ls = Stands d tasks words ls
BoardStands d (Ok (NoPlan n)) words ls = Empty ls
BoardStands d (Ok (Spent n b)) words ls = Empty ls
BoardStands d (Err c) words ls = Empty ls
