-- Labels raised at the goals of a task, goal by goal. Assumes nothing.
use Rattle.std.specs.Prelude.{ℕ, zero, suc, ◌<◌, ◌≡◌, cond, List, length, get_or, eqb}
use Rattle.bars.specs.Padded.{pad_of}

-- one more than a label that has just the k goals before goal k, on goal k
abbrev pub bumped : ℕ → ℕ → ℕ
bumped k b = cond (eqb b (suc k)) (suc (suc k)) b

-- the number b at p, raised by the first k goals
abbrev pub raised_by : List ℕ → ℕ → ℕ → ℕ → ℕ
raised_by goals zero p b = b
raised_by goals (suc k) p b = let r = raised_by goals k p b in cond (eqb p (get_or goals k 0)) (bumped k r) r

-- each number of the list is raised
pub record Raised (goals : List ℕ) (n : ℕ) (before after : List ℕ) : Type 0 where
  pub size : length after ≡ length before
  pub at : (p : ℕ) → get_or after p 0 ≡ raised_by goals n p (get_or before p 0)

-- each goal is an index of a layer
abbrev pub Indexes : List ℕ → ℕ → Type 0
Indexes goals n = (k : ℕ) → k < n → get_or goals k 0 < 1156

-- the goals gs as padded places of a grid of width w
pub record GoalsAt (w : ℕ) (gs goals : List ℕ) (n : ℕ) : Type 0 where
  pub many : length gs ≡ n
  pub at : (k : ℕ) → k < n → get_or goals k 0 ≡ pad_of w (get_or gs k 0)
