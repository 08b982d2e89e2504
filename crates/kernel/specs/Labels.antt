-- The labels of a task by name: the passes and all that rests on them speak of labels by these, and not of how goals are counted.
-- Assumes nothing.
use Rattle.std.specs.Prelude.{ℕ, length}
use Rattle.deck.specs.Sheet.{Sheet, start_of, goals_of}
use Rattle.deck.specs.declared.Carrier.{Carrier}
use Rattle.deck.specs.declared.Task.{Task}
use Rattle.kernel.specs.Goals.{up}

-- the label once all goals are visited
unfoldable pub all_goals : Sheet → Task → ℕ
all_goals d j = length (goals_of d j)

-- the label on the start at time 0
unfoldable pub first_label : Sheet → Carrier → Task → ℕ
first_label d i j = up (start_of d i) (goals_of d j) 0

-- the label on v, come from u with the label k: v alone counts, wherever one comes from
unfoldable pub raised : Sheet → Task → ℕ → ℕ → ℕ → ℕ
raised d j u v k = up v (goals_of d j) k
