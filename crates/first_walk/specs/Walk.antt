-- When a walk finishes from where it is, what it remembers, and what it answers. Assumes nothing.
use Rattle.std.specs.Prelude.{ℕ, ◌+◌, ◌-◌, ◌≤◌, ◌<◌, ◌≡◌, Bool, ◌&&◌, List, ◌∷◌, length, get_or, T, Result, Ok, Err, true, false}
use Rattle.deck.specs.Sheet.{Sheet, start_of}
use Rattle.deck.specs.Calls.{overwrite}
use Rattle.deck.specs.declared.Carrier.{Carrier}
use Rattle.deck.specs.declared.Task.{Task}
use Rattle.deck.specs.declared.Constraint.{Constraint}
use Rattle.kernel.specs.Layers.{back, good, trace}
use Rattle.kernel.specs.Labels.{all_goals, raised}
use Rattle.kernel.specs.Parts.{parts_of}
use Rattle.kernel.specs.Kernel.{hind, path_at}
use Rattle.bars.specs.Ways.{place_by, has_by}
use Rattle.layers.specs.Fill.{Filled}
use Rattle.first_walk.specs.declared.CutOff.{CutOff}
use Rattle.first_walk.specs.Slots.{code_of}

module _ (d : Sheet) (i : Carrier) (j : Task) (cs : List Constraint) (end : ℕ) where
  -- on u at t with the label k the task can be finished at the end, or cannot
  abbrev pub Meets : ℕ → ℕ → ℕ → Type 0
  Meets t u k = all_goals d j < k + back (parts_of d i j cs) (end - t) t u

  abbrev pub Fails : ℕ → ℕ → ℕ → Type 0
  Fails t u k = k + back (parts_of d i j cs) (end - t) t u ≤ all_goals d j

  -- the way x from there leads on to the finish
  abbrev pub goes_by : ℕ → ℕ → ℕ → ℕ → Bool
  goes_by t u k x = has_by d u x && good (parts_of d i j cs) (end - (t + 1)) t u k (place_by d u x)

  -- the places of the first walk from u at t on, and then on the last goal
  abbrev pub on_from : ℕ → ℕ → ℕ → List ℕ
  on_from t u k = u ∷ trace (parts_of d i j cs) (d.horizon - end) (end - t) t u k

  -- they stand in the words from t up to the end
  abbrev pub Written : ℕ → ℕ → ℕ → List ℕ → List ℕ → Type 0
  Written t u k before after = Filled t (end + 1) (λ p. get_or (on_from t u k) (p - t) 0) before after

  -- what is remembered cannot be finished
  pub record Dead (dead : List ℕ) : Type 0 where
    pub size : length dead ≡ 1024
    pub fails : (x t u k : ℕ) → t ≤ end → u < 1024 → k ≤ all_goals d j → get_or dead x 0 ≡ code_of t u k → Fails t u k

  -- the walk from u at t
  abbrev pub DivedBy : ℕ → ℕ → ℕ → List ℕ → List ℕ → Result Bool CutOff → Type 0
  DivedBy t u k before after (Ok true) = Meets t u k × Written t u k before after
  DivedBy t u k before after (Ok false) = Fails t u k × (after ≡ before)
  DivedBy t u k before after (Err e) = after ≡ before

  pub record Dived (t u k : ℕ) (before after : List ℕ) (r : Result Bool CutOff) : Type 0 where
    pub says : DivedBy t u k before after r

  -- the walk from u at t by the way x
  abbrev pub LedBy : ℕ → ℕ → ℕ → ℕ → List ℕ → List ℕ → Result Bool CutOff → Type 0
  LedBy t u k x before after (Ok true) =
      T (goes_by t u k x) × Written (t + 1) (place_by d u x) (raised d j u (place_by d u x) k) before after
  LedBy t u k x before after (Ok false) = (¬ T (goes_by t u k x)) × (after ≡ before)
  LedBy t u k x before after (Err e) = after ≡ before

  pub record Led (t u k x : ℕ) (before after : List ℕ) (r : Result Bool CutOff) : Type 0 where
    pub says : LedBy t u k x before after r

-- the answer: the first path that finishes at the end is written; there is none; or the walk was cut off
abbrev pub Walked : Sheet → Carrier → Task → List Constraint → ℕ → List ℕ → List ℕ → Result Bool CutOff → Type 0
Walked d i j cs end before after (Ok true) =
    (all_goals d j < hind d i j cs end 0 (start_of d i)) × (after ≡ overwrite (path_at d i j cs (d.horizon - end) end) before)
Walked d i j cs end before after (Ok false) = (¬ (all_goals d j < hind d i j cs end 0 (start_of d i))) × (after ≡ before)
Walked d i j cs end before after (Err e) = after ≡ before
