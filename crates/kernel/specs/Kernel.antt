-- The two passes as one function on layers: forward from the start with the goals, backward from the last goal with the goals
-- reversed. Assumes nothing.
use Rattle.std.specs.Prelude.{ℕ, zero, suc, ◌+◌, ◌≤◌, ◌<◌, ◌≡◌, Bool, cond, ◌&&◌, List, ◌∷◌, reverse, replicate, T, eqb, leb, ltb, Some}
use Rattle.deck.specs.Sheet.{Sheet, free, start_of, goals_of, last_goal}
use Rattle.deck.specs.Paths.{least_path, finish_of}
use Rattle.deck.specs.declared.Carrier.{Carrier}
use Rattle.deck.specs.declared.Task.{Task}
use Rattle.deck.specs.declared.Constraint.{Constraint}
use Rattle.kernel.specs.Layers.{Parts, best, first_of, lift, back}
use Rattle.kernel.specs.Goals.{up}
use Rattle.kernel.specs.Labels.{all_goals, first_label, raised}
use Rattle.kernel.specs.Parts.{parts_of, rest_from}

-- a layer: a number for each place. At v what lies there is raised by v itself, and is 0 where one may not be
abbrev pub settle : (ℕ → Bool) → List ℕ → ℕ → ℕ → ℕ
settle stand gs v b = let r = lift (up v gs) b in cond (stand v) r 0

-- the first layer: the one place p
abbrev pub seed : (ℕ → Bool) → List ℕ → ℕ → ℕ → ℕ
seed stand gs p v = settle stand gs v (cond (eqb v p) 1 0)

-- the next layer: the greatest of the layer f over the places around v between which and v one may go
abbrev pub layer : (ℕ → Bool) → List ℕ → (ℕ → ℕ → Bool) → (ℕ → List ℕ) → (ℕ → ℕ) → ℕ → ℕ
layer stand gs may around f v = settle stand gs v (best (may v) f (around v))

module _ (d : Sheet) (i : Carrier) (j : Task) (cs : List Constraint) where
  abbrev pub parts : Parts
  parts = parts_of d i j cs

  -- 1 + the most goals that an allowed walk of t steps has visited on v, and 0 for none
  unfoldable pub fore : ℕ → ℕ → ℕ
  fore zero v = seed (parts.stand 0) (goals_of d j) (start_of d i) v
  fore (suc t) v = layer (parts.stand (suc t)) (goals_of d j) (λ v u. parts.step t u v) parts.preds (fore t) v

  -- 1 + the most goals, counted from the last, that an allowed walk from u at t visits that is on the last goal n steps later
  unfoldable pub hind : ℕ → ℕ → ℕ → ℕ
  hind zero t u = seed (parts.stand t) (reverse (goals_of d j)) (last_goal d j) u
  hind (suc n) t u = layer (parts.stand t) (reverse (goals_of d j)) (parts.step t) parts.succs (hind n (suc t)) u

  -- with the label k on u at t, a step to v is allowed and n steps after it the task is finished
  unfoldable pub onward : ℕ → ℕ → ℕ → ℕ → ℕ → Bool
  onward n t u k v = parts.step t u v && ltb (all_goals d j) (k + hind n (suc t) v)

  -- the places after u: n steps, each to the least place that keeps the time, then m steps on the last goal
  unfoldable pub follow : ℕ → ℕ → ℕ → ℕ → ℕ → List ℕ
  follow m zero t u k = replicate m (last_goal d j)
  follow m (suc n) t u k =
      let v = first_of (onward n t u k) (parts.succs u) in v ∷ follow m n (suc t) v (raised d j u v k)

  -- the path with the finish n, where m steps are left then
  unfoldable pub path_at : ℕ → ℕ → List ℕ
  path_at m n = start_of d i ∷ follow m n 0 (start_of d i) (first_label d i j)

  -- at n all goals can be visited with the carrier on the last goal, and it may stay there
  unfoldable pub meets_at : ℕ → Bool
  meets_at n = leb (rest_from d i (last_goal d j) cs) n && ltb (all_goals d j) (fore n (last_goal d j))

  -- r is the least time at which the task can be finished, and above the horizon where there is none
  pub record LeastTime (r : ℕ) : Type 0 where
    pub meets : r ≤ d.horizon → T (meets_at r)
    pub first : (n : ℕ) → n ≤ d.horizon → T (meets_at n) → r ≤ n

  -- no path finishes before the bound
  abbrev pub NoEarlier : ℕ → Type 0
  NoEarlier bound = (p : List ℕ) → least_path d i j cs ≡ Some p → bound ≤ finish_of d j p

  -- on u at t with the label k the task can be finished n steps later
  pub record OnTime (n t u k : ℕ) : Type 0 where
    pub on_free : T (free d u)
    pub label : k ≤ all_goals d j
    pub comes : all_goals d j < k + back parts n t u
