-- A layer's numbers are at most one more than the label of all goals. Assumes nothing.
use Rattle.std.proofs.Common.{ℕ, zero, suc, ◌≤◌, zero-le, max, Bool, true, false, cond, ◌&&◌, List, [], ◌∷◌, reverse, arith, length, eqb}
use Rattle.std.proofs.lemmas.List.{length-reverse}
use Rattle.deck.specs.Sheet.{Sheet, start_of, goals_of, last_goal}
use Rattle.deck.specs.declared.Carrier.{Carrier}
use Rattle.deck.specs.declared.Task.{Task}
use Rattle.deck.specs.declared.Constraint.{Constraint}
use Rattle.kernel.specs.Layers.{best, lift}
use Rattle.kernel.specs.Goals.{up}
use Rattle.kernel.specs.Labels.{all_goals}
use Rattle.kernel.specs.Near.{near}
use Rattle.kernel.specs.Parts.{free_move, stands, step_free}
use Rattle.kernel.specs.Kernel.{settle, fore, hind}
use Rattle.kernel.proofs.Labels.{up_le}

best_le : (ok : ℕ → Bool) (f : ℕ → ℕ) (l : List ℕ) (n : ℕ) → ((x : ℕ) → f x ≤ n) → best ok f l ≤ n
best_le ok f [] n h = zero-le
best_le ok f (x ∷ l) n h = go (ok x) (best_le ok f l n h)
  where
    go : (b : Bool) → best ok f l ≤ n → cond b (max (f x) (best ok f l)) (best ok f l) ≤ n
    go true i = omega (arith, h x)
    go false i = i

settle_le : (stand : ℕ → Bool) (gs : List ℕ) (v b : ℕ) → b ≤ suc (length gs) → settle stand gs v b ≤ suc (length gs)
settle_le stand gs v b h = go (stand v) b h
  where
    go : (c : Bool) (b : ℕ) → b ≤ suc (length gs) → cond c (lift (up v gs) b) 0 ≤ suc (length gs)
    go true zero l = zero-le
    go true (suc k) l = omega (arith, up_le v gs k (omega arith))
    go false b l = zero-le

one_le : (c : Bool) (n : ℕ) → cond c 1 0 ≤ suc n
one_le true n = omega arith
one_le false n = zero-le

module _ (d : Sheet) (i : Carrier) (j : Task) (cs : List Constraint) where
  pub fore_le : (t v : ℕ) → fore d i j cs t v ≤ suc (all_goals d j)
  unfolding fore all_goals
  fore_le zero v = settle_le (stands d i cs 0) (goals_of d j) v _ (one_le (eqb v (start_of d i)) (length (goals_of d j)))
  fore_le (suc t) v = settle_le (stands d i cs (suc t)) (goals_of d j) v _
      (best_le (λ u. step_free d u v && free_move i cs t u v) (fore d i j cs t) (near d v) (suc (length (goals_of d j))) (fore_le t))

  hind_turned : (n t u : ℕ) → hind d i j cs n t u ≤ suc (length (reverse (goals_of d j)))
  unfolding hind
  hind_turned zero t u = settle_le (stands d i cs t) (reverse (goals_of d j)) u _ (one_le (eqb u (last_goal d j)) (length (reverse (goals_of d j))))
  hind_turned (suc n) t u = settle_le (stands d i cs t) (reverse (goals_of d j)) u _
      (best_le (λ v. step_free d u v && free_move i cs t u v) (hind d i j cs n (suc t)) (near d u) (suc (length (reverse (goals_of d j)))) (hind_turned n (suc t)))

  pub hind_le : (n t u : ℕ) → hind d i j cs n t u ≤ suc (all_goals d j)
  unfolding all_goals
  hind_le n t u = omega (arith, hind_turned n t u, length-reverse (goals_of d j))
