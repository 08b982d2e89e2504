-- A layer is 0 at a blocked place. Assumes nothing.
use Rattle.std.proofs.Common.{ℕ, zero, suc, max, ◌≡◌, refl, sym, subst, Bool, true, false, cond, ◌&&◌, List, [], ◌∷◌, reverse, T, eqb, eqb-true}
use Rattle.deck.specs.Sheet.{Sheet, free, start_of, goals_of, last_goal}
use Rattle.deck.specs.Paths.{may_step}
use Rattle.deck.specs.declared.Carrier.{Carrier}
use Rattle.deck.specs.declared.Task.{Task}
use Rattle.deck.specs.declared.Constraint.{Constraint}
use Rattle.kernel.specs.Layers.{best}
use Rattle.kernel.specs.Parts.{free_move, stands, step_free}
use Rattle.kernel.specs.Near.{near}
use Rattle.kernel.specs.Kernel.{settle, fore, hind}
use Rattle.kernel.proofs.Both.{and_left, and_right}

-- the greatest over a list of which none passes the test
pub best_none : (ok : ℕ → Bool) (f : ℕ → ℕ) (l : List ℕ) → ((x : ℕ) → ¬ T (ok x)) → best ok f l ≡ 0
best_none ok f [] h = refl
best_none ok f (x ∷ l) h = go (ok x) refl (best_none ok f l h)
  where
    go : (b : Bool) → ok x ≡ b → best ok f l ≡ 0 → cond b (max (f x) (best ok f l)) (best ok f l) ≡ 0
    go true e i = absurd (h x (rw e tt))
    go false e i = i

-- nothing is settled where nothing lies
pub settle_none : (stand : ℕ → Bool) (gs : List ℕ) (v b : ℕ) → b ≡ 0 → settle stand gs v b ≡ 0
settle_none stand gs v b e = rw e (go (stand v))
  where
    go : (c : Bool) → ◌≡◌ {A = ℕ} (cond c 0 0) 0
    go true = refl
    go false = refl

-- another place than the first
seed_none : (v p : ℕ) (f : ℕ → Bool) → T (f p) → ¬ T (f v) → ◌≡◌ {A = ℕ} (cond (eqb v p) 1 0) 0
seed_none v p f a b = go (eqb v p) refl
  where
    go : (c : Bool) → eqb v p ≡ c → ◌≡◌ {A = ℕ} (cond c 1 0) 0
    go true e = absurd (b (subst (λ (x : ℕ). T (f x)) (sym (eqb-true v p e)) a))
    go false e = refl

module _ (d : Sheet) (i : Carrier) (j : Task) (cs : List Constraint) where
  -- of a step both places are free
  free_both : (t u v : ℕ) → T (step_free d u v) → T (free d u) × T (free d v)
  unfolding step_free
  free_both t u v h = (and_left (free d u) _ h, and_left (free d v) (may_step d u v) (and_right (free d u) _ h))

  pub fore_blocked : T (free d (start_of d i)) → (t v : ℕ) → ¬ T (free d v) → fore d i j cs t v ≡ 0
  unfolding fore
  fore_blocked s zero v h = settle_none (stands d i cs 0) (goals_of d j) v _ (seed_none v (start_of d i) (free d) s h)
  fore_blocked s (suc t) v h = settle_none (stands d i cs (suc t)) (goals_of d j) v _
      (best_none (λ u. step_free d u v && free_move i cs t u v) (fore d i j cs t) (near d v) (λ u k. h (free_both t u v (and_left (step_free d u v) (free_move i cs t u v) k)).1))

  pub hind_blocked : T (free d (last_goal d j)) → (n t u : ℕ) → ¬ T (free d u) → hind d i j cs n t u ≡ 0
  unfolding hind
  hind_blocked s zero t u h = settle_none (stands d i cs t) (reverse (goals_of d j)) u _ (seed_none u (last_goal d j) (free d) s h)
  hind_blocked s (suc n) t u h = settle_none (stands d i cs t) (reverse (goals_of d j)) u _
      (best_none (λ v. step_free d u v && free_move i cs t u v) (hind d i j cs n (suc t)) (near d u) (λ v k. h (free_both t u v (and_left (step_free d u v) (free_move i cs t u v) k)).0))
