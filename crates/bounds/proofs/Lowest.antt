-- A table that passes the test bounds the steps that are left from below. Assumes nothing.
use Rattle.std.proofs.Common.{ℕ, zero, suc, ◌+◌, ◌*◌, ◌≤◌, ◌<◌, ◌≡◌, refl, sym, subst, Bool, true, false, cond, List, [], ◌∷◌, le_refl, arith, length, get_or, T, eqb, eqb→eq, ltb→lt}
use Rattle.deck.specs.Sheet.{Sheet, goals_of, last_goal}
use Rattle.deck.specs.declared.Carrier.{Carrier}
use Rattle.deck.specs.declared.Task.{Task}
use Rattle.deck.specs.declared.Constraint.{Constraint}
use Rattle.kernel.specs.Layers.{Parts, pass, back}
use Rattle.kernel.specs.Goals.{up}
use Rattle.kernel.specs.Labels.{all_goals, raised}
use Rattle.kernel.specs.Parts.{parts_of, step_free, free_move}
use Rattle.kernel.proofs.Both.{and_left, and_right}
use Rattle.kernel.proofs.OfTask.{all_goals_is, raised_is, raised_le}
use Rattle.kernel.proofs.Passes.{step_of}
use Rattle.kernel.proofs.Kernel.{back_good}
use Rattle.bounds.specs.Low.{Low}
use Rattle.bounds.specs.Graded.{Graded}

-- what does not fall where one goal is visited does not fall where several are at once
climb : (v : ℕ) (gs : List ℕ) (f : ℕ → ℕ) (k : ℕ) → ((m : ℕ) → m < length gs → get_or gs m 0 ≡ v → f m ≤ f (suc m)) → f k ≤ f (up v gs k)
climb v [] f k h = le_refl (f k)
climb v (g ∷ gs) f zero h = go (eqb v g) refl (climb v gs (λ m. f (suc m)) zero (λ m l e. h (suc m) (omega arith) e))
  where
    go : (b : Bool) → eqb v g ≡ b → f 1 ≤ f (suc (up v gs zero)) → f 0 ≤ f (cond b (suc (up v gs zero)) zero)
    go true e i = omega (arith, h 0 (omega arith) (sym (eqb→eq v g (rw e tt))))
    go false e i = le_refl (f 0)
climb v (g ∷ gs) f (suc k) h = climb v gs (λ m. f (suc m)) k (λ m l e. h (suc m) (omega arith) e)

module _ (d : Sheet) (j : Task) (table : List ℕ) (g : Graded d j 0 table) where
  abbrev gs : List ℕ
  gs = goals_of d j

  -- the bound of u with k goals visited
  abbrev at : ℕ → ℕ → ℕ
  at k u = get_or table (1024 * k + u) 0

  climbs : (u v k : ℕ) → at k v ≤ at (raised d j u v k) v
  climbs u v k = rw (raised_is d j u v k)
      (climb v gs (λ m. at m v) k (λ m l e. subst (λ (x : ℕ). at m x ≤ at (suc m) x) e (g.enters m (omega arith) l)))

  module _ (i : Carrier) (cs : List Constraint) where
    abbrev w : Parts
    w = parts_of d i j cs

    least : (n t u k : ℕ) → k ≤ all_goals d j → all_goals d j < k + back w n t u → at k u ≤ n
    least zero t u k l h = go (eqb u (last_goal d j)) refl h
      where
        go : (b : Bool) → eqb u (last_goal d j) ≡ b → all_goals d j < k + cond b 1 0 → at k u ≤ 0
        go true e h =
            let a : u ≡ last_goal d j = eqb→eq u (last_goal d j) (rw e tt) in
            let b : k ≡ length gs = omega (arith, all_goals_is d j) in
            rw (a, b) (omega (arith, g.ends))
        go false e h = absurd (omega arith)
    least (suc n) t u k l h =
        let r = back_good d i j cs n t u k l h in
        let v : ℕ = r.0 in
        let step : T (step_free d u v) = and_left (step_free d u v) (free_move i cs t u v) (step_of w t u v (and_left (pass w t u v) _ r.2)) in
        let more = ltb→lt w.whole (w.raise u v k + back w n (suc t) v) (and_right (pass w t u v) _ r.2) in
        let c = least n (suc t) v (raised d j u v k) (raised_le d j u v k l) more in
        omega (arith, g.smooth k u v (omega arith) (omega (arith, all_goals_is d j)) step, climbs u v k)

  pub graded_low : Low d j table
  graded_low i cs n t u k l a h = least i cs n t u k l h
