-- Without constraints the backward layers rest on neither the time nor the carrier, so that one pass for each task gives its
-- column of the table. Assumes nothing.
use Rattle.std.proofs.Common.{ℕ, zero, suc, ◌+◌, ◌-◌, ◌≤◌, ◌<◌, ◌≡◌, refl, ap, true, ◌&&◌, [], reverse, arith, T}
use Rattle.deck.proofs.Members.{Mem, not-nil}
use Rattle.deck.specs.Sheet.{Sheet, free, start_of, goals_of, last_goal}
use Rattle.deck.specs.Paths.{least_path}
use Rattle.deck.specs.Assignments.{barred, entry_of}
use Rattle.deck.specs.declared.Carrier.{Carrier}
use Rattle.deck.specs.declared.Task.{Task}
use Rattle.deck.specs.declared.Constraint.{Constraint}
use Rattle.kernel.specs.Labels.{all_goals}
use Rattle.kernel.specs.Parts.{free_place, free_move, step_free, stay_from, rest_from}
use Rattle.kernel.specs.Near.{near}
use Rattle.kernel.specs.Kernel.{settle, hind, LeastTime}
use Rattle.kernel.proofs.Kernel.{best_same}
use Rattle.kernel.proofs.OfSheet.{InTime, stands_is}
use Rattle.kernel.proofs.Least.{rest_from_is, meets_can, hind_can, time_path, time_finish, no_time_none}

pub hind_timeless : (d : Sheet) (i k : Carrier) (j : Task) (n t s u : ℕ) → hind d i j [] n t u ≡ hind d k j [] n s u
unfolding hind free_place free_move
hind_timeless d i k j zero t s u = rw (stands_is d i [] t u, stands_is d k [] s u) refl
hind_timeless d i k j (suc n) t s u =
    rw (stands_is d i [] t u, stands_is d k [] s u)
    (ap (settle (λ (x : ℕ). true) (reverse (goals_of d j)) u)
    (best_same (λ v. step_free d u v && true) (hind d i j [] n (suc t)) (hind d k j [] n (suc s)) (hind_timeless d i k j n (suc t) (suc s)) (near d u)))

no_constraint : (d : Sheet) (c : Constraint) → Mem c [] → InTime d.horizon c
no_constraint d c m = absurd (not-nil m)

rest_none : (d : Sheet) (i : Carrier) (g : ℕ) → rest_from d i g [] ≡ 0
unfolding stay_from
rest_none d i g = rest_from_is d i g []

module _ (d : Sheet) (i : Carrier) (j : Task) (start : T (free d (start_of d i))) (end : T (free d (last_goal d j))) where
  -- r steps before the last goal the start has every goal for the first time, or has not within the horizon
  pub record FirstSteps (r : ℕ) : Type 0 where
    pub has : r ≤ d.horizon → all_goals d j < hind d i j [] r 0 (start_of d i)
    pub first : (n : ℕ) → n ≤ d.horizon → all_goals d j < hind d i j [] n 0 (start_of d i) → r ≤ n

  steps_time : (r : ℕ) → FirstSteps r → LeastTime d i j [] r
  steps_time r f = record {
    meets = λ l.
        let e : r + (d.horizon - r) ≡ d.horizon = omega arith in
        (meets_can d i j [] start end (no_constraint d) r (d.horizon - r) e).test
        ((hind_can d i j [] start end (no_constraint d) r (d.horizon - r) e).1 (omega (arith, rest_none d i (last_goal d j)), f.has l));
    first = λ n l t.
        let e : n + (d.horizon - n) ≡ d.horizon = omega arith in
        f.first n l ((hind_can d i j [] start end (no_constraint d) n (d.horizon - n) e).0 ((meets_can d i j [] start end (no_constraint d) n (d.horizon - n) e).fact t)).1;
  }

  -- the entry of the table
  pub entry_found : (r : ℕ) → FirstSteps r → r ≤ d.horizon → entry_of d j (least_path d i j []) ≡ r
  unfolding entry_of
  entry_found r f l =
      rw (time_path d i j [] start end (no_constraint d) r (steps_time r f) l) (time_finish d i j [] start end (no_constraint d) r (steps_time r f) l)

  pub entry_barred : (r : ℕ) → FirstSteps r → d.horizon < r → entry_of d j (least_path d i j []) ≡ barred
  unfolding entry_of
  entry_barred r f l = rw (no_time_none d i j [] start end (no_constraint d) r (steps_time r f) l) refl
