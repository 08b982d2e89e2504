-- From the least time to the answer and the words of the call. Assumes nothing.
use Prim.Native.Nat.{ℕ, suc, ◌+◌, ◌-◌, ◌*◌, max, ◌≤◌, ◌<◌, zero-le}
use Rattle.std.proofs.Common.{◌≡◌, refl, sym, ap, ◌∙◌, Bool, true, List, mul-le-mul, arith, leb, ltb, leb→le, ltb-true}
use Rattle.deck.specs.Sheet.{Sheet, read, area, start_of, last_goal, most_goals}
use Rattle.deck.specs.Paths.{least_path}
use Rattle.deck.specs.Calls.{constraints_of, workspace_for, path_found, path_written, overwrite}
use Rattle.deck.specs.declared.Carrier.{Carrier}
use Rattle.deck.specs.declared.Task.{Task}
use Rattle.std.specs.Prelude.{None, Some}
use Rattle.kernel.specs.Labels.{all_goals}
use Rattle.kernel.specs.Parts.{stay_from, rest_from}
use Rattle.kernel.specs.Kernel.{fore, hind, path_at, meets_at, LeastTime, NoEarlier}
use Rattle.kernel.proofs.Both.{and_left}
use Rattle.kernel.proofs.Least.{rest_from_is, meets_can, hind_can, no_time_none, time_path, time_finish, bound_early}
use Rattle.passes.specs.Ready.{Ready, Early, room_for}
use Rattle.passes.proofs.Given.{begins_free, ends_free, in_time, few_records}

module _ (s : List ℕ) (i : Carrier) (j : Task) (mask rs : List ℕ) (r : Ready s i j mask rs) where
  abbrev d : Sheet
  d = read s

  -- the backward pass from a time before which the task cannot be finished says that it can be then
  pub guess_least : (from : ℕ) → Early s i j rs from → from ≤ d.horizon → {b : Bool} → b ≡ ltb (all_goals d j) (hind d i j (constraints_of rs) from 0 (start_of d i)) → b ≡ true
      → LeastTime d i j (constraints_of rs) from
  guess_least from e l f g =
      let z : from + (d.horizon - from) ≡ d.horizon = omega arith in
      record {
        meets = λ _. (meets_can d i j (constraints_of rs) (begins_free r) (ends_free r) (in_time r) from (d.horizon - from) z).test
            ((hind_can d i j (constraints_of rs) (begins_free r) (ends_free r) (in_time r) from (d.horizon - from) z).1
            (e.stay, ltb-true (all_goals d j) (hind d i j (constraints_of rs) from 0 (start_of d i)) (sym f ∙ g)));
        first = e.early;
      }

  -- past the horizon
  pub late_least : (from : ℕ) → Early s i j rs from → d.horizon < from → LeastTime d i j (constraints_of rs) from
  late_least from e l = record { meets = λ h. absurd (omega arith); first = e.early }

  -- what the constraints say of the last goal
  pub rest_of : (stay g : ℕ) → stay ≡ stay_from i g (constraints_of rs) → g ≡ last_goal d j → stay ≡ rest_from d i (last_goal d j) (constraints_of rs)
  rest_of stay g e f = e ∙ ap (λ (x : ℕ). stay_from i x (constraints_of rs)) f ∙ sym (rest_from_is d i (last_goal d j) (constraints_of rs))

  -- the later of the bound and the time from which the carrier may stay
  pub early_of : (bound stay from : ℕ) → NoEarlier d i j (constraints_of rs) bound → stay ≡ rest_from d i (last_goal d j) (constraints_of rs)
      → from ≡ max bound stay → Early s i j rs from
  unfolding meets_at
  early_of bound stay from h e g = record {
    stay = omega arith;
    early = λ n l m.
        let b = bound_early d i j (constraints_of rs) (begins_free r) (ends_free r) (in_time r) bound h n l m in
        (let x = leb→le (rest_from d i (last_goal d j) (constraints_of rs)) n (and_left (leb (rest_from d i (last_goal d j) (constraints_of rs)) n) (ltb (all_goals d j) (fore d i j (constraints_of rs) n (last_goal d j))) m) in omega arith);
  }

  module _ (end : ℕ) (t : LeastTime d i j (constraints_of rs) end) where
    -- no path
    pub answers_none : d.horizon < end → (out : List ℕ) → (None ≡ path_found d j (least_path d i j (constraints_of rs))) × (out ≡ path_written (least_path d i j (constraints_of rs)) out)
    unfolding path_found path_written
    answers_none l out =
        let e = no_time_none d i j (constraints_of rs) (begins_free r) (ends_free r) (in_time r) end t l in
        (rw e refl, rw e refl)

    -- the path that is traced
    pub answers_found : end ≤ d.horizon → (out after : List ℕ) → after ≡ overwrite (path_at d i j (constraints_of rs) (d.horizon - end) end) out
        → (Some end ≡ path_found d j (least_path d i j (constraints_of rs))) × (after ≡ path_written (least_path d i j (constraints_of rs)) out)
    unfolding path_found path_written
    answers_found l out after f =
        let e = time_path d i j (constraints_of rs) (begins_free r) (ends_free r) (in_time r) end t l in
        let q = time_finish d i j (constraints_of rs) (begins_free r) (ends_free r) (in_time r) end t l in
        (rw (e, q) refl, rw e f)

  -- nothing is known of a path without a bound
  pub no_bound : NoEarlier d i j (constraints_of rs) 0
  no_bound p e = zero-le

  -- the workspace that is asked for has room for the passes
  pub enough_room : (work : ℕ) → workspace_for d ≤ work → room_for s rs ≤ work
  unfolding workspace_for
  enough_room work h =
      let a = mul-le-mul {n₁ = suc d.horizon * area d} {m₁ = 1} {n₂ = suc d.horizon * area d} {m₂ = suc (most_goals d)} (omega arith) (omega arith) in
      omega (arith, few_records r)
