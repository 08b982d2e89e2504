-- Document 02, "A dark house": "Plan check says yes to it for no paths and a list of 255s", and to nothing else. Assumes nothing.
use Rattle.std.proofs.Common.{ℕ, ◌<◌, ◌≡◌, refl, sym, ap, ◌∙◌, ◌↔◌, List, [], arith, length, Some, Ok}
use Rattle.deck.specs.Lists.{◌at◌, sum}
use Rattle.deck.specs.Sheet.{read, sheet_cause}
use Rattle.deck.specs.Calls.{check_call}
use Rattle.meaning.proofs.Dark.{nil_of, only_plan}
use Rattle.plan_check.specs.Meant.{PlanFor}
use Rattle.plan_check.proofs.Calls.{meant}

-- the empty plan as the call is given it: no words, 255s, and flowtime 0
abbrev pub EmptyPlan : (tasks ws : List ℕ) (f : ℕ) → Type 0
EmptyPlan tasks ws f = (ws ≡ []) × ((k : ℕ) → k < length tasks → tasks at k ≡ 255) × (f ≡ 0)

module _ (tasks ws : List ℕ) (f : ℕ) where
  plan_none : PlanFor [] tasks ws f → EmptyPlan tasks ws f
  plan_none p =
      let none = (only_plan (read []) refl _ _ _).0 p.plan in
      (nil_of ws p.exact, λ k h. p.rest k (omega arith) h, sym p.flowtime ∙ ap sum none.2)

  none_plan : EmptyPlan tasks ws f → PlanFor [] tasks ws f
  unfolding sheet_cause
  none_plan h =
      record {
        accepted = refl;
        exact = ap length h.0;
        rest = λ k a l. h.1 k l;
        finishes = [];
        plan = (only_plan (read []) refl _ _ _).1 (refl, refl, refl);
        flowtime = sym h.2;
      }

  pub dark_yes : (check_call [] tasks ws ≡ Ok (Some f)) ↔ EmptyPlan tasks ws f
  dark_yes = (λ e. plan_none ((meant [] tasks ws f).0 e), λ h. (meant [] tasks ws f).1 (none_plan h))
