-- The call's answer, test after test, and what its yes means. Assumes nothing.
use Rattle.std.proofs.Common.{ℕ, suc, ◌≡◌, refl, sym, ap, subst, ◌∙◌, Bool, true, false, ◌&&◌, cond, List, Option, None, Some, Result, Ok, Err, length, take, drop, eqb, eq-eqb, ne_eqb, eqb-true}
use Rattle.deck.specs.declared.cause.Cause.TheVariants.{WrongLength}
use Rattle.deck.specs.Causes.{unless, ◌or_else◌, answer_unless}
use Rattle.deck.specs.declared.cause.Cause.{Cause}
use Rattle.deck.specs.Lists.{all, is_nil, pieces}
use Rattle.deck.specs.Sheet.{read, sheet_cause, count_of, horizon_of}
use Rattle.deck.specs.Collisions.{collisions}
use Rattle.deck.specs.Search.{flowtime}
use Rattle.deck.specs.Planner.{problem}
use Rattle.deck.specs.PlanCheck.{is_assignment, are_paths, is_plan, plan_check}
use Rattle.deck.specs.Calls.{plan_words, check_cause, check_call}
use Rattle.deck.specs.Numbers.{check_numbers}
use Rattle.meaning.proofs.PlanCheck.{plan_check_meant}
use Rattle.plan_check.specs.Answers.{flow_answer}
use Rattle.plan_check.specs.Meant.{PlanFor, Meant}

-- the tests of a plan: 255 from m on, an assignment, paths, no collision
abbrev verdict : (e a p c : Bool) → ℕ → Option ℕ
verdict e a p c f = cond (e && (a && p && c)) (Some f) None

no_assignment : (e p c : Bool) (f : ℕ) → None ≡ verdict e false p c f
no_assignment true p c f = refl
no_assignment false p c f = refl

collided : (e a p : Bool) (f : ℕ) → None ≡ verdict e a p false f
collided true true true f = refl
collided true true false f = refl
collided true false p f = refl
collided false a p f = refl

by_paths : (p : Bool) (f : ℕ) → cond p (Some f) None ≡ verdict true true p true f
by_paths true f = refl
by_paths false f = refl

module _ (s tasks ws : List ℕ) where
  -- the assignment and the paths that are looked at
  abbrev a : List ℕ
  a = take (count_of s) tasks

  abbrev ps : List (List ℕ)
  ps = pieces (count_of s) (suc (horizon_of s)) ws

  abbrev ends : Bool
  ends = all (eqb 255) (drop (count_of s) tasks)

  abbrev assigned : Bool
  assigned = is_assignment (count_of s) a

  abbrev served : Bool
  served = are_paths (read s) 0 a ps

  abbrev apart : Bool
  apart = is_nil (collisions (count_of s) (horizon_of s) ps)

  abbrev flow : ℕ
  flow = flowtime (problem (read s)) a ps

  -- the definition's answer is the one that is meant
  pub meant : Meant s tasks ws (check_call s tasks ws)
  unfolding check_call check_cause
  meant f = (λ e. yes_plan (sheet_cause s) refl (eqb (length ws) (plan_words (read s))) refl e, plan_yes)
    where
      yes_plan : (c : Option Cause) → sheet_cause s ≡ c → (b : Bool) → eqb (length ws) (plan_words (read s)) ≡ b
          → answer_unless (c or_else unless b WrongLength) (plan_check (read s) tasks ps) ≡ Ok (Some f) → PlanFor s tasks ws f
      yes_plan (Some c) q b k e = absurd (cc)
      yes_plan None q false k e = absurd (cc)
      yes_plan None q true k e =
          let found : plan_check (read s) tasks ps ≡ Some f = cc in
          let p = (plan_check_meant (read s) tasks ps f).0 found in
          record { accepted = q; exact = eqb-true (length ws) (plan_words (read s)) k; rest = p.0; finishes = p.1.0; plan = p.1.1; flowtime = p.1.2 }

      plan_yes : PlanFor s tasks ws f → answer_unless (sheet_cause s or_else unless (eqb (length ws) (plan_words (read s))) WrongLength) (plan_check (read s) tasks ps) ≡ Ok (Some f)
      plan_yes p =
          rw (p.accepted, eq-eqb (length ws) (plan_words (read s)) p.exact)
          (ap Ok ((plan_check_meant (read s) tasks ps f).1 (p.rest, (p.finishes, p.plan, p.flowtime))))

  -- what the call ensures of its answer
  pub record Ensured (r : Result (Option ℕ) Cause) : Type 0 where
    pub call : check_numbers r ≡ check_numbers (check_call s tasks ws)
    pub meant_so : Meant s tasks ws r

  pub ensured : {r : Result (Option ℕ) Cause} → r ≡ check_call s tasks ws → Ensured r
  ensured {r} e = record { call = ap check_numbers e; meant_so = subst (Meant s tasks ws) (sym e) meant }

  pub sheet_refused : (c : Cause) → sheet_cause s ≡ Some c → Err c ≡ check_call s tasks ws
  unfolding check_call check_cause
  sheet_refused c e = rw e

  module _ (ok : sheet_cause s ≡ None) where
    pub length_refused : (length ws ≡ plan_words (read s) → ⊥) → Err WrongLength ≡ check_call s tasks ws
    unfolding check_call check_cause
    length_refused n = rw (ok, ne_eqb (length ws) (plan_words (read s)) n)

    module _ (exact : length ws ≡ plan_words (read s)) where
      by_plan : Ok (verdict ends assigned served apart flow) ≡ check_call s tasks ws
      unfolding check_call check_cause plan_check is_plan
      by_plan = rw (ok, eq-eqb (length ws) (plan_words (read s)) exact)

      pub not_assigned : assigned ≡ false → Ok None ≡ check_call s tasks ws
      not_assigned e = ap Ok (no_assignment ends served apart flow ∙ ap (λ b. verdict ends b served apart flow) (sym e)) ∙ by_plan

      pub not_ended : ends ≡ false → Ok None ≡ check_call s tasks ws
      not_ended e = ap Ok (ap (λ b. verdict b assigned served apart flow) (sym e)) ∙ by_plan

      pub not_apart : apart ≡ false → Ok None ≡ check_call s tasks ws
      not_apart e = ap Ok (collided ends assigned served flow ∙ ap (λ b. verdict ends assigned served b flow) (sym e)) ∙ by_plan

      pub all_tested : ends ≡ true → assigned ≡ true → apart ≡ true → Ok (flow_answer (read s) a ps) ≡ check_call s tasks ws
      unfolding flow_answer
      all_tested e f g =
          let w : verdict true true served true flow ≡ verdict ends assigned served apart flow = rw (e, f, g) in
          ap Ok (by_paths served flow ∙ w) ∙ by_plan
