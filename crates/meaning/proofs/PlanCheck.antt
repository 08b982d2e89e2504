-- The plan check says yes exactly for a plan, and then with its flowtime. Assumes nothing.
use Rattle.std.proofs.Common.{ℕ, zero, suc, ◌+◌, ◌-◌, ◌≤◌, ◌<◌, ◌≡◌, refl, sym, ap, ◌∙◌, subst, ◌↔◌, Bool, true, false, cond, List, [], ◌∷◌, None, Some, not-suc-le-zero, arith, length, get_or, take, drop, length-drop, get_or-drop, eqb, ltb}
use Rattle.deck.specs.Lists.{all, sum}
use Rattle.deck.specs.Sheet.{Sheet, carrier, task}
use Rattle.deck.specs.Paths.{finish_of}
use Rattle.deck.specs.Search.{flowtime}
use Rattle.deck.specs.Planner.{problem}
use Rattle.deck.specs.PlanCheck.{are_paths, is_assignment, is_plan, plan_check}
use Rattle.deck.specs.declared.Task.{Task}
use Rattle.meaning.specs.Meaning.{◌at◌, Path, path_of, Assignment, Plan}
use Rattle.meaning.proofs.Tests.{Says, says_leb, says_eqb, says_and, says_nil, says_iff}
use Rattle.meaning.proofs.ListTests.{says_all_at, says_on, says_distinct}
use Rattle.meaning.proofs.Lists.{length_below}
use Rattle.meaning.proofs.Paths.{is_path_meant}
use Rattle.meaning.proofs.Collisions.{no_collisions}
use Rattle.meaning.proofs.Flowtime.{finish_at, finishes, finishes_at, flowtime_sum, plan_finishes, plan_flowtime}

-- the test of an assignment
pub assignment_meant : (m : ℕ) (a : List ℕ) → Says (is_assignment m a) (Assignment m a)
unfolding is_assignment
assignment_meant m a =
    says_iff (says_and (says_and says_eqb (says_all_at (λ j. ltb j m) (λ j. j < m) (λ j. says_leb) 0 a)) (says_distinct a)) (
      λ h. record {
        as_many = h.0.0;
        tasks = λ i l. h.0.1 i (omega (arith, h.0.0));
        once = λ i j k l e. h.1 i j (omega (arith, h.0.0)) (omega (arith, h.0.0)) e;
      },
      λ g. ((g.as_many, λ k l. g.tasks k (omega arith)), λ i j k l e. g.once i j (omega arith) (omega arith) e),
    )

-- from index m on the list holds 255
pub rest_meant : (m : ℕ) (l : List ℕ) → Says (all (eqb 255) (drop m l)) ((k : ℕ) → m ≤ k → k < length l → get_or l k 0 ≡ 255)
rest_meant m l =
    says_iff (says_on 255 (drop m l)) (
      λ h k a b.
          let e : m + (k - m) ≡ k = omega arith in
          ap (λ (n : ℕ). l at n) (sym e) ∙ sym (get_or-drop m l (k - m) 0) ∙ sym (h (k - m) (omega (arith, length-drop m l))),
      λ h k b. sym (get_or-drop m l k 0 ∙ h (m + k) (omega arith) (omega (arith, length-drop m l))),
    )

-- some is chosen exactly where the test passes
chosen : {A : Type 0} {b : Bool} {P : Type 0} {x y : A} → Says b P → (cond b (Some x) None ≡ Some y) ↔ (P × (x ≡ y))
chosen {b = true} s = (λ e. (s.fact tt, cc), λ h. ap Some h.1)
chosen {b = false} s = (λ e. let z : ◌≡◌ {A = ℕ} 0 1 = cc in absurd (omega arith), λ h. absurd (s.test h.0))

module _ (d : Sheet) where
  by_carrier_lem : {b c : ℕ} {j : Task} {p : List ℕ} {t : ℕ} → b ≡ c → Path d (carrier b) j p t → Path d (carrier c) j p t
  by_carrier_lem {j} {p} {t} e h = subst (λ (k : ℕ). Path d (carrier k) j p t) e h

  -- the paths ps are those of carriers i, i + 1, .. for the tasks a
  abbrev Served : ℕ → List ℕ → List (List ℕ) → Type 0
  Served i a ps =
      (length ps ≡ length a) × ((k c : ℕ) → i + k ≡ c → k < length a → Path d (carrier c) (task (a at k)) (path_of ps k) (finish_at d a ps k))

  are_paths_meant : (i : ℕ) (a : List ℕ) (ps : List (List ℕ)) → Says (are_paths d i a ps) (Served i a ps)
  unfolding are_paths
  are_paths_meant i [] [] = record { fact = λ t. (refl, λ k c e l. absurd (not-suc-le-zero l)); test = λ h. tt }
  are_paths_meant i [] (p ∷ ps) = record { fact = λ t. absurd t; test = λ h. absurd (omega (arith, h.0)) }
  are_paths_meant i (j ∷ a) [] = record { fact = λ t. absurd t; test = λ h. absurd (omega (arith, h.0)) }
  are_paths_meant i (j ∷ a) (p ∷ ps) =
      says_iff (says_and (is_path_meant d (carrier i) (task j) p) (are_paths_meant (suc i) a ps)) (
        λ h. (ap suc h.1.0, onward h.0 h.1),
        λ h. (h.1 0 i (omega arith) (omega arith), (omega (arith, h.0), λ k c e l. h.1 (suc k) c (omega arith) (omega arith))),
      )
    where
      onward : Path d (carrier i) (task j) p (finish_of d (task j) p) → Served (suc i) a ps
          → (k c : ℕ) → i + k ≡ c → k < length (j ∷ a) → Path d (carrier c) (task ((j ∷ a) at k)) (path_of (p ∷ ps) k) (finish_at d (j ∷ a) (p ∷ ps) k)
      onward h g zero c e l = by_carrier_lem (omega arith) h
      onward h g (suc k) c e l = g.1 k c (omega arith) (omega arith)

  -- the test of a plan
  pub plan_meant : (a : List ℕ) (ps : List (List ℕ)) → Says (is_plan d a ps) (Plan d a ps (finishes d a ps))
  unfolding is_plan
  plan_meant a ps =
      says_iff (says_and (says_and (assignment_meant d.count a) (are_paths_meant 0 a ps)) (says_iff says_nil (no_collisions d.count d.horizon ps))) (
        λ h.
            let n : length a ≡ d.count = h.0.0.as_many in
            let e : length ps ≡ length a = h.0.1.0 in
            record {
              assigned = h.0.0;
              a_path_each = e ∙ n;
              a_finish_each = length_below d.count (finish_at d a ps);
              paths = λ i l. rw (finishes_at d a ps i l) (h.0.1.1 i i (omega arith) (omega arith));
              apart = h.1;
            },
        λ g. ((g.assigned, (omega arith, λ k c e l. by_carrier_lem {b = k} (omega arith) (rw (← finishes_at d a ps k (omega arith)) (g.paths k (omega arith))))), g.apart),
      )

  -- the plan check says yes, with the flowtime, exactly for a plan
  pub plan_check_meant : (tasks : List ℕ) (ps : List (List ℕ)) (f : ℕ)
      → (plan_check d tasks ps ≡ Some f)
      ↔ (((k : ℕ) → d.count ≤ k → k < length tasks → get_or tasks k 0 ≡ 255) × ((fs : List ℕ) × Plan d (take d.count tasks) ps fs × (sum fs ≡ f)))
  unfolding plan_check
  plan_check_meant tasks ps f =
      let a : List ℕ = take d.count tasks in
      let c = chosen {x = flowtime (problem d) a ps} {y = f} (says_and (rest_meant d.count tasks) (plan_meant a ps)) in (
        λ e. let h = c.0 e in (h.0.0, (finishes d a ps, h.0.1, sym (flowtime_sum d a ps) ∙ h.1)),
        λ h. c.1 ((h.0, subst (Plan d a ps) (plan_finishes d a ps h.1.1) h.1.1), plan_flowtime d a ps h.1.1 ∙ h.1.2),
      )
