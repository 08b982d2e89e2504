-- The call's answer by cause: which tests lead to which case of the definition. Assumes nothing.
use Rattle.std.proofs.Common.{ℕ, suc, ◌+◌, ◌*◌, ◌≡◌, refl, sym, ap, subst, ◌∙◌, true, false, List, Option, None, Some, Result, Ok, Err, length, add-one, eq-eqb, ne_eqb}
use Rattle.deck.specs.declared.Collision.{Collision}
use Rattle.deck.specs.declared.cause.Cause.{Cause}
use Rattle.deck.specs.declared.cause.Cause.TheVariants.{BadCount, WrongLength}
use Rattle.deck.specs.Causes.{answer_unless}
use Rattle.deck.specs.Lists.{within, pieces}
use Rattle.deck.specs.Collisions.{first_collision}
use Rattle.deck.specs.Calls.{collision_cause, collision_call}
use Rattle.deck.specs.Numbers.{collision_numbers}
use Rattle.meaning.proofs.Collisions.{FirstMeant, first_collision_meant}
use Rattle.collision.specs.Meant.{Meant}

module _ (m h : ℕ) (ws : List ℕ) where
  -- what the call ensures of its answer
  pub record Says (r : Result (Option Collision) Cause) : Type 0 where
    pub call : collision_numbers r ≡ collision_numbers (collision_call m h ws)
    pub meant : Meant m h ws r

  -- the definition's answer is the one that is meant
  call_meant : Meant m h ws (collision_call m h ws)
  unfolding collision_call
  call_meant = by_cause (collision_cause m h ws) refl
    where
      found : (o : Option Collision) → collision_cause m h ws ≡ None → FirstMeant m h (pieces m (suc h) ws) o → Meant m h ws (Ok o)
      found None z k = (z, k)
      found (Some c) z k = (z, k)

      by_cause : (n : Option Cause) → n ≡ collision_cause m h ws → Meant m h ws (answer_unless n (first_collision m h (pieces m (suc h) ws)))
      by_cause None e = found (first_collision m h (pieces m (suc h) ws)) (sym e) (first_collision_meant m h (pieces m (suc h) ws))
      by_cause (Some n) e = sym e

  pub says : (r : Result (Option Collision) Cause) → r ≡ collision_call m h ws → Says r
  says r e = record { call = ap collision_numbers e; meant = subst (Meant m h ws) (sym e) call_meant }

  -- the three ways out
  pub count_refused : within 1 12 m ≡ false → Err BadCount ≡ collision_call m h ws
  unfolding collision_call collision_cause
  count_refused a = rw a

  pub length_refused : within 1 12 m ≡ true → (length ws ≡ m * (h + 1) → ⊥) → Err WrongLength ≡ collision_call m h ws
  unfolding collision_call collision_cause
  length_refused a n = rw (a, ne_eqb (length ws) (m * suc h) (λ e. n (e ∙ ap (λ k. m * k) (sym (add-one h)))))

  pub accepted : within 1 12 m ≡ true → length ws ≡ m * (h + 1) → Ok (first_collision m h (pieces m (suc h) ws)) ≡ collision_call m h ws
  unfolding collision_call collision_cause
  accepted a e = rw (a, eq-eqb (length ws) (m * suc h) (e ∙ ap (λ k. m * k) (add-one h)))
