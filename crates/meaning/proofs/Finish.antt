-- The computed finish is the least time from which a path rests on its last goal, and there is one such time only. Assumes nothing.
use Rattle.std.proofs.Common.{ℕ, zero, suc, ◌≤◌, ◌<◌, zero-le, ◌≡◌, refl, sym, subst, ◌↔◌, Bool, true, false, cond, List, [], ◌∷◌, not-suc-le-zero, le_antisymm, arith, length, eqb}
use Rattle.deck.specs.Lists.{all}
use Rattle.deck.specs.Sheet.{Sheet, last_goal}
use Rattle.deck.specs.Paths.{finish, finish_of}
use Rattle.deck.specs.declared.Task.{Task}
use Rattle.meaning.specs.Meaning.{◌at◌, Finish}
use Rattle.meaning.proofs.Tests.{is_true}
use Rattle.meaning.proofs.ListTests.{says_on}

-- from the computed finish on the path is on the goal
pub finish_rests : (g : ℕ) (p : List ℕ) (t : ℕ) → finish g p ≤ t → t < length p → p at t ≡ g
unfolding finish
finish_rests g [] t a l = absurd (not-suc-le-zero l)
finish_rests g (x ∷ p) t a l = go (all (eqb g) (x ∷ p)) refl t a l (λ u. finish_rests g p u)
  where
    go : (b : Bool) → all (eqb g) (x ∷ p) ≡ b → (t : ℕ) → cond b 0 (suc (finish g p)) ≤ t → t < length (x ∷ p)
        → ((u : ℕ) → finish g p ≤ u → u < length p → p at u ≡ g) → (x ∷ p) at t ≡ g
    go true e t a l ih = sym ((says_on g (x ∷ p)).fact (rw e tt) t l)
    go false e zero a l ih = absurd (omega arith)
    go false e (suc t) a l ih = ih t (omega arith) (omega arith)

-- and no time before it is such
pub finish_least : (g : ℕ) (p : List ℕ) (u : ℕ) → u ≤ length p → ((t : ℕ) → u ≤ t → t < length p → p at t ≡ g) → finish g p ≤ u
unfolding finish
finish_least g [] u a h = zero-le
finish_least g (x ∷ p) zero a h = rw (is_true (all (eqb g) (x ∷ p)) ((says_on g (x ∷ p)).test (λ k b. sym (h k zero-le b)))) zero-le
finish_least g (x ∷ p) (suc u) a h = go (all (eqb g) (x ∷ p)) (finish_least g p u (omega arith) (λ t b l. h (suc t) (omega arith) (omega arith)))
  where
    go : (b : Bool) → finish g p ≤ u → cond b 0 (suc (finish g p)) ≤ suc u
    go true i = zero-le
    go false i = omega arith

-- it is at most the length of the path, whatever the path is
pub finish_most : (d : Sheet) (j : Task) (p : List ℕ) → finish_of d j p ≤ length p
finish_most d j p = finish_least (last_goal d j) p (length p) (omega arith) (λ t a l. absurd (omega arith))

-- a path has one finish
pub finish_unique : {h g t u : ℕ} {p : List ℕ} → Finish h p g t → Finish h p g u → t ≡ u
finish_unique {t} {u} a b = le_antisymm (a.least u b.rests) (b.least t a.rests)

-- the finish that is computed, and the one that is meant
pub finish_meant : (h g : ℕ) (p : List ℕ) (t : ℕ) → length p ≡ suc h → t ≤ h → (finish g p ≡ t) ↔ Finish h p g t
finish_meant h g p t n b = (
  λ e. record {
    rests = (b, λ u s l. finish_rests g p u (omega arith) (omega arith));
    least = λ u r. subst (λ (k : ℕ). k ≤ u) e (finish_least g p u (omega (arith, r.0)) (λ v s l. r.1 v s (omega arith)));
  },
  λ f.
      let a : finish g p ≤ t = finish_least g p t (omega arith) (λ u s l. f.rests.1 u s (omega arith)) in
      le_antisymm a (f.least (finish g p) (omega arith, λ u s l. finish_rests g p u s (omega arith))),
)
