-- What the tests on lists say: of each element, of each index, and that no number stands in a list twice. Assumes nothing.
use Rattle.std.proofs.Common.{ℕ, zero, suc, ◌<◌, ◌≡◌, refl, sym, ap, subst, ⊎_elim, Bool, List, [], ◌∷◌, not-suc-le-zero, arith, length, get_or, eqb}
use Rattle.deck.proofs.Members.{Mem, here, there, not-nil, cases_cons, cast}
use Rattle.deck.specs.Lists.{all, has, distinct}
use Rattle.meaning.proofs.Tests.{Says, says_eqb, says_and, says_or, says_not, says_iff}

module _ {A : Type 0} (d : A) where
  -- what stands at an index stands in the list
  pub mem_at : (l : List A) (k : ℕ) → k < length l → Mem (get_or l k d) l
  mem_at [] k h = absurd (not-suc-le-zero h)
  mem_at (x ∷ l) zero h = here refl
  mem_at (x ∷ l) (suc k) h = there (mem_at l k (omega arith))

  -- what stands in the list stands at an index
  pub at_mem : {x : A} {l : List A} → Mem x l → (k : ℕ) × (k < length l) × (get_or l k d ≡ x)
  at_mem (here e) = (0, omega arith, sym e)
  at_mem (there m) = let r = at_mem m in (suc r.0, omega (arith, r.1), r.2)

module _ {A : Type 0} (f : A → Bool) (P : A → Type 0) (says : (x : A) → Says (f x) (P x)) where
  -- the test of all says it of each element
  pub says_all : (l : List A) → Says (all f l) ((x : A) → Mem x l → P x)
  says_all [] = record { fact = λ t x m. absurd (not-nil m); test = λ h. tt }
  says_all (x ∷ l) =
      says_iff (says_and (says x) (says_all l))
      (λ h y m. ⊎_elim (λ e. subst P (sym e) h.0) (h.1 y) (cases_cons m), λ h. (h x (here refl), λ y m. h y (there m)))

  -- and of each index
  pub says_all_at : (d : A) (l : List A) → Says (all f l) ((k : ℕ) → k < length l → P (get_or l k d))
  says_all_at d l =
      says_iff (says_all l) (
        λ h k b. h (get_or l k d) (mem_at d l k b),
        λ h x m. let r = at_mem d m in subst P r.2 (h r.0 r.1),
      )

-- every number of the list is g
pub says_on : (g : ℕ) (l : List ℕ) → Says (all (eqb g) l) ((k : ℕ) → k < length l → g ≡ get_or l k 0)
says_on g l = says_all_at (eqb g) (λ x. g ≡ x) (λ x. says_eqb) 0 l

pub says_has : (x : ℕ) (l : List ℕ) → Says (has x l) (Mem x l)
says_has x [] = record { fact = λ t. absurd t; test = λ m. not-nil m }
says_has x (y ∷ l) = says_iff (says_or says_eqb (says_has x l)) (⊎_elim (λ e. here e) (λ m. there m), λ m. cases_cons m)

-- equal elements stand at one index
abbrev pub Once : List ℕ → Type 0
Once l = (i j : ℕ) → i < length l → j < length l → get_or l i 0 ≡ get_or l j 0 → i ≡ j

pub says_distinct : (l : List ℕ) → Says (distinct l) (Once l)
says_distinct [] = record { fact = λ t i j a b e. absurd (not-suc-le-zero a); test = λ h. tt }
says_distinct (x ∷ l) = says_iff (says_and (says_not (says_has x l)) (says_distinct l)) (once, λ h. (new h, λ i j a b e. omega (arith, h (suc i) (suc j) (omega arith) (omega arith) e)))
  where
    new : Once (x ∷ l) → ¬ Mem x l
    new h m = let r = at_mem 0 m in omega (arith, h 0 (suc r.0) (omega arith) (omega (arith, r.1)) (sym r.2))

    once : (¬ Mem x l) × Once l → Once (x ∷ l)
    once (n, h) zero zero a b e = refl
    once (n, h) zero (suc j) a b e = absurd (n (cast e (mem_at 0 l j (omega arith))))
    once (n, h) (suc i) zero a b e = absurd (n (cast (sym e) (mem_at 0 l i (omega arith))))
    once (n, h) (suc i) (suc j) a b e = ap suc (h i j (omega arith) (omega arith) e)
