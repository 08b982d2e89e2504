-- The greatest of numbers is what the library's maximum comes to. Assumes nothing.
use Rattle.std.proofs.Common.{ℕ, max, ◌≡◌, refl, sym, ap, ◌∙◌, Bool, true, false, cond, Option, None, Some, List, [], ◌∷◌, arith, leb, leb-true, leb-false}
use Rattle.std.specs.List.{fold, reduce}
use Rattle.std.specs.Option.{unwrap_or, option_map}
use Rattle.deck.specs.Lists.{greatest}

pub greatest_max : (x : ℕ) (l : List ℕ) → greatest (x ∷ l) ≡ max x (greatest l)
greatest_max x l = go (leb (greatest l) x) refl
  where
    go : (b : Bool) → leb (greatest l) x ≡ b → cond b x (greatest l) ≡ max x (greatest l)
    go true e = omega (arith, leb-true (greatest l) x e)
    go false e = omega (arith, leb-false (greatest l) x e)

greatest_fold : (x : ℕ) (l : List ℕ) → fold max x l ≡ max x (greatest l)
greatest_fold x [] = omega arith
greatest_fold x (y ∷ l) = omega (arith, greatest_fold (max x y) l, greatest_max y l)

reduced : (l : List ℕ) → unwrap_or (reduce max l) 0 ≡ greatest l
reduced [] = refl
reduced (x ∷ l) = greatest_fold x l ∙ sym (greatest_max x l)

-- the maximum where there is one, else 0
pub greatest_reduced : (l : List ℕ) (r : Option ℕ) → option_map (λ x. x) r ≡ reduce max l → unwrap_or r 0 ≡ greatest l
greatest_reduced l None e = ap (λ o. unwrap_or o 0) e ∙ reduced l
greatest_reduced l (Some x) e = ap (λ o. unwrap_or o 0) e ∙ reduced l
