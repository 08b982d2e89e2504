-- Tests of task lists in the definitions' words. Assumes nothing.
use Rattle.std.proofs.Common.{ℕ, ◌≤◌, ◌≡◌, refl, sym, ap, Bool, true, false, ◌||◌, ◌&&◌, List, [], ◌∷◌, length, take, eqb, ltb, eq-eqb, eqb-true, ne_eqb, length-take-le}
use Rattle.std.proofs.lemmas.Bool.{eqb-false}
use Rattle.std.specs.List.{list_any}
use Rattle.deck.specs.Lists.{all, has, distinct}
use Rattle.deck.specs.PlanCheck.{is_assignment}

-- two numbers compared the other way round
pub turned : (x y : ℕ) → eqb x y ≡ eqb y x
turned x y = go (eqb x y) refl
  where
    go : (b : Bool) → eqb x y ≡ b → b ≡ eqb y x
    go true e = sym (eq-eqb y x (sym (eqb-true x y e)))
    go false e = sym (ne_eqb y x (λ q. eqb-false x y e (sym q)))

-- a number is looked for
pub any_has : (x : ℕ) (l : List ℕ) → list_any (λ y. eqb y x) l ≡ has x l
any_has x [] = refl
any_has x (y ∷ l) = rw (turned y x) (ap (λ b. eqb x y || b) (any_has x l))

-- an assignment is m numbers below m that differ
pub assigns_is : (m : ℕ) (tasks : List ℕ) → m ≤ length tasks → is_assignment m (take m tasks) ≡ (all (λ j. ltb j m) (take m tasks) && distinct (take m tasks))
unfolding is_assignment
assigns_is m tasks h = rw (eq-eqb (length (take m tasks)) m (length-take-le m tasks h))
