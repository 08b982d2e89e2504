-- The greatest over a list, and the first that passes a test. Assumes nothing.
use Rattle.std.proofs.Common.{ℕ, zero, suc, ◌≤◌, ◌<◌, zero-le, max, ◌≡◌, refl, ap, ◌∙◌, subst, ◌⊎◌, inl, inr, Bool, true, false, cond, List, [], ◌∷◌, arith, T}
use Rattle.std.proofs.lemmas.Bool.{cases_lt}
use Rattle.deck.proofs.Members.{Mem, here, there, not-nil, cases_cons}
use Rattle.meaning.specs.Sorted.{Sorted}
use Rattle.kernel.specs.Layers.{best, first_of, lift}

-- the greatest over a list
pub best_some : (ok : ℕ → Bool) (f : ℕ → ℕ) (l : List ℕ) (n : ℕ) → n < best ok f l → (x : ℕ) × Mem x l × T (ok x) × (n < f x)
best_some ok f [] n h = absurd (omega arith)
best_some ok f (y ∷ l) n h = go (ok y) refl h (λ k. best_some ok f l n k)
  where
    go : (b : Bool) → ok y ≡ b → n < cond b (max (f y) (best ok f l)) (best ok f l) → (n < best ok f l → (x : ℕ) × Mem x l × T (ok x) × (n < f x))
        → (x : ℕ) × Mem x (y ∷ l) × T (ok x) × (n < f x)
    go false e h i = let r = i h in (r.0, there r.1, r.2, r.3)
    go true e h i = pick (cases_lt n (f y))
      where
        pick : (n < f y) ⊎ (f y ≤ n) → (x : ℕ) × Mem x (y ∷ l) × T (ok x) × (n < f x)
        pick (inl k) = (y, here refl, rw e tt, k)
        pick (inr k) = let r = i (omega arith) in (r.0, there r.1, r.2, r.3)

pub best_all : (ok : ℕ → Bool) (f : ℕ → ℕ) {x : ℕ} {l : List ℕ} → Mem x l → T (ok x) → f x ≤ best ok f l
best_all ok f {x} (here {x = y} {xs = l} e) t = go (ok y) (rw e at t)
  where
    go : (b : Bool) → T b → f x ≤ cond b (max (f y) (best ok f l)) (best ok f l)
    go true u = rw e (omega arith)
    go false u = absurd u
best_all ok f {x} (there {x = y} {xs = l} m) t = go (ok y) (best_all ok f m t)
  where
    go : (b : Bool) → f x ≤ best ok f l → f x ≤ cond b (max (f y) (best ok f l)) (best ok f l)
    go true u = omega arith
    go false u = u

-- the first of a rising list that passes the test passes it, and is no later than any other that does
pub first_passes : (ok : ℕ → Bool) {x : ℕ} {l : List ℕ} → Mem x l → T (ok x) → T (ok (first_of ok l)) × Mem (first_of ok l) l
first_passes ok {x} (here {x = y} {xs = l} e) t = go (ok y) refl (rw e at t)
  where
    go : (b : Bool) → ok y ≡ b → T b → T (ok (cond b y (first_of ok l))) × Mem (cond b y (first_of ok l)) (y ∷ l)
    go true q u = (rw q tt, here refl)
    go false q u = absurd u
first_passes ok {x} (there {x = y} {xs = l} m) t = go (ok y) refl (first_passes ok m t)
  where
    go : (b : Bool) → ok y ≡ b → T (ok (first_of ok l)) × Mem (first_of ok l) l → T (ok (cond b y (first_of ok l))) × Mem (cond b y (first_of ok l)) (y ∷ l)
    go true q u = (rw q tt, here refl)
    go false q u = (u.0, there u.1)

pub first_least : (ok : ℕ → Bool) (l : List ℕ) {x : ℕ} → Sorted ◌<◌ l → Mem x l → T (ok x) → first_of ok l ≤ x
first_least ok [] s m t = absurd (not-nil m)
first_least ok (y ∷ l) {x} s m t = go (ok y) refl (cases_cons m) (λ k. first_least ok l s.1 k t)
  where
    go : (b : Bool) → ok y ≡ b → (x ≡ y) ⊎ Mem x l → (Mem x l → first_of ok l ≤ x) → cond b y (first_of ok l) ≤ x
    go true q (inl e) i = omega arith
    go true q (inr k) i = omega (arith, s.0 x k)
    go false q (inl e) i = absurd (subst T (ap ok e ∙ q) t)
    go false q (inr k) i = i k

-- a number that is above 0 only by an element, and is at least each, is the greatest
pub best_is : (ok : ℕ → Bool) (f : ℕ → ℕ) (l : List ℕ) (b : ℕ) → ((n : ℕ) → n < b → (x : ℕ) × Mem x l × T (ok x) × (n < f x)) → ((x : ℕ) → Mem x l → T (ok x) → f x ≤ b)
    → best ok f l ≡ b
best_is ok f l b h g = go (cases_lt (best ok f l) b) (cases_lt b (best ok f l))
  where
    go : (best ok f l < b) ⊎ (b ≤ best ok f l) → (b < best ok f l) ⊎ (best ok f l ≤ b) → best ok f l ≡ b
    go (inl x) y = let r = h (best ok f l) x in absurd (omega (arith, r.3, best_all ok f r.1 r.2))
    go (inr x) (inl y) = let r = best_some ok f l b y in absurd (omega (arith, r.3, g r.0 r.1 r.2))
    go (inr x) (inr y) = omega arith

pub lift_mono : (f : ℕ → ℕ) → ((k j : ℕ) → k ≤ j → f k ≤ f j) → (a b : ℕ) → a < b → f a < lift f b
lift_mono f h a zero l = absurd (omega arith)
lift_mono f h a (suc b) l = omega (arith, h a b (omega arith))

lift_le : (f : ℕ → ℕ) → ((k j : ℕ) → k ≤ j → f k ≤ f j) → (a b : ℕ) → a ≤ b → lift f a ≤ lift f b
lift_le f h zero b l = zero-le
lift_le f h (suc a) b l = lift_mono f h a b l

-- where the label on v does not rest on where one came from, the greatest is taken first
pub best_lift : (ok : ℕ → Bool) (f : ℕ → ℕ) (g : ℕ → ℕ) → ((k j : ℕ) → k ≤ j → f k ≤ f j) → (l : List ℕ) → best ok (λ x. lift f (g x)) l ≡ lift f (best ok g l)
best_lift ok f g h l = best_is ok (λ x. lift f (g x)) l (lift f (best ok g l)) (λ n k. some_of n (best ok g l) refl k) (λ x m t. lift_le f h (g x) (best ok g l) (best_all ok g m t))
  where
    some_of : (n b : ℕ) → best ok g l ≡ b → n < lift f b → (x : ℕ) × Mem x l × T (ok x) × (n < lift f (g x))
    some_of n zero e k = absurd (omega arith)
    some_of n (suc b) e k =
        let r = best_some ok g l b (omega (arith, e)) in
        (r.0, r.1, r.2, omega (arith, lift_mono f h b (g r.0) r.3))
