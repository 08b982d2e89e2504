-- Laws of select, map and take_least over the numbers below a bound. Assumes nothing.
use Rattle.std.specs.Prelude.{Option, None, Some}
use Rattle.std.proofs.Common.{◌≡◌, refl, ◌∙◌, ap, Bool, true, false, cond, List, [], ◌∷◌, ◌++◌, map, ℕ, zero, suc, ◌+◌, ◌*◌, ◌<◌, ◌≤◌, add-zero, arith, length, get_or, set, leb, le-leb}
use Rattle.deck.proofs.Members.{Mem}
use Rattle.std.proofs.Math.Decide.{ℕ_discrete}
use Rattle.std.proofs.lemmas.Bool.{lt-leb}
use Rattle.deck.specs.Lists.{count_from, sum, select, take_least, pick_least}
use Rattle.meaning.proofs.Tests.{is_true}
use Rattle.meaning.proofs.Lists.{mem_select, mem_count_from, Took, took}

module _ {A : Type 0} where
  pub map_same : (f g : ℕ → A) (k n : ℕ) → ((i : ℕ) → k ≤ i → i < k + n → f i ≡ g i) → map f (count_from k n) ≡ map g (count_from k n)
  map_same f g k zero h = refl
  map_same f g k (suc n) h = rw (h k (omega arith) (omega arith), map_same f g (suc k) n (λ i a b. h i (omega arith) (omega arith)))

  -- the same of those that are selected
  pub map_select_same : (f g : ℕ → A) (t : ℕ → Bool) (k n : ℕ) → ((i : ℕ) → k ≤ i → i < k + n → f i ≡ g i)
      → map f (select t (count_from k n)) ≡ map g (select t (count_from k n))
  map_select_same f g t k zero h = refl
  map_select_same f g t k (suc n) h = go (t k) (map_select_same f g t (suc k) n (λ i a b. h i (omega arith) (omega arith)))
    where
      go : (b : Bool) → map f (select t (count_from (suc k) n)) ≡ map g (select t (count_from (suc k) n))
          → map f (cond b (k ∷ select t (count_from (suc k) n)) (select t (count_from (suc k) n))) ≡ map g (cond b (k ∷ select t (count_from (suc k) n)) (select t (count_from (suc k) n)))
      go true e = rw (h k (omega arith) (omega arith), e)
      go false e = e

  -- one value of a table set
  pub map_set : (f g : ℕ → A) (k n i : ℕ) (v : A) → g (k + i) ≡ v → ((j : ℕ) → (j ≡ k + i → ⊥) → g j ≡ f j) → map g (count_from k n) ≡ set (map f (count_from k n)) i v
  map_set f g k zero i v e h = refl
  map_set f g k (suc n) zero v e h =
      let z : g k ≡ v = rw add-zero at e in
      rw (z, map_same g f (suc k) n (λ j a b. h j (λ q. omega arith)))
  map_set f g k (suc n) (suc i) v e h =
      let z : k + suc i ≡ suc k + i = omega arith in
      rw (h k (λ q. omega arith), map_set f g (suc k) n i v (rw z at e) (λ j q. h j (λ r. q (r ∙ z))))

pub count_snoc : (k n : ℕ) → count_from k (suc n) ≡ count_from k n ++ ((k + n) ∷ [])
count_snoc k zero = rw add-zero
count_snoc k (suc n) =
    let e : k + suc n ≡ suc k + n = omega arith in
    ap (λ (t : List ℕ). k ∷ t) (count_snoc (suc k) n) ∙ rw e

module _ {A : Type 0} where
  pub select_append : (t : A → Bool) (l r : List A) → select t (l ++ r) ≡ select t l ++ select t r
  select_append t [] r = refl
  select_append t (x ∷ l) r = go (t x) (select_append t l r)
    where
      go : (b : Bool) → select t (l ++ r) ≡ select t l ++ select t r
          → cond b (x ∷ select t (l ++ r)) (select t (l ++ r)) ≡ cond b (x ∷ select t l) (select t l) ++ select t r
      go true e = ap (λ (u : List A). x ∷ u) e
      go false e = e

  pub select_every : (t u : A → Bool) (l : List A) → ((x : A) → t x ≡ u x) → select t l ≡ select u l
  select_every t u [] h = refl
  select_every t u (x ∷ l) h = rw (h x, select_every t u l h)

pub select_same : (t u : ℕ → Bool) (k n : ℕ) → ((i : ℕ) → k ≤ i → i < k + n → t i ≡ u i) → select t (count_from k n) ≡ select u (count_from k n)
select_same t u k zero h = refl
select_same t u k (suc n) h = rw (h k (omega arith) (omega arith), select_same t u (suc k) n (λ i a b. h i (omega arith) (omega arith)))

pub select_none : (t : ℕ → Bool) (k n : ℕ) → ((i : ℕ) → k ≤ i → i < k + n → t i ≡ false) → select t (count_from k n) ≡ []
select_none t k zero h = refl
select_none t k (suc n) h = rw (h k (omega arith) (omega arith), select_none t (suc k) n (λ i a b. h i (omega arith) (omega arith)))

-- sums
pub sum_most : (f : ℕ → ℕ) (k n : ℕ) → ((i : ℕ) → k ≤ i → i < k + n → f i ≤ 256) → sum (map f (count_from k n)) ≤ 256 * n
sum_most f k zero h = omega arith
sum_most f k (suc n) h = omega (arith, h k (omega arith) (omega arith), sum_most f (suc k) n (λ i a b. h i (omega arith) (omega arith)))

-- a list that is a table and zeros after it
pub sum_table : (l : List ℕ) (f : ℕ → ℕ) (k m : ℕ) → m ≤ length l → ((i : ℕ) → i < m → get_or l i 0 ≡ f (k + i)) → ((i : ℕ) → m ≤ i → get_or l i 0 ≡ 0)
    → sum l ≡ sum (map f (count_from k m))
sum_table [] f k zero h e z = refl
sum_table [] f k (suc m) h e z = absurd (omega arith)
sum_table (x ∷ l) f k zero h e z = omega (arith, z 0 (omega arith), sum_table l f k zero (omega arith) (λ i b. absurd (omega arith)) (λ i b. z (suc i) (omega arith)))
sum_table (x ∷ l) f k (suc m) h e z =
    let a : x ≡ f k = rw add-zero at (e 0 (omega arith)) in
    rw (a, sum_table l f (suc k) m (omega arith) (λ i b. e (suc i) (omega arith) ∙ (let q : k + suc i ≡ suc k + i = omega arith in ap f q)) (λ i b. z (suc i) (omega arith)))

-- THE CHOICE: the first of least key among the open numbers
module _ {A B : Type 0} where
  abbrev pub mapped : (A → B) → Option (A × List A) → Option (B × List B)
  mapped f None = None
  mapped f (Some t) = Some (f t.0, map f t.1)

  pub take_map : (f : A → B) (key : B → ℕ) (l : List A) → take_least key (map f l) ≡ mapped f (take_least (λ x. key (f x)) l)
  take_map f key [] = refl
  take_map f key (x ∷ l) = rw (take_map f key l) (go (take_least (λ y. key (f y)) l))
    where
      pick : (t : A × List A) (b : Bool)
          → ◌≡◌ {A = Option (B × List B)} (cond b (Some (f x, map f l)) (Some (f t.0, f x ∷ map f t.1))) (mapped f (cond b (Some (x, l)) (Some (t.0, x ∷ t.1))))
      pick t true = refl
      pick t false = refl

      go : (o : Option (A × List A)) → pick_least key (f x) (map f l) (mapped f o) ≡ mapped f (pick_least (λ y. key (f y)) x l o)
      go None = refl
      go (Some t) = pick t (leb (key (f x)) (key (f t.0)))

module _ (key : ℕ → ℕ) (open? shut? : ℕ → Bool) (n : ℕ) (o : open? n ≡ true) (s : shut? n ≡ false) (other : (j : ℕ) → (j ≡ n → ⊥) → shut? j ≡ open? j) where
  at_head : (l rest : List ℕ) → ((j : ℕ) → Mem j l → key n ≤ key j) → rest ≡ l → take_least key (n ∷ l) ≡ Some (n, rest)
  at_head l rest h e = rw e (go (take_least key l) (took key l))
    where
      go : (t : Option (ℕ × List ℕ)) → Took key l t → pick_least key n l t ≡ Some (n, l)
      go None q = rw q
      go (Some t) q = rw (le-leb (key n) (key t.0) (h t.0 q.0.taken))

  pub took_first : (a k : ℕ) → a ≤ n → n < a + k → ((j : ℕ) → a ≤ j → j < a + k → open? j ≡ true → key n ≤ key j) → ((j : ℕ) → a ≤ j → j < n → open? j ≡ true → key n < key j)
      → take_least key (select open? (count_from a k)) ≡ Some (n, select shut? (count_from a k))
  took_first a zero b c least first = absurd (omega arith)
  took_first a (suc k) b c least first = go (ℕ_discrete a n) (λ g. took_first (suc a) k (omega arith) (omega arith) (λ j x y. least j (omega arith) (omega arith)) (λ j x y. first j (omega arith) (omega arith)))
    where
      rest : List ℕ
      rest = select open? (count_from (suc a) k)

      passed : (t : Bool) → open? a ≡ t → (a ≡ n → ⊥) → take_least key rest ≡ Some (n, select shut? (count_from (suc a) k))
          → take_least key (cond t (a ∷ rest) rest) ≡ Some (n, cond t (a ∷ select shut? (count_from (suc a) k)) (select shut? (count_from (suc a) k)))
      passed true e ne ih = rw (ih, lt-leb (key a) (key n) (first a (omega arith) (omega arith) e))
      passed false e ne ih = ih

      go : Dec (a ≡ n) → (a < n → take_least key (select open? (count_from (suc a) k)) ≡ Some (n, select shut? (count_from (suc a) k)))
          → take_least key (select open? (count_from a (suc k))) ≡ Some (n, select shut? (count_from a (suc k)))
      go (yes e) ih =
          rw (e, o, s)
          (at_head (select open? (count_from (suc n) k)) (select shut? (count_from (suc n) k))
          (λ j m. let r = mem_select open? (count_from (suc n) k) m in let q = mem_count_from (suc n) k r.0 in least j (omega arith) (omega arith) (is_true (open? j) r.1))
          (select_same shut? open? (suc n) k (λ i x y. other i (λ q. omega arith))))
      go (no ne) ih = rw (other a ne) (passed (open? a) refl ne (ih (omega arith)))
