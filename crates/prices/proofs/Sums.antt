-- Sums over lists of numbers, and over the tasks of an assignment: each task is there once. Assumes nothing.
use Rattle.std.proofs.Common.{ℕ, zero, suc, ◌+◌, ◌-◌, ◌*◌, ◌≤◌, ◌<◌, ◌≡◌, refl, sym, ap, ◌∙◌, ◌⊎◌, inl, inr, ⊎_elim, ◌≢◌, Bool, true, false, cond, not, List, [], ◌∷◌, map, add-mul, zero-mul, arith, length, get_or, ext_get_or, eqb, eqb-true, ne_eqb}
use Rattle.deck.proofs.Members.{Mem, here, there, not-nil, cases_cons, only}
use Rattle.std.proofs.lemmas.List.{length-map}
use Rattle.std.proofs.Math.ListN.{get_or-map}
use Rattle.std.proofs.lemmas.Bool.{eqb-false}
use Rattle.deck.specs.Lists.{below, count_from, select, sum}
use Rattle.deck.specs.Assignments.{arrangements, assignments}
use Rattle.meaning.specs.Meaning.{◌at◌, Assignment}
use Rattle.meaning.specs.Sorted.{Sorted}
use Rattle.meaning.proofs.Lists.{mem_map, mem_each, get_or_tabulate, length_count_from, sorted_select, sorted_count_from}
use Rattle.meaning.proofs.Assignments.{assignment_mem}

module _ (f g : ℕ → ℕ) where
  pub sum_plus : (l : List ℕ) → sum (map (λ i. f i + g i) l) ≡ sum (map f l) + sum (map g l)
  sum_plus [] = refl
  sum_plus (x ∷ l) = omega (arith, sum_plus l)

  -- what is above f
  pub sum_above : (l : List ℕ) → ((i : ℕ) → Mem i l → f i ≤ g i) → sum (map g l) ≡ sum (map f l) + sum (map (λ i. g i - f i) l)
  sum_above [] h = refl
  sum_above (x ∷ l) h = omega (arith, h x (here refl), sum_above l (λ i m. h i (there m)))

-- one term more at the end
pub sum_next : (f : ℕ → ℕ) (k n : ℕ) → sum (map f (count_from k (suc n))) ≡ sum (map f (count_from k n)) + f (k + n)
sum_next f k zero = let e : k + 0 ≡ k = omega arith in rw e (omega arith)
sum_next f k (suc n) = let e : k + suc n ≡ suc k + n = omega arith in rw e (omega (arith, sum_next f (suc k) n))

pub sum_times : (f : ℕ → ℕ) (k : ℕ) (l : List ℕ) → sum (map (λ i. f i * k) l) ≡ sum (map f l) * k
sum_times f k [] = sym (zero-mul k)
sum_times f k (x ∷ l) = rw (add-mul (f x) (sum (map f l)) k) (omega (arith, sum_times f k l))

-- a sum is 0 exactly if each term is
pub sum_nothing : (f : ℕ → ℕ) (l : List ℕ) → sum (map f l) ≡ 0 → (x : ℕ) → Mem x l → f x ≡ 0
sum_nothing f [] e x m = absurd (not-nil m)
sum_nothing f (y ∷ l) e x m = ⊎_elim (λ q. rw q (omega arith)) (sum_nothing f l (omega arith) x) (cases_cons m)

pub nothing_sum : (f : ℕ → ℕ) (l : List ℕ) → ((x : ℕ) → Mem x l → f x ≡ 0) → sum (map f l) ≡ 0
nothing_sum f [] h = refl
nothing_sum f (y ∷ l) h = omega (arith, h y (here refl), nothing_sum f l (λ x m. h x (there m)))

pub map_at : {A : Type 0} (f : ℕ → A) (a : List ℕ) (m : ℕ) → length a ≡ m → map (λ i. f (a at i)) (below m) ≡ map f a
map_at f a m e = ext_get_or (f 0) (map (λ i. f (a at i)) (below m)) (map f a) long (λ i h. same i (rw short at h))
  where
    short : length (map (λ i. f (a at i)) (below m)) ≡ m
    short = length-map (below m) (λ i. f (a at i)) ∙ length_count_from 0 m

    long : length (map (λ i. f (a at i)) (below m)) ≡ length (map f a)
    long = short ∙ sym (length-map a f ∙ e)

    same : (i : ℕ) → i < m → get_or (map (λ i. f (a at i)) (below m)) i (f 0) ≡ get_or (map f a) i (f 0)
    same i h =
        let z : 0 + i ≡ i = omega arith in
        get_or_tabulate (λ i. f (a at i)) 0 m i (f 0) h ∙ ap (λ (k : ℕ). f (a at k)) z ∙ sym (get_or-map f a i 0)

abbrev without : ℕ → List ℕ → List ℕ
without x l = select (λ y. not (eqb x y)) l

without_absent : (x : ℕ) (l : List ℕ) → ((y : ℕ) → Mem y l → x ≢ y) → without x l ≡ l
without_absent x [] h = refl
without_absent x (y ∷ l) h = rw (ne_eqb x y (h y (here refl)), without_absent x l (λ z m. h z (there m)))

sum_without : (v : ℕ → ℕ) (l : List ℕ) → Sorted ◌<◌ l → (x : ℕ) → Mem x l → sum (map v l) ≡ v x + sum (map v (without x l))
sum_without v [] h x m = absurd (not-nil m)
sum_without v (y ∷ l) h x m = go (eqb x y) refl (cases_cons m) (λ n. sum_without v l h.1 x n)
  where
    go : (b : Bool) → eqb x y ≡ b → (x ≡ y) ⊎ Mem x l → (Mem x l → sum (map v l) ≡ v x + sum (map v (without x l)))
        → v y + sum (map v l) ≡ v x + sum (map v (cond (not b) (y ∷ without x l) (without x l)))
    go true e m again =
        let f : x ≡ y = eqb-true x y e in
        rw (f, without_absent y l (λ z n q. absurd (omega (arith, h.0 z n))))
    go false e (inl f) again = absurd (eqb-false x y e f)
    go false e (inr n) again = omega (arith, again n)

count_ones : (l : List ℕ) → sum (map (λ j. 1) l) ≡ length l
count_ones [] = refl
count_ones (x ∷ l) = omega (arith, count_ones l)

arranged_sum : (v : ℕ → ℕ) (n : ℕ) (l a : List ℕ) → Sorted ◌<◌ l → length l ≡ n → Mem a (arrangements n l) → sum (map v a) ≡ sum (map v l)
unfolding arrangements
arranged_sum v zero [] a s e m = ap (λ (b : List ℕ). sum (map v b)) (only m)
arranged_sum v zero (x ∷ l) a s e m = absurd (omega (arith, e))
arranged_sum v (suc n) l a s e m =
    let p = mem_each (λ x. map (λ r. x ∷ r) (arrangements n (without x l))) l m in
    let x = p.0 in
    let q = mem_map (λ (r : List ℕ). x ∷ r) (arrangements n (without x l)) p.2 in
    let fewer : length (without x l) ≡ n = omega (arith, sum_without (λ j. 1) l s x p.1, count_ones l, count_ones (without x l), e) in
    let again = arranged_sum v n (without x l) q.0 (sorted_select ◌<◌ (λ y. not (eqb x y)) l s) fewer q.1 in
    rw q.2 (omega (arith, again, sum_without v l s x p.1))

-- the sum over the tasks of an assignment is the sum over all tasks
pub assigned_sum : (v : ℕ → ℕ) (m : ℕ) (a : List ℕ) → Assignment m a → sum (map (λ i. v (a at i)) (below m)) ≡ sum (map v (below m))
unfolding assignments
assigned_sum v m a h =
    ap sum (map_at v a m h.as_many)
    ∙ arranged_sum v m (below m) a (sorted_count_from 0 m) (length_count_from 0 m) ((assignment_mem m a).1 h)
