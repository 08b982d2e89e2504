-- The assignment of least merged weight is the first in order: its weight is the least, and among those of that weight its list
-- comes first. There is none exactly if that assignment is heavy. Assumes nothing.
use Rattle.std.proofs.Common.{ℕ, zero, suc, ◌+◌, ◌-◌, ◌*◌, ◌≤◌, ◌<◌, suc-le-suc, zero-le, ◌≡◌, refl, sym, ap, ap₂, subst, ◌∙◌, ◌⊎◌, inl, inr, ⊎_elim, ◌≢◌, Bool, cond, List, [], ◌∷◌, map, Option, None, Some, eq-or-lt_of_le, le_of_suc-le-suc, mul-le-mul_right, suc-mul, arith, length, ltb, eq-eqb, ne_eqb, lt-ltb, le-ltb}
use Rattle.std.proofs.lemmas.Bool.{cases_lt}
use Rattle.deck.proofs.Members.{Mem, here, there, not-nil, cases_cons}
use Rattle.std.proofs.Math.Nat.{suc_inj}
use Rattle.deck.specs.Lists.{below, count_from, sum}
use Rattle.deck.specs.Assignments.{barred, entry_at, sum_of, least_assignment}
use Rattle.meaning.specs.Meaning.{◌at◌, Assignment, Unbarred, StrictlyBefore, Less}
use Rattle.meaning.proofs.Lists.{sum_same, mem_below, length_count_from}
use Rattle.meaning.proofs.Assignments.{Least, least_assignment_lem, sum_at}
use Rattle.prices.specs.Matching.{cost, AtMost}
use Rattle.prices.specs.Weights.{heavy, weigh, place, rank, place_of, merged, weights, merged_weights}
use Rattle.prices.proofs.Sums.{sum_plus, sum_times, map_at, assigned_sum}

-- THE ORDER IS STRICT
before_asym : (a b : List ℕ) → StrictlyBefore a b → StrictlyBefore b a → ⊥
before_asym [] [] p q = p
before_asym [] (y ∷ b) p q = q
before_asym (x ∷ a) [] p q = p
before_asym (x ∷ a) (y ∷ b) (inl p) (inl q) = omega arith
before_asym (x ∷ a) (y ∷ b) (inl p) (inr (e, q)) = omega arith
before_asym (x ∷ a) (y ∷ b) (inr (e, p)) (inl q) = omega arith
before_asym (x ∷ a) (y ∷ b) (inr (e, p)) (inr (f, q)) = before_asym a b p q

before_trans : (a b d : List ℕ) → StrictlyBefore a b → StrictlyBefore b d → StrictlyBefore a d
before_trans [] [] d p q = absurd p
before_trans [] (y ∷ b) [] p q = q
before_trans [] (y ∷ b) (z ∷ d) p q = tt
before_trans (x ∷ a) [] d p q = absurd p
before_trans (x ∷ a) (y ∷ b) [] p q = q
before_trans (x ∷ a) (y ∷ b) (z ∷ d) (inl p) (inl q) = inl (omega arith)
before_trans (x ∷ a) (y ∷ b) (z ∷ d) (inl p) (inr (f, q)) = inl (omega arith)
before_trans (x ∷ a) (y ∷ b) (z ∷ d) (inr (e, p)) (inl q) = inl (omega arith)
before_trans (x ∷ a) (y ∷ b) (z ∷ d) (inr (e, p)) (inr (f, q)) = inr (e ∙ f, before_trans a b d p q)

module _ (m : ℕ) (table : List ℕ) where
  pub less_asym : (a b : List ℕ) → Less m table a b → Less m table b a → ⊥
  less_asym a b (inl p) (inl q) = omega arith
  less_asym a b (inl p) (inr (e, q)) = omega arith
  less_asym a b (inr (e, p)) (inl q) = omega arith
  less_asym a b (inr (e, p)) (inr (f, q)) = before_asym a b p q

  pub less_trans : (a b d : List ℕ) → Less m table a b → Less m table b d → Less m table a d
  less_trans a b d (inl p) (inl q) = inl (omega arith)
  less_trans a b d (inl p) (inr (f, q)) = inl (omega arith)
  less_trans a b d (inr (e, p)) (inl q) = inl (omega arith)
  less_trans a b d (inr (e, p)) (inr (f, q)) = inr (e ∙ f, before_trans a b d p q)

  -- the least assignment is known by what it is
  pub is_none : ((b : List ℕ) → ¬ Unbarred m table b) → least_assignment m table ≡ None
  is_none h = go (least_assignment m table) (least_assignment_lem m table)
    where
      go : (o : Option (List ℕ)) → Least m table o → o ≡ None
      go None l = refl
      go (Some b) l = absurd (h b l.0)

  pub is_least : (a : List ℕ) → Unbarred m table a → ((b : List ℕ) → Unbarred m table b → (b ≡ a) ⊎ Less m table a b)
      → least_assignment m table ≡ Some a
  is_least a u h = go (least_assignment m table) (least_assignment_lem m table)
    where
      go : (o : Option (List ℕ)) → Least m table o → o ≡ Some a
      go None l = let b = l a u.0 in absurd (u.1 b.0 b.1 b.2)
      go (Some b) l =
          ap Some
          (⊎_elim (λ e. e) (λ p. ⊎_elim (λ e. sym e) (λ q. absurd (less_asym a b p q)) (l.1 a u)) (h b l.0))

-- DIGITS
abbrev Digits : List ℕ → Type 0
Digits a = (i : ℕ) → i < length a → a at i < 12

tail_digits : (x : ℕ) (a : List ℕ) → Digits (x ∷ a) → Digits a
tail_digits x a h i l = h (suc i) (suc-le-suc l)

rank_low : (n : ℕ) (a : List ℕ) → Digits a → rank n a < place n
unfolding rank place
rank_low zero [] h = suc-le-suc zero-le
rank_low (suc n) [] h = omega (arith, rank_low n [] h)
rank_low zero (x ∷ a) h = suc-le-suc zero-le
rank_low (suc n) (x ∷ a) h =
    omega (arith, rank_low n a (tail_digits x a h), mul-le-mul_right (place n) (h 0 (suc-le-suc zero-le)), suc-mul x (place n))

-- what is below k does not count against a multiple of k
whole_parts : (k x y r s : ℕ) → s < k → x * k + r ≤ y * k + s → x ≤ y
whole_parts k x y r s ls h = ⊎_elim (λ l. absurd (omega (arith, mul-le-mul_right k l, suc-mul y k))) (λ l. l) (cases_lt y x)

abbrev total : List ℕ → ℕ
total a = sum (map (λ x. x) a)

-- lists of one length and one sum are in the order of their numbers, of which the last digit may be left out
rank_order : (n : ℕ) (a b : List ℕ) → length a ≡ length b → length a ≤ suc n → total a ≡ total b → Digits a → Digits b → rank n a ≤ rank n b → (b ≡ a) ⊎ StrictlyBefore a b
unfolding rank
rank_order n [] [] e l s h k le = inl refl
rank_order n [] (y ∷ b) e l s h k le = absurd (omega (arith, e))
rank_order n (x ∷ a) [] e l s h k le = absurd (omega (arith, e))
rank_order zero (x ∷ []) (y ∷ []) e l s h k le = let q : y ≡ x = omega (arith, s) in inl (ap (λ (z : ℕ). z ∷ []) q)
rank_order zero (x ∷ []) (y ∷ z ∷ b) e l s h k le = absurd (omega (arith, e))
rank_order zero (x ∷ z ∷ a) (y ∷ b) e l s h k le = absurd (omega (arith, l))
rank_order (suc n) (x ∷ a) (y ∷ b) e l s h k le =
    go (eq-or-lt_of_le (whole_parts (place n) x y (rank n a) (rank n b) small le))
    (λ f le'. rank_order n a b (suc_inj e) (le_of_suc-le-suc l) (omega (arith, s, f)) (tail_digits x a h) (tail_digits y b k) le')
  where
    small : rank n b < place n
    small = rank_low n b (tail_digits y b k)

    deep : x ≡ y → (b ≡ a) ⊎ StrictlyBefore a b → (y ∷ b ≡ x ∷ a) ⊎ StrictlyBefore (x ∷ a) (y ∷ b)
    deep f (inl g) = inl (ap₂ (λ (z : ℕ) (t : List ℕ). z ∷ t) (sym f) g)
    deep f (inr g) = inr (inr (f, g))

    go : (x ≡ y) ⊎ (x < y) → (x ≡ y → rank n a ≤ rank n b → (b ≡ a) ⊎ StrictlyBefore a b) → (y ∷ b ≡ x ∷ a) ⊎ StrictlyBefore (x ∷ a) (y ∷ b)
    go (inr f) again = inr (inl f)
    go (inl f) again = deep f (again f (omega (arith, le, ap (λ (z : ℕ). z * place n) f)))

-- the digits of a list by index
rank_sum : (n k : ℕ) (a : List ℕ) (f : ℕ → ℕ) → length a ≤ suc n → ((i : ℕ) → i < length a → f (k + i) ≡ (a at i) * cond (ltb i n) (place (n - suc i)) 0)
    → sum (map f (count_from k (length a))) ≡ rank n a
unfolding rank
rank_sum n k [] f l h = refl
rank_sum zero k (x ∷ []) f l h =
    let z : k + 0 ≡ k = omega arith in
    let first : f k ≡ x * 0 = subst (λ (y : ℕ). f y ≡ x * 0) z (h 0 (suc-le-suc zero-le)) in
    omega (arith, first)
rank_sum zero k (x ∷ y ∷ a) f l h = absurd (omega (arith, l))
rank_sum (suc n) k (x ∷ a) f l h =
    let z : k + 0 ≡ k = omega arith in
    let q : suc n - 1 ≡ n = omega arith in
    let first : f k ≡ x * place n = subst (λ (y : ℕ). f y ≡ x * place n) z
    (subst (λ (y : ℕ). f (k + 0) ≡ x * place y) q
    (subst (λ (y : Bool). f (k + 0) ≡ x * cond y (place (suc n - 1)) 0) (lt-ltb 0 (suc n) (suc-le-suc zero-le)) (h 0 (suc-le-suc zero-le)))) in
    omega (arith, first, rank_sum n (suc k) a f (le_of_suc-le-suc l) later)
  where
    later : (i : ℕ) → i < length a → f (suc k + i) ≡ (a at i) * cond (ltb i n) (place (n - suc i)) 0
    later i li =
        let p : k + suc i ≡ suc k + i = omega arith in
        let q : suc n - suc (suc i) ≡ n - suc i = omega arith in
        let r : ltb (suc i) (suc n) ≡ ltb i n = ⊎_elim
        (λ g. lt-ltb (suc i) (suc n) (suc-le-suc g) ∙ sym (lt-ltb i n g)) (λ g. le-ltb (suc i) (suc n) (suc-le-suc g) ∙ sym (le-ltb i n g)) (cases_lt i n) in
        subst (λ (z : ℕ). f z ≡ (a at i) * cond (ltb i n) (place (n - suc i)) 0) p
        (subst (λ (z : ℕ). f (k + suc i) ≡ (a at i) * cond (ltb i n) (place z) 0) q
        (subst (λ (z : Bool). f (k + suc i) ≡ (a at i) * cond z (place (suc n - suc (suc i))) 0) r (h (suc i) (suc-le-suc li))))

-- WEIGHTS
pub weigh_open : (e : ℕ) → e ≢ barred → weigh e ≡ e
unfolding weigh
weigh_open e n = rw (ne_eqb e barred n)

pub weigh_barred : (e : ℕ) → e ≡ barred → weigh e ≡ heavy
unfolding weigh
weigh_barred e q = rw (eq-eqb e barred q)

term_le : (f : ℕ → ℕ) (l : List ℕ) (x : ℕ) → Mem x l → f x ≤ sum (map f l)
term_le f [] x m = absurd (not-nil m)
term_le f (y ∷ l) x m = ⊎_elim (λ q. rw q (omega arith)) (λ n. omega (arith, term_le f l x n)) (cases_cons m)

terms_le : (f : ℕ → ℕ) (b : ℕ) (l : List ℕ) → ((x : ℕ) → Mem x l → f x ≤ b) → sum (map f l) ≤ b * length l
terms_le f b [] h = zero-le
terms_le f b (y ∷ l) h = omega (arith, h y (here refl), terms_le f b l (λ x m. h x (there m)))

module _ (m : ℕ) (small : m ≤ 12) (table : List ℕ) (words : AtMost m (entry_at m table) barred) where
  -- an assignment that is not heavy uses no barred entry
  pub light_unbarred : (a : List ℕ) → Assignment m a → cost m (weights m table) a < heavy → Unbarred m table a
  light_unbarred a h l = (h, λ i li e. absurd (omega (arith, term_le (λ i. weights m table i (a at i)) (below m) i ((mem_below m).1 li), weigh_barred (entry_at m table i (a at i)) e, l)))

  -- and one that uses none weighs its sum
  pub unbarred_cost : (a : List ℕ) → Unbarred m table a → cost m (weights m table) a ≡ sum_of m table a
  unbarred_cost a (h, o) =
      sum_same (λ i. weights m table i (a at i)) (λ i. entry_at m table i (a at i)) (below m) (λ i n. weigh_open (entry_at m table i (a at i)) (o i ((mem_below m).0 n)))
      ∙ sym (sum_at m table a h.as_many)

  pub unbarred_light : (a : List ℕ) → Unbarred m table a → cost m (weights m table) a < heavy
  unbarred_light a (h, o) =
      omega (
        arith,
        small,
        length_count_from 0 m,
        terms_le (λ i. weights m table i (a at i)) 65534 (below m) (λ i n. at_entry i ((mem_below m).0 n)),
      )
    where
      at_entry : (i : ℕ) → i < m → weights m table i (a at i) ≤ 65534
      at_entry i li = omega (arith, weigh_open (entry_at m table i (a at i)) (o i li), o i li, words i (a at i) li (h.tasks i li))

  digits : (a : List ℕ) → Assignment m a → Digits a
  digits a h i li = omega (arith, h.tasks i (omega (arith, h.as_many)), small)

  -- weight above, list below
  merged_cost : (a : List ℕ) → Assignment m a → cost m (merged_weights m table) a ≡ cost m (weights m table) a * place 12 + rank 11 a
  unfolding merged place_of
  merged_cost a h =
      sum_plus (λ i. weights m table i (a at i) * place 12) (λ i. (a at i) * place_of i) (below m)
      ∙ ap₂ (λ (x y : ℕ). x + y) (sum_times (λ i. weights m table i (a at i)) (place 12) (below m)) low
    where
      low : sum (map (λ i. (a at i) * place_of i) (below m)) ≡ rank 11 a
      low = subst (λ (n : ℕ). sum (map (λ i. (a at i) * place_of i) (count_from 0 n)) ≡ rank 11 a) h.as_many
          (rank_sum 11 0 a (λ i. (a at i) * place_of i) (omega (arith, h.as_many)) (λ i li. same i))
        where
          same : (i : ℕ) → (a at (0 + i)) * place_of (0 + i) ≡ (a at i) * cond (ltb i 11) (place (11 - suc i)) 0
          same i =
              let p : 0 + i ≡ i = omega arith in
              let q : 10 - i ≡ 11 - suc i = omega arith in
              rw p (ap (λ (z : ℕ). (a at i) * cond (ltb i 11) (place z) 0) q)

  -- each task is there once
  tasks_sum : (a : List ℕ) → Assignment m a → total a ≡ total (below m)
  tasks_sum a h = sym (ap sum (map_at (λ x. x) a m h.as_many)) ∙ assigned_sum (λ x. x) m a h

  module _ (a : List ℕ) (h : Assignment m a)
      (least : (b : List ℕ) → Assignment m b → cost m (merged_weights m table) a ≤ cost m (merged_weights m table) b) where
    both : (b : List ℕ) → Assignment m b
        → cost m (weights m table) a * place 12 + rank 11 a ≤ cost m (weights m table) b * place 12 + rank 11 b
    both b k = rw (← merged_cost a h, ← merged_cost b k) (least b k)

    rank_small : (b : List ℕ) → Assignment m b → rank 11 b < place 12
    unfolding place
    rank_small b k = omega (arith, rank_low 11 b (digits b k))

    pub weight_least : (b : List ℕ) → Assignment m b → cost m (weights m table) a ≤ cost m (weights m table) b
    weight_least b k = whole_parts (place 12) (cost m (weights m table) a) (cost m (weights m table) b) (rank 11 a) (rank 11 b) (rank_small b k) (both b k)

    list_first : (b : List ℕ) → Assignment m b → cost m (weights m table) a ≡ cost m (weights m table) b → (b ≡ a) ⊎ StrictlyBefore a b
    list_first b k e =
        rank_order 11 a b (h.as_many ∙ sym k.as_many) (omega (arith, h.as_many)) (tasks_sum a h ∙ sym (tasks_sum b k)) (digits a h) (digits b k)
        (omega (arith, both b k, ap (λ (z : ℕ). z * place 12) e))

    pub merged_none : heavy ≤ cost m (weights m table) a → least_assignment m table ≡ None
    merged_none l = is_none m table (λ b u. omega (arith, weight_least b u.0, unbarred_light b u))

    pub merged_first : cost m (weights m table) a < heavy → least_assignment m table ≡ Some a
    merged_first l = is_least m table a open_a (λ b u. go b u (eq-or-lt_of_le (weight_least b u.0)))
      where
        open_a : Unbarred m table a
        open_a = light_unbarred a h l

        go : (b : List ℕ) → Unbarred m table b → (cost m (weights m table) a ≡ cost m (weights m table) b) ⊎ (cost m (weights m table) a < cost m (weights m table) b)
            → (b ≡ a) ⊎ Less m table a b
        go b u (inr k) = inr (inl (rw (← unbarred_cost a open_a, ← unbarred_cost b u) k))
        go b u (inl e) =
            ⊎_elim (λ q. inl q) (λ q. inr (inr (sym (unbarred_cost a open_a) ∙ e ∙ unbarred_cost b u, q))) (list_first b u.0 e)
