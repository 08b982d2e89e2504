-- The order of candidates as the code compares them is the order of assignments. Assumes nothing.
use Rattle.std.proofs.Common.{Option, Some, Ordering, eq-eqb, ne_eqb, ◌≢◌, ℕ, zero, suc, ◌+◌, ◌-◌, ◌≤◌, ◌<◌, suc-le-suc, zero-le, ◌≡◌, refl, sym, ap, subst, ◌∙◌, ◌⊎◌, inl, inr, ⊎_elim, Bool, true, false, cond, List, [], ◌∷◌, le_of_suc-le-suc, arith, length, replicate, get_or-append-add, ltb, lt-ltb, le-ltb}
use Rattle.std.proofs.lemmas.Bool.{cases_lt}
use Rattle.std.proofs.Math.Nat.{suc_inj}
use Rattle.std.proofs.Math.ListN.{get_or-append}
use Rattle.std.proofs.lemmas.List.{get_or-replicate}
use Rattle.std.specs.Ordering.{nat_cmp, is_lt, is_some_and, partial_lt, partial_ordering_then}
use Rattle.std.specs.Cmp.Lexicographic.{slice_partial_cmp}
use Rattle.candidates.specs.declared.Candidate.{Candidate}
use Rattle.candidates.specs.contracts.CandidatePartialOrd.TheImpl.{partial_cmp-value}
use Rattle.deck.specs.Assignments.{sum_of}
use Rattle.deck.specs.Calls.{task_list}
use Rattle.meaning.specs.Meaning.{◌at◌, StrictlyBefore, Less}
use Rattle.meaning.proofs.Tests.{Says}
use Rattle.candidates.specs.Candidates.{less_from, earlier, candidate_of}

-- a comparison of two numbers, and of what follows where they are equal
module _ (x y : ℕ) (b : Bool) where
  abbrev then : Bool
  then = cond (ltb x y) true (cond (ltb y x) false b)

  says_then : {P : Type 0} → Says b P → Says then ((x < y) ⊎ ((x ≡ y) × P))
  says_then {P} s = ⊎_elim less no_less (cases_lt x y)
    where
      less : x < y → Says then ((x < y) ⊎ ((x ≡ y) × P))
      less h = rw (lt-ltb x y h) (record { fact = λ t. inl h; test = λ p. tt })

      no_less : y ≤ x → Says then ((x < y) ⊎ ((x ≡ y) × P))
      no_less h = ⊎_elim more same (cases_lt y x)
        where
          more : y < x → Says then ((x < y) ⊎ ((x ≡ y) × P))
          more k = rw (le-ltb x y h, lt-ltb y x k) (record { fact = λ t. absurd t; test = ⊎_elim (λ l. absurd (omega arith)) (λ p. absurd (omega (arith, p.0))) })

          same : x ≤ y → Says then ((x < y) ⊎ ((x ≡ y) × P))
          same k =
              let e : x ≡ y = omega arith in
              rw (le-ltb x y h, le-ltb y x k) (record { fact = λ t. inr (e, s.fact t); test = ⊎_elim (λ l. absurd (omega arith)) (λ p. s.test p.1) })

-- lists that go on alike do not differ
no_less_alike : (n i : ℕ) (x y : List ℕ) → ((k : ℕ) → i ≤ k → k < i + n → x at k ≡ y at k) → less_from n i x y ≡ false
unfolding less_from
no_less_alike zero i x y h = refl
no_less_alike (suc n) i x y h =
    let e = h i (omega arith) (omega arith) in
    rw (le-ltb (x at i) (y at i) (omega (arith, e)), le-ltb (y at i) (x at i) (omega (arith, e)))
    (no_less_alike n (suc i) x y (λ k l g. h k (omega arith) (omega arith)))

-- a and b, of one length, stand in x and y from index i on, and after them x and y are alike
less_says : (n i : ℕ) (x y a b : List ℕ) → length a ≡ length b → length a ≤ n → ((k : ℕ) → k < length a → x at (i + k) ≡ a at k)
    → ((k : ℕ) → k < length b → y at (i + k) ≡ b at k) → ((k : ℕ) → i + length a ≤ k → k < i + n → x at k ≡ y at k) → Says (less_from n i x y) (StrictlyBefore a b)
unfolding less_from
less_says n i x y [] [] e l p q r = rw (no_less_alike n i x y (λ k g h. r k (omega arith) h)) (record { fact = λ t. t; test = λ h. h })
less_says n i x y [] (z ∷ b) e l p q r = absurd (omega (arith, e))
less_says n i x y (z ∷ a) [] e l p q r = absurd (omega (arith, e))
less_says zero i x y (u ∷ a) (v ∷ b) e l p q r = absurd (omega (arith, l))
less_says (suc n) i x y (u ∷ a) (v ∷ b) e l p q r =
    let z : i + 0 ≡ i = omega arith in
    let pu : x at i ≡ u = subst (λ (k : ℕ). x at k ≡ u) z (p 0 (suc-le-suc zero-le)) in
    let qv : y at i ≡ v = subst (λ (k : ℕ). y at k ≡ v) z (q 0 (suc-le-suc zero-le)) in
    rw (pu, qv) (says_then u v (less_from n (suc i) x y)
    (less_says n (suc i) x y a b (suc_inj e) (le_of_suc-le-suc l) (λ k h. shift x a u p k h) (λ k h. shift y b v q k h) (λ k g h. r k (omega arith) (omega arith))))
  where
    shift : (x a : List ℕ) (u : ℕ) → ((k : ℕ) → k < suc (length a) → x at (i + k) ≡ (u ∷ a) at k) → (k : ℕ) → k < length a → x at (suc i + k) ≡ a at k
    shift x a u p k h = let z : i + suc k ≡ suc i + k = omega arith in subst (λ (j : ℕ). x at j ≡ a at k) z (p (suc k) (suc-le-suc h))

front : (a : List ℕ) (k : ℕ) → k < length a → task_list a at (0 + k) ≡ a at k
front a k h = let z : 0 + k ≡ k = omega arith in rw z (get_or-append a (replicate (12 - length a) 255) 0 k h)

back : (a : List ℕ) (k : ℕ) → length a ≤ k → k < 12 → task_list a at k ≡ 255
back a k h l =
    let z : k ≡ length a + (k - length a) = omega arith in
    ap (◌at◌ (task_list a)) z ∙ get_or-append-add a (replicate (12 - length a) 255) (k - length a) 0 ∙ get_or-replicate (12 - length a) (k - length a) 255 0 (omega arith)

-- THE ORDER OF CANDIDATES is that of their assignments
pub says_earlier : (m : ℕ) (table a b : List ℕ) → m ≤ 12 → length a ≡ m → length b ≡ m
    → Says (earlier (candidate_of m table a) (candidate_of m table b)) (Less m table a b)
says_earlier m table a b small la lb =
    says_then (sum_of m table a) (sum_of m table b) (less_from 12 0 (task_list a) (task_list b))
    (less_says 12 0 (task_list a) (task_list b) a b (la ∙ sym lb) (omega (arith, la)) (front a) (front b)
    (λ k g h. back a k (omega arith) (omega arith) ∙ sym (back b k (omega (arith, la, lb)) (omega arith))))

-- THE DERIVED ORDER compares by sum, then list by list
first_differ : (u v : ℕ) (rest : Option Ordering) (b : Bool) → is_some_and is_lt rest ≡ b
    → is_some_and is_lt (partial_ordering_then (Some (nat_cmp u v)) rest) ≡ cond (ltb u v) true (cond (ltb v u) false b)
first_differ u v rest b e = ⊎_elim less no_less (cases_lt u v)
  where
    less : u < v → is_some_and is_lt (partial_ordering_then (Some (nat_cmp u v)) rest) ≡ cond (ltb u v) true (cond (ltb v u) false b)
    less h = rw (lt-ltb u v h) refl

    more : v ≤ u → v < u → is_some_and is_lt (partial_ordering_then (Some (nat_cmp u v)) rest) ≡ cond (ltb u v) true (cond (ltb v u) false b)
    more h g = let n : u ≢ v = λ d. omega (arith, d) in rw (le-ltb u v h, ne_eqb u v n, lt-ltb v u g) refl

    alike : v ≤ u → u ≤ v → is_some_and is_lt (partial_ordering_then (Some (nat_cmp u v)) rest) ≡ cond (ltb u v) true (cond (ltb v u) false b)
    alike h g = rw (le-ltb u v h, eq-eqb u v (omega arith), le-ltb v u g) e

    no_less : v ≤ u → is_some_and is_lt (partial_ordering_then (Some (nat_cmp u v)) rest) ≡ cond (ltb u v) true (cond (ltb v u) false b)
    no_less h = ⊎_elim (more h) (alike h) (cases_lt v u)

pub lists_less : (n i : ℕ) (x y a b : List ℕ) → length a ≡ n → length b ≡ n → ((k : ℕ) → k < n → x at (i + k) ≡ a at k) → ((k : ℕ) → k < n → y at (i + k) ≡ b at k)
    → is_some_and is_lt (slice_partial_cmp (λ u v. Some (nat_cmp u v)) a b) ≡ less_from n i x y
unfolding less_from
lists_less zero i x y [] [] e f p q = refl
lists_less zero i x y [] (v ∷ b) e f p q = absurd (omega (arith, f))
lists_less zero i x y (u ∷ a) b e f p q = absurd (omega (arith, e))
lists_less (suc n) i x y [] b e f p q = absurd (omega (arith, e))
lists_less (suc n) i x y (u ∷ a) [] e f p q = absurd (omega (arith, f))
lists_less (suc n) i x y (u ∷ a) (v ∷ b) e f p q =
    let z : i + 0 ≡ i = omega arith in
    let pu : x at i ≡ u = subst (λ (k : ℕ). x at k ≡ u) z (p 0 (suc-le-suc zero-le)) in
    let qv : y at i ≡ v = subst (λ (k : ℕ). y at k ≡ v) z (q 0 (suc-le-suc zero-le)) in
    rw (pu, qv) (first_differ u v _ _ (lists_less n (suc i) x y a b (suc_inj e) (suc_inj f) (λ k l. shift x a u p k l) (λ k l. shift y b v q k l)))
  where
    shift : (x a : List ℕ) (u : ℕ) → ((k : ℕ) → k < suc n → x at (i + k) ≡ (u ∷ a) at k) → (k : ℕ) → k < n → x at (suc i + k) ≡ a at k
    shift x a u p k h = let z : i + suc k ≡ suc i + k = omega arith in subst (λ (j : ℕ). x at j ≡ a at k) z (p (suc k) (suc-le-suc h))

-- THE DERIVED ORDER IS `earlier`, so that of assignments
pub derived_earlier : (s t : Candidate) → length s.tasks ≡ 12 → length t.tasks ≡ 12 → partial_lt partial_cmp-value.it s t ≡ earlier s t
derived_earlier s t e f = first_differ s.sum t.sum _ _ (lists_less 12 0 s.tasks t.tasks s.tasks t.tasks e f (λ k l. at_front s.tasks k) (λ k l. at_front t.tasks k))
  where
    at_front : (l : List ℕ) (k : ℕ) → l at (0 + k) ≡ l at k
    at_front l k = let z : 0 + k ≡ k = omega arith in ap (◌at◌ l) z
