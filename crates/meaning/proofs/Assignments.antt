-- The assignments in order are exactly the assignments that use no barred entry, strictly rising by sum and then by list of task
-- numbers; the least is the first of them; each task of an assignment has a carrier; the table has the finish of each least path. Assumes
-- nothing.
use Rattle.std.proofs.Common.{ℕ, zero, suc, ◌+◌, ◌≤◌, ◌<◌, zero-le, suc-le-suc, ◌≡◌, refl, sym, ap, subst, ◌∙◌, ◌↔◌, ◌≢◌, ◌⊎◌, inl, inr, ⊎_elim, Bool, true, false, cond, not, List, [], ◌∷◌, map, Option, None, Some, not-suc-le-zero, le_of_suc-le-suc, eq-or-lt_of_le, le_refl, arith, length, get_or, ext_get_or, eqb}
use Rattle.deck.proofs.Members.{Mem, here, there, not-nil, cases_cons, only, map_mem}
use Rattle.std.proofs.Math.Nat.{suc_inj}
use Rattle.std.proofs.Math.Decide.{ℕ_discrete}
use Rattle.std.proofs.lemmas.List.{length-map}
use Rattle.std.proofs.lemmas.Bool.{eqb-false}
use Rattle.deck.specs.Lists.{below, all, select, each, sum}
use Rattle.deck.specs.Sheet.{Sheet, carrier, task}
use Rattle.deck.specs.Paths.{least_path}
use Rattle.deck.specs.Assignments.{barred, arrangements, assignments, entry_at, entries_from, entries, sum_of, allowed, assignments_in_order, least_assignment, entry_of, table_of}
use Rattle.meaning.specs.Meaning.{◌at◌, Assignment, Unbarred, StrictlyBefore, Less, AllBarred}
use Rattle.meaning.proofs.Tests.{Says, says_eqb, says_not, says_iff}
use Rattle.meaning.specs.Sorted.{Sorted}
use Rattle.meaning.proofs.Lists.{mem_map, mem_each, each_mem, mem_select, select_mem, mem_below, get_or_count_from, length_count_from, get_or_tabulate, sorted_select, sorted_map, sorted_count_from, sorted_each, each_at, Head, head_first}
use Rattle.meaning.proofs.ListTests.{at_mem, says_all_at}
use Rattle.meaning.proofs.InOrder.{sorted_once, in_order_mem, in_order_sorted}

-- the numbers of l without x
abbrev without : ℕ → List ℕ → List ℕ
without x l = select (λ y. not (eqb x y)) l

not_same : (x y : ℕ) → Says (not (eqb x y)) (x ≢ y)
not_same x y = says_not says_eqb

-- n different numbers of l
record Arrangement (n : ℕ) (l a : List ℕ) : Type 0 where
  as_many : length a ≡ n
  members : (i : ℕ) → i < n → Mem (a at i) l
  once : (i j : ℕ) → i < n → j < n → a at i ≡ a at j → i ≡ j

arrangement_cons : (n x : ℕ) (l r : List ℕ) → Mem x l → Arrangement n (without x l) r → Arrangement (suc n) l (x ∷ r)
arrangement_cons n x l r m h = record { as_many = ap suc h.as_many; members = members; once = once }
  where
    members : (i : ℕ) → i < suc n → Mem ((x ∷ r) at i) l
    members zero k = m
    members (suc i) k = (mem_select _ l (h.members i (le_of_suc-le-suc k))).0

    other : (j : ℕ) → j < n → x ≢ r at j
    other j k = (not_same x (r at j)).fact (mem_select _ l (h.members j k)).1

    once : (i j : ℕ) → i < suc n → j < suc n → (x ∷ r) at i ≡ (x ∷ r) at j → i ≡ j
    once zero zero s t e = refl
    once zero (suc j) s t e = absurd (other j (le_of_suc-le-suc t) e)
    once (suc i) zero s t e = absurd (other i (le_of_suc-le-suc s) (sym e))
    once (suc i) (suc j) s t e = ap suc (h.once i j (le_of_suc-le-suc s) (le_of_suc-le-suc t) e)

arrangement_tail : (n x : ℕ) (l r : List ℕ) → Arrangement (suc n) l (x ∷ r) → Arrangement n (without x l) r
arrangement_tail n x l r h = record {
  as_many = suc_inj h.as_many;
  members = λ i k. select_mem _ (h.members (suc i) (suc-le-suc k))
      ((not_same x (r at i)).test (λ e. let z = h.once 0 (suc i) (suc-le-suc zero-le) (suc-le-suc k) e in omega arith));
  once = λ i j s t e. suc_inj (h.once (suc i) (suc j) (suc-le-suc s) (suc-le-suc t) e);
}

mem_arrangements : (n : ℕ) (l a : List ℕ) → Mem a (arrangements n l) → Arrangement n l a
unfolding arrangements
mem_arrangements zero l a m = record {
  as_many = ap length (only m);
  members = λ i k. absurd (not-suc-le-zero k);
  once = λ i j s t e. absurd (not-suc-le-zero s);
}
mem_arrangements (suc n) l a m =
    let e = mem_each (λ x. map (λ r. x ∷ r) (arrangements n (without x l))) l m in
    let f = mem_map (λ (r : List ℕ). e.0 ∷ r) (arrangements n (without e.0 l)) e.2 in
    rw f.2 (arrangement_cons n e.0 l f.0 e.1 (mem_arrangements n (without e.0 l) f.0 f.1))

arrangements_mem : (n : ℕ) (l a : List ℕ) → Arrangement n l a → Mem a (arrangements n l)
unfolding arrangements
arrangements_mem zero l [] h = here refl
arrangements_mem zero l (x ∷ a) h = absurd (omega (arith, h.as_many))
arrangements_mem (suc n) l [] h = absurd (omega (arith, h.as_many))
arrangements_mem (suc n) l (x ∷ a) h =
    each_mem (λ x. map (λ r. x ∷ r) (arrangements n (without x l))) (h.members 0 (suc-le-suc zero-le))
    (map_mem (λ (r : List ℕ). x ∷ r) (arrangements_mem n (without x l) a (arrangement_tail n x l a h)))

-- the assignments of the definition are the assignments
pub assignment_mem : (m : ℕ) (a : List ℕ) → Mem a (assignments m) ↔ Assignment m a
unfolding assignments
assignment_mem m a = (
  λ n. let h = mem_arrangements m (below m) a n in
      record { as_many = h.as_many; tasks = λ i k. (mem_below m).0 (h.members i k); once = h.once },
  λ h. arrangements_mem m (below m) a (record { as_many = h.as_many; members = λ i k. (mem_below m).1 (h.tasks i k); once = h.once }),
)

-- EACH TASK HAS A CARRIER: without one of them there are fewer numbers
without_most : (x : ℕ) (l : List ℕ) → length (without x l) ≤ length l
without_most x [] = zero-le
without_most x (y ∷ l) = go (eqb x y) (without_most x l)
  where
    go : (b : Bool) → length (without x l) ≤ length l → length (cond (not b) (y ∷ without x l) (without x l)) ≤ suc (length l)
    go true h = omega arith
    go false h = omega arith

without_fewer : (x : ℕ) (l : List ℕ) → Mem x l → length (without x l) < length l
without_fewer x [] m = absurd (not-nil m)
without_fewer x (y ∷ l) m = go (eqb x y) refl (cases_cons m) (without_fewer x l)
  where
    go : (b : Bool) → eqb x y ≡ b → (x ≡ y) ⊎ Mem x l → (Mem x l → length (without x l) < length l)
        → length (cond (not b) (y ∷ without x l) (without x l)) < suc (length l)
    go true e o again = omega (arith, without_most x l)
    go false e (inl q) again = absurd (eqb-false x y e q)
    go false e (inr n) again = omega (arith, again n)

-- n different numbers, of at most n, are all of them
arranged_all : (n : ℕ) (l a : List ℕ) → Mem a (arrangements n l) → length l ≤ n → (y : ℕ) → Mem y l → Mem y a
unfolding arrangements
arranged_all zero [] a m h y k = absurd (not-nil k)
arranged_all zero (x ∷ l) a m h y k = absurd (omega arith)
arranged_all (suc n) l a m h y k =
    let e = mem_each (λ x. map (λ r. x ∷ r) (arrangements n (without x l))) l m in
    let x = e.0 in
    let f = mem_map (λ (r : List ℕ). x ∷ r) (arrangements n (without x l)) e.2 in
    let later : y ≢ x → Mem y f.0 =
    λ d. arranged_all n (without x l) f.0 f.1 (omega (arith, without_fewer x l e.1)) y (select_mem _ k ((not_same x y).test (λ q. d (sym q)))) in
    rw f.2 (go x f.0 (ℕ_discrete y x) later)
  where
    go : (x : ℕ) (r : List ℕ) → Dec (y ≡ x) → (y ≢ x → Mem y r) → Mem y (x ∷ r)
    go x r (yes q) later = here q
    go x r (no d) later = there (later d)

pub each_assigned : (m : ℕ) (a : List ℕ) → Assignment m a → (j : ℕ) → j < m → (i : ℕ) × (i < m) × (a at i ≡ j)
unfolding assignments
each_assigned m a h j l =
    let all = arranged_all m (below m) a ((assignment_mem m a).1 h) (omega (arith, length_count_from 0 m)) j ((mem_below m).1 l) in
    let r = at_mem 0 all in
    (r.0, omega (arith, r.1, h.as_many), r.2)

entries_from_length : (m : ℕ) (table : List ℕ) (k : ℕ) (a : List ℕ) → length (entries_from m table k a) ≡ length a
unfolding entries_from
entries_from_length m table k [] = refl
entries_from_length m table k (j ∷ a) = ap suc (entries_from_length m table (suc k) a)

entries_from_at : (m : ℕ) (table : List ℕ) (k : ℕ) (a : List ℕ) (i s : ℕ) → s ≡ k + i → i < length a
    → entries_from m table k a at i ≡ entry_at m table s (a at i)
unfolding entries_from
entries_from_at m table k [] i s e h = absurd (not-suc-le-zero h)
entries_from_at m table k (j ∷ a) zero s e h = let f : k ≡ s = omega arith in ap (λ (r : ℕ). entry_at m table r j) f
entries_from_at m table k (j ∷ a) (suc i) s e h = entries_from_at m table (suc k) a i s (omega arith) (le_of_suc-le-suc h)

pub entries_length : (m : ℕ) (table a : List ℕ) → length (entries m table a) ≡ length a
unfolding entries
entries_length m table a = entries_from_length m table 0 a

-- the entries that an assignment uses, one for each carrier
pub entries_at : (m : ℕ) (table a : List ℕ) (i : ℕ) → i < length a → entries m table a at i ≡ entry_at m table i (a at i)
unfolding entries
entries_at m table a i h = entries_from_at m table 0 a i i (omega arith) h

entries_meant : (m : ℕ) (table a : List ℕ) → length a ≡ m → entries m table a ≡ map (λ i. entry_at m table i (a at i)) (below m)
entries_meant m table a e = ext_get_or 0 (entries m table a) (map used (below m)) long at_index
  where
    used : ℕ → ℕ
    used i = entry_at m table i (a at i)

    long : length (entries m table a) ≡ length (map used (below m))
    long = rw (entries_length m table a, length-map (below m) used, length_count_from 0 m) e

    at_index : (i : ℕ) → i < length (entries m table a) → entries m table a at i ≡ map used (below m) at i
    at_index i h =
        let k : i < length a = omega (arith, entries_length m table a) in
        let z : i ≡ 0 + i = omega arith in
        entries_at m table a i k ∙ ap used z ∙ sym (get_or_tabulate used 0 m i 0 (omega arith))

-- the sum of an assignment is that of its entries, carrier by carrier
pub sum_at : (m : ℕ) (table a : List ℕ) → length a ≡ m → sum_of m table a ≡ sum (map (λ i. entry_at m table i (a at i)) (below m))
unfolding sum_of
sum_at m table a e = ap sum (entries_meant m table a e)

says_open : (m : ℕ) (table a : List ℕ) → length a ≡ m
    → Says (all (λ e. not (eqb e barred)) (entries m table a)) ((i : ℕ) → i < m → entry_at m table i (a at i) ≢ barred)
says_open m table a e = says_iff (says_all_at _ (λ x. x ≢ barred) (λ x. not_same x barred) 0 (entries m table a)) (
  λ h i k. rw (entries_at m table a i (omega arith)) at (h i (rw (entries_length m table a, e) k)),
  λ h i k. let n : i < length a = rw entries_length at k in rw (entries_at m table a i n) (h i (omega arith)),
)

-- the allowed ones are those that use no barred entry
pub allowed_meant : (m : ℕ) (table a : List ℕ) → Mem a (allowed m table) ↔ Unbarred m table a
unfolding allowed
allowed_meant m table a = (
  λ n. let u = mem_select _ (assignments m) n in
      let h = (assignment_mem m a).0 u.0 in
      (h, (says_open m table a h.as_many).fact u.1),
  λ h. select_mem _ ((assignment_mem m a).1 h.0) ((says_open m table a h.0.as_many).test h.1),
)

not_before_itself : (a : List ℕ) → ¬ StrictlyBefore a a
not_before_itself [] h = h
not_before_itself (x ∷ a) (inl h) = omega arith
not_before_itself (x ∷ a) (inr h) = not_before_itself a h.1

-- lists in order, with rising numbers put in front, are in order one after the other
heads_rising : (f : ℕ → List (List ℕ)) → ((x : ℕ) → Sorted StrictlyBefore (f x)) → (l : List ℕ) → Sorted ◌<◌ l
    → Sorted StrictlyBefore (each (λ x. map (λ r. x ∷ r) (f x)) l)
heads_rising f s =
    sorted_each ◌<◌ StrictlyBefore (λ x. map (λ r. x ∷ r) (f x))
    (λ x. sorted_map StrictlyBefore StrictlyBefore (λ r. x ∷ r) (λ a b k. inr (refl, k)) (f x) (s x))
    (λ x y k a b m n. rw ((mem_map (λ (r : List ℕ). x ∷ r) (f x) m).2, (mem_map (λ (r : List ℕ). y ∷ r) (f y) n).2) (inl k))

arrangements_rising : (n : ℕ) (l : List ℕ) → Sorted ◌<◌ l → Sorted StrictlyBefore (arrangements n l)
unfolding arrangements
arrangements_rising zero l h = (λ b m. absurd (not-nil m), tt)
arrangements_rising (suc n) l h =
    heads_rising (λ x. arrangements n (without x l)) (λ x. arrangements_rising n (without x l) (sorted_select ◌<◌ _ l h)) l h

not_less_itself : (m : ℕ) (table a : List ℕ) → ¬ Less m table a a
not_less_itself m table a (inl h) = omega arith
not_less_itself m table a (inr h) = not_before_itself a h.1

-- the assignments in order are exactly those that use no barred entry
pub in_order_meant : (m : ℕ) (table a : List ℕ) → Mem a (assignments_in_order m table) ↔ Unbarred m table a
unfolding assignments_in_order
in_order_meant m table a =
    let i = in_order_mem (sum_of m table) (allowed m table) in
    let u = allowed_meant m table a in
    (λ n. u.0 (i.0 n), λ h. i.1 (u.1 h))

-- and they rise strictly, by sum and then by list
pub in_order_rising : (m : ℕ) (table : List ℕ) → Sorted (Less m table) (assignments_in_order m table)
unfolding assignments_in_order allowed assignments
in_order_rising m table =
    in_order_sorted (sum_of m table) StrictlyBefore (allowed m table)
    (sorted_select StrictlyBefore _ (assignments m) (arrangements_rising m (below m) (sorted_count_from 0 m)))

-- so no assignment stands there twice
pub in_order_once : (m : ℕ) (table : List ℕ) (i j : ℕ) → i < length (assignments_in_order m table) → j < length (assignments_in_order m table)
    → get_or (assignments_in_order m table) i [] ≡ get_or (assignments_in_order m table) j [] → i ≡ j
in_order_once m table = sorted_once (Less m table) (not_less_itself m table) (assignments_in_order m table) [] (in_order_rising m table)

-- what the least assignment has to be
abbrev pub Least : ℕ → List ℕ → Option (List ℕ) → Type 0
Least m table None = AllBarred m table
Least m table (Some a) = Unbarred m table a × ((b : List ℕ) → Unbarred m table b → (b ≡ a) ⊎ Less m table a b)

-- of the numbers below n one has the property, or none has
find_below : {P : ℕ → Type 0} → ((i : ℕ) → Dec (P i)) → (n : ℕ) → ((i : ℕ) × (i < n) × P i) ⊎ ((i : ℕ) → i < n → ¬ P i)
find_below d zero = inr (λ i h. absurd (not-suc-le-zero h))
find_below {P} d (suc n) = go (find_below d n) (d n)
  where
    go : ((i : ℕ) × (i < n) × P i) ⊎ ((i : ℕ) → i < n → ¬ P i) → Dec (P n)
        → ((i : ℕ) × (i < suc n) × P i) ⊎ ((i : ℕ) → i < suc n → ¬ P i)
    go (inl (i, h, p)) e = inl (i, omega arith, p)
    go (inr f) (yes p) = inl (n, le_refl (suc n), p)
    go (inr f) (no ¬p) = inr (λ i h. ⊎_elim (λ e. rw e ¬p) (f i) (eq-or-lt_of_le (le_of_suc-le-suc h)))

pub least_assignment_lem : (m : ℕ) (table : List ℕ) → Least m table (least_assignment m table)
unfolding least_assignment
least_assignment_lem m table = go (least_assignment m table) (head_first (Less m table) (assignments_in_order m table) (in_order_rising m table))
  where
    go : (o : Option (List ℕ)) → Head (Less m table) (assignments_in_order m table) o → Least m table o
    go None e = λ a h. ⊎_elim (λ f. f) (λ f. absurd (not-nil (rw e at ((in_order_meant m table a).1 (h, f)))))
        (find_below (λ i. ℕ_discrete (entry_at m table i (a at i)) barred) m)
    go (Some a) h = ((in_order_meant m table a).0 h.0, λ b u. h.1 b ((in_order_meant m table b).1 u))

-- there is none exactly if every assignment uses a barred entry
pub no_assignment_meant : (m : ℕ) (table : List ℕ) → (least_assignment m table ≡ None) ↔ AllBarred m table
no_assignment_meant m table = (
  λ e. subst (Least m table) e (least_assignment_lem m table),
  λ h. go h (least_assignment m table) (least_assignment_lem m table),
)
  where
    go : AllBarred m table → (o : Option (List ℕ)) → Least m table o → o ≡ None
    go h None l = refl
    go h (Some a) l = let b = h a l.0.0 in absurd (l.0.1 b.0 b.1 b.2)

-- the least assignment uses no barred entry, and each other that uses none comes after it
pub least_assignment_meant : (m : ℕ) (table a : List ℕ) → least_assignment m table ≡ Some a
    → Unbarred m table a × ((b : List ℕ) → Unbarred m table b → (b ≡ a) ⊎ Less m table a b)
least_assignment_meant m table a e = subst (Least m table) e (least_assignment_lem m table)

-- the table has the finish of each carrier's least path without constraints for each task
pub table_at : (d : Sheet) (i j : ℕ) → i < d.count → j < d.count
    → entry_at d.count (table_of d) i j ≡ entry_of d (task j) (least_path d (carrier i) (task j) [])
unfolding table_of
table_at d i j h k = each_at row n long (below n) 0 barred i j (omega (arith, length_count_from 0 n)) k ∙ at_row
  where
    n : ℕ
    n = d.count

    cell : ℕ → ℕ → ℕ
    cell i j = entry_of d (task j) (least_path d (carrier i) (task j) [])

    row : ℕ → List ℕ
    row i = map (cell i) (below n)

    long : (i : ℕ) → length (row i) ≡ n
    long i = length-map (below n) (cell i) ∙ length_count_from 0 n

    at_row : get_or (row (get_or (below n) i 0)) j barred ≡ cell i j
    at_row =
        let e : 0 + i ≡ i = omega arith in
        let f : 0 + j ≡ j = omega arith in
        rw (get_or_count_from 0 n i 0 h, e, get_or_tabulate (cell i) 0 n j barred k, f)
