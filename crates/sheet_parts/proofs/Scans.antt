-- Laws of the tests on lists: what a test over the indexes from k on comes to, the greatest number as a maximum, and the numbers below
-- n by their index. Assumes nothing.
use Rattle.std.proofs.Common.{ℕ, zero, suc, ◌+◌, ◌-◌, ap, ◌&&◌, ◌||◌, ◌≤◌, ◌<◌, max, ◌≡◌, refl, sym, ◌∙◌, Bool, true, false, cond, not, Option, None, Some, List, [], ◌∷◌, zero-add, add-one, arith, eqb, leb, length, get_or, drop, drop_of_length-le, drop-cons, leb-true, leb-false}
use Rattle.std.specs.List.{list_any, list_all, range_with_len, fold, reduce}
use Rattle.std.specs.Option.{unwrap_or, option_map}
use Rattle.deck.specs.Lists.{below, has, distinct, greatest}
use Rattle.meaning.proofs.Lists.{get_or_count_from, length_count_from}
use Rattle.meaning.proofs.Greatest.{greatest_max}

-- the element k and those after it
split_at : (l : List ℕ) (k : ℕ) → k < length l → drop k l ≡ get_or l k 0 ∷ drop (k + 1) l
split_at l k h = rw (add-one k) (drop-cons l k 0 h)

-- x is one of the n elements from the k-th on, which are the last
pub has_from : (x : ℕ) (l : List ℕ) (k n : ℕ) → n ≡ length l - k → list_any (λ i. eqb x (get_or l i 0)) (range_with_len k n) ≡ has x (drop k l)
has_from x l k zero e = rw (drop_of_length-le l {i = k} (omega arith)) refl
has_from x l k (suc n) e =
    rw (split_at l k (omega arith)) (ap (λ b. eqb x (get_or l k 0) || b) (has_from x l (k + 1) n (omega arith)))

-- each of these has no equal after it
pub distinct_from : (l : List ℕ) (k n : ℕ) → n ≡ length l - k → list_all (λ i. not (has (get_or l i 0) (drop (i + 1) l))) (range_with_len k n) ≡ distinct (drop k l)
distinct_from l k zero e = rw (drop_of_length-le l {i = k} (omega arith)) refl
distinct_from l k (suc n) e =
    rw (split_at l k (omega arith)) (ap (λ b. not (has (get_or l k 0) (drop (k + 1) l)) && b) (distinct_from l (k + 1) n (omega arith)))

-- the number at an index of 0, 1, .., n - 1
pub below_at : (n k : ℕ) → k < n → get_or (below n) k 0 ≡ k
below_at n k h = get_or_count_from 0 n k 0 h ∙ zero-add k

pub length_below : (n : ℕ) → length (below n) ≡ n
length_below n = length_count_from 0 n

pub greatest_at_most : (n : ℕ) (l : List ℕ) → ((k : ℕ) → get_or l k 0 ≤ n) → greatest l ≤ n
greatest_at_most n [] h = omega arith
greatest_at_most n (x ∷ l) h = omega (arith, greatest_max x l, h 0, greatest_at_most n l (λ k. h (suc k)))

pub at_most_greatest : (l : List ℕ) (k : ℕ) → get_or l k 0 ≤ greatest l
at_most_greatest [] k = omega arith
at_most_greatest (x ∷ l) zero = omega (arith, greatest_max x l)
at_most_greatest (x ∷ l) (suc k) = omega (arith, greatest_max x l, at_most_greatest l k)
