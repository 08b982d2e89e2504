-- Lists and tests on them: what the other definitions are made of. Assumes nothing.
use Rattle.std.specs.Prelude.{ℕ, zero, suc, ◌+◌, Bool, true, false, cond, ◌&&◌, ◌||◌, not, List, [], ◌∷◌, ◌++◌, length, get_or, take, drop, eqb, leb, Option, None, Some}

infixl 80 ◌at◌
-- the number at an index, 0 past the end: of a path, the place at a time; of a task list, the task of a carrier
abbrev pub ◌at◌ : List ℕ → ℕ → ℕ
l at k = get_or l k 0

-- of the carriers' paths, that of carrier i
abbrev pub path_of : List (List ℕ) → ℕ → List ℕ
path_of ps i = get_or ps i []

-- k, k + 1, .., k + n - 1
abbrev pub count_from : ℕ → ℕ → List ℕ
count_from k zero = []
count_from k (suc n) = k ∷ count_from (suc k) n

-- 0, 1, .., n - 1
abbrev pub below : ℕ → List ℕ
below n = count_from 0 n

-- from a to b, both included
abbrev pub within : ℕ → ℕ → ℕ → Bool
within a b x = leb a x && leb x b

abbrev pub sum : List ℕ → ℕ
sum [] = 0
sum (x ∷ xs) = x + sum xs

-- x stands in the list
abbrev pub has : ℕ → List ℕ → Bool
has x [] = false
has x (y ∷ ys) = eqb x y || has x ys

-- no number stands in the list twice
abbrev pub distinct : List ℕ → Bool
distinct [] = true
distinct (x ∷ xs) = not (has x xs) && distinct xs

-- the last element, or d where there is none
abbrev pub last : ℕ → List ℕ → ℕ
last d [] = d
last d (x ∷ xs) = last x xs

-- the greatest of the numbers, 0 where there is none
abbrev pub greatest : List ℕ → ℕ
greatest [] = 0
greatest (x ∷ xs) = let r = greatest xs in cond (leb r x) x r

module _ {A : Type 0} where
  abbrev pub is_nil : List A → Bool
  is_nil [] = true
  is_nil (x ∷ xs) = false

  abbrev pub head_of : List A → Option A
  head_of [] = None
  head_of (x ∷ xs) = Some x

  abbrev pub all : (A → Bool) → List A → Bool
  all f [] = true
  all f (x ∷ xs) = f x && all f xs

  -- those that pass the test, in their order
  abbrev pub select : (A → Bool) → List A → List A
  select f [] = []
  select f (x ∷ xs) = let r = select f xs in cond (f x) (x ∷ r) r

  abbrev pub flat : List (List A) → List A
  flat [] = []
  flat (x ∷ xs) = x ++ flat xs

  -- n pieces of k elements each
  abbrev pub pieces : ℕ → ℕ → List A → List (List A)
  pieces zero k l = []
  pieces (suc n) k l = take k l ∷ pieces n k (drop k l)

  abbrev pub pick_least : (A → ℕ) → A → List A → Option (A × List A) → Option (A × List A)
  pick_least key x xs None = Some (x, [])
  pick_least key x xs (Some t) = cond (leb (key x) (key t.0)) (Some (x, xs)) (Some (t.0, x ∷ t.1))

  -- the first of the elements of least key, with the list without it
  abbrev pub take_least : (A → ℕ) → List A → Option (A × List A)
  take_least key [] = None
  take_least key (x ∷ xs) = pick_least key x xs (take_least key xs)

  abbrev pub hand_out : (List A → List A) → Option (A × List A) → List A
  hand_out f None = []
  hand_out f (Some t) = t.0 ∷ f t.1

  -- the first n in the order of the key, equal ones as they stand: the least is taken again and again
  abbrev pub first_in_order : (A → ℕ) → ℕ → List A → List A
  first_in_order key zero l = []
  first_in_order key (suc n) l = hand_out (first_in_order key n) (take_least key l)

  -- all of them in that order
  abbrev pub in_order : (A → ℕ) → List A → List A
  in_order key l = first_in_order key (length l) l

module _ {A B : Type 0} where
  -- the lists f x for each x, one after the other
  abbrev pub each : (A → List B) → List A → List B
  each f [] = []
  each f (x ∷ xs) = f x ++ each f xs
