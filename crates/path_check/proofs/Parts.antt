-- What is left of a list from an index on. Assumes nothing.
use Rattle.std.proofs.Common.{ℕ, ◌+◌, ◌≤◌, ◌<◌, ◌≡◌, List, [], ◌∷◌, add-one, length, get_or, drop, drop_of_length-le, drop-cons}

module _ {A : Type 0} (d : A) (l : List A) where
  pub rest_next : (k : ℕ) → k < length l → drop k l ≡ get_or l k d ∷ drop (k + 1) l
  rest_next k h = rw add-one (drop-cons l k d h)

  pub rest_none : (k : ℕ) → length l ≤ k → drop k l ≡ []
  rest_none k h = drop_of_length-le l {i = k} h
