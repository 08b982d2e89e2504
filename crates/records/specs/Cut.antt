-- A list of words cut into fields of given lengths, and a part of a list put anew. Assumes nothing.
use Rattle.std.specs.Prelude.{ℕ, zero, suc, ◌+◌, List, [], ◌∷◌, ◌++◌, take, drop}

-- the k words from a on
abbrev pub part : ℕ → ℕ → List ℕ → List ℕ
part a k xs = take k (drop a xs)

-- the list with ys in place of the k words from a on: what a slice is after its part from a to a + k was lent and came back as ys
abbrev pub put : ℕ → ℕ → List ℕ → List ℕ → List ℕ
put a k ys xs = take a xs ++ (ys ++ drop k (drop a xs))

-- where field i begins
abbrev pub offset : List ℕ → ℕ → ℕ
offset ns zero = zero
offset [] (suc i) = zero
offset (n ∷ ns) (suc i) = n + offset ns i

-- the fields of lengths ns, one after the other
abbrev pub cut : List ℕ → List ℕ → List (List ℕ)
cut [] xs = []
cut (n ∷ ns) xs = take n xs ∷ cut ns (drop n xs)
