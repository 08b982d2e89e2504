-- The places around a place of a grid, rising: above, left, the place itself, right, below. Assumes nothing.
use Rattle.std.specs.Prelude.{ℕ, suc, ◌+◌, ◌-◌, ◌%◌, Bool, cond, List, [], ◌∷◌, leb, ltb}
use Rattle.deck.specs.Sheet.{Sheet, area}

-- x in front of the list where the test passes
abbrev pub cons_if : Bool → ℕ → List ℕ → List ℕ
cons_if b x l = cond b (x ∷ l) l

abbrev pub has_above : Sheet → ℕ → Bool
has_above d u = leb d.width u

abbrev pub has_left : Sheet → ℕ → Bool
has_left d u = ltb 0 (u % d.width)

abbrev pub has_right : Sheet → ℕ → Bool
has_right d u = ltb (suc (u % d.width)) d.width

abbrev pub has_below : Sheet → ℕ → Bool
has_below d u = ltb (u + d.width) (area d)

abbrev pub near : Sheet → ℕ → List ℕ
near d u =
    cons_if (has_above d u) (u - d.width)
    (cons_if (has_left d u) (u - 1)
    (u ∷ cons_if (has_right d u) (u + 1) (cons_if (has_below d u) (u + d.width) [])))
