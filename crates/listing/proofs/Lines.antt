-- The numbers of a path and the lines of the carriers, one more at a time. Assumes nothing.
use Rattle.std.proofs.Common.{ℕ, zero, suc, ◌+◌, ◌*◌, ◌≤◌, ◌<◌, List, [], ◌∷◌, ◌++◌, length, take, drop, get_or, ◌≡◌, sym, ap, ap₂, ◌∙◌, append_assoc, add-one, zero-add, arith}
use Rattle.std.proofs.lemmas.List.{append-nil, take_all}
use Rattle.deck.specs.Lists.{path_of, count_from, below, each, pieces}
use Rattle.deck.specs.Sheet.{read, count_of, horizon_of}
use Rattle.deck.specs.Listing.{decimal, text, spaced, carrier_line, carrier_lines}
use Rattle.meaning.proofs.Lists.{piece_at, each_take}
use Rattle.listing.specs.Listed.{lines_of}

-- a number after a space
abbrev pub spaced_out : ℕ → List ℕ
spaced_out y = text " " ++ decimal y

pub spaced_is : (x : ℕ) (l : List ℕ) → decimal x ++ each spaced_out l ≡ spaced (x ∷ l)
unfolding spaced
spaced_is x [] = append-nil (decimal x)
spaced_is x (y ∷ l) =
    ap (λ (k : List ℕ). decimal x ++ k) (append_assoc (text " ") (decimal y) (each spaced_out l) ∙ ap (λ (k : List ℕ). text " " ++ k) (spaced_is y l))
    ∙ sym (append_assoc (decimal x) (text " ") (spaced (y ∷ l)))

pub spaced_more : (l : List ℕ) (i : ℕ) → i < length l → each spaced_out (take i l) ++ (text " " ++ decimal (get_or l i 0)) ≡ each spaced_out (take (i + 1) l)
spaced_more l i h = rw add-one (sym (each_take spaced_out l i 0 h))

pub spaced_all : (x : ℕ) (l : List ℕ) (i : ℕ) → length l ≤ i → decimal x ++ each spaced_out (take i l) ≡ spaced (x ∷ l)
spaced_all x l i h = ap (λ (k : List ℕ). decimal x ++ each spaced_out k) (take_all i l h) ∙ spaced_is x l

each_last : (f : ℕ → List ℕ) (k n : ℕ) → each f (count_from k (suc n)) ≡ each f (count_from k n) ++ f (k + n)
each_last f k zero = let e : k + 0 ≡ k = omega arith in rw e (append-nil (f k))
each_last f k (suc n) =
    let e : suc k + n ≡ k + suc n = omega arith in
    ap (λ (t : List ℕ). f k ++ t) (each_last f (suc k) n ∙ ap (λ (x : ℕ). each f (count_from (suc k) n) ++ f x) e)
    ∙ sym (append_assoc (f k) (each f (count_from (suc k) n)) (f (k + suc n)))

-- the lines of the carriers, by their tasks and the words of their paths
module _ (s tasks paths : List ℕ) where
  abbrev pub line_at : ℕ → List ℕ
  line_at i = carrier_line (read s) i (get_or tasks i 0) (path_of (pieces (count_of s) (suc (horizon_of s)) paths) i)

  -- one carrier more
  pub line_more : (i n j : ℕ) (p : List ℕ) → n ≡ suc (horizon_of s) → i < count_of s → j ≡ get_or tasks i 0 → p ≡ take n (drop (i * n) paths)
      → each line_at (below i) ++ carrier_line (read s) i j p ≡ each line_at (below (i + 1))
  line_more i n j p z l q u =
      let y : p ≡ path_of (pieces (count_of s) (suc (horizon_of s)) paths) i =
      u ∙ ap (λ x. take x (drop (i * x) paths)) z ∙ sym (piece_at (count_of s) (suc (horizon_of s)) paths i l) in
      ap (λ (t : List ℕ). each line_at (below i) ++ t) (ap₂ (carrier_line (read s) i) q y)
      ∙ ap (λ (x : ℕ). each line_at (below i) ++ line_at x) (sym (zero-add i))
      ∙ sym (each_last line_at 0 i) ∙ ap (λ (x : ℕ). each line_at (below x)) (sym (add-one i))

  pub lines_all : (i : ℕ) → i ≡ count_of s → each line_at (below i) ≡ lines_of s tasks paths
  unfolding carrier_lines
  lines_all i e = ap (λ (x : ℕ). each line_at (below x)) e
