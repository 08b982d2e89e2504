-- The entries of a table of m rows and m columns. Assumes nothing.
use Rattle.std.proofs.Common.{ℕ, ◌+◌, ◌*◌, ◌/◌, ◌%◌, ◌≤◌, ◌<◌, ◌≡◌, refl, sym, ap, subst, ◌∙◌, ⊎_elim, List, [], ◌∷◌, map, zero-mul, suc-mul, mod-lt, div-lt_iff_lt-mul, div-add-mod', arith, length, get_or, length-append, ext_get_or}
use Rattle.std.proofs.lemmas.Bool.{cases_lt}
use Rattle.deck.proofs.Members.{Mem, here, there}
use Rattle.std.proofs.lemmas.List.{length-map}
use Rattle.deck.specs.Lists.{below, each}
use Rattle.deck.specs.Assignments.{barred, entry_at}
use Rattle.meaning.proofs.Lists.{mem_below, get_or_count_from, length_count_from, get_or_tabulate, each_at}
use Rattle.prices.specs.Square.{square}

pub square_at : (m : ℕ) (f : ℕ → ℕ → ℕ) (i j : ℕ) → i < m → j < m → entry_at m (square m f) i j ≡ f i j
unfolding square
square_at m f i j h k =
    let e : 0 + i ≡ i = omega arith in
    let g : 0 + j ≡ j = omega arith in
    each_at (λ i. map (f i) (below m)) m (λ i. length-map (below m) (f i) ∙ length_count_from 0 m) (below m) 0 barred i j
    (omega (arith, length_count_from 0 m)) k
    ∙ rw (get_or_count_from 0 m i 0 h, e, get_or_tabulate (f i) 0 m j barred k, g)

-- tables that agree below m are equal
pub square_same : (m : ℕ) (f g : ℕ → ℕ → ℕ) → ((i j : ℕ) → i < m → j < m → f i j ≡ g i j) → square m f ≡ square m g
unfolding square
square_same m f g h = rows (below m) (λ i n. (mem_below m).0 n)
  where
    row : (i : ℕ) → i < m → (l : List ℕ) → ((j : ℕ) → Mem j l → j < m) → map (f i) l ≡ map (g i) l
    row i li [] low = refl
    row i li (j ∷ l) low = rw (h i j li (low j (here refl)), row i li l (λ k n. low k (there n)))

    rows : (l : List ℕ) → ((i : ℕ) → Mem i l → i < m) → each (λ i. map (f i) (below m)) l ≡ each (λ i. map (g i) (below m)) l
    rows [] low = refl
    rows (i ∷ l) low = rw (row i (low i (here refl)) (below m) (λ j n. (mem_below m).0 n), rows l (λ k n. low k (there n)))

square_long : (m : ℕ) (f : ℕ → ℕ → ℕ) → length (square m f) ≡ m * m
unfolding square
square_long m f = rows (below m) ∙ ap (λ (n : ℕ). n * m) (length_count_from 0 m)
  where
    rows : (l : List ℕ) → length (each (λ i. map (f i) (below m)) l) ≡ length l * m
    rows [] = sym (zero-mul m)
    rows (i ∷ l) =
        length-append (map (f i) (below m)) (each (λ i. map (f i) (below m)) l)
        ∙ omega (arith, length-map (below m) (f i), length_count_from 0 m, rows l, suc-mul (length l) m)

-- a table of m × m entries is the table of its entries
pub square_own : (m : ℕ) (table : List ℕ) → length table ≡ m * m → square m (entry_at m table) ≡ table
square_own m table e = ext_get_or barred (square m (entry_at m table)) table (square_long m (entry_at m table) ∙ sym e) (λ k l. at_index k (rw (square_long m (entry_at m table)) at l))
  where
    at_index : (k : ℕ) → k < m * m → get_or (square m (entry_at m table)) k barred ≡ get_or table k barred
    at_index k l =
        let pos : 0 < m = ⊎_elim (λ h. h) (λ h. absurd (none h)) (cases_lt 0 m) in
        let low_column : k % m < m = mod-lt k pos in
        let low_row : k / m < m = (div-lt_iff_lt-mul pos).1 l in
        let parts : k / m * m + k % m ≡ k = div-add-mod' k m in
        subst (λ (z : ℕ). get_or (square m (entry_at m table)) z barred ≡ get_or table z barred) parts (square_at m (entry_at m table) (k / m) (k % m) low_row low_column)
      where
        none : m ≤ 0 → ⊥
        none h = let z : m ≡ 0 = omega arith in omega (arith, l, ap (λ (n : ℕ). n * m) z, zero-mul m)
