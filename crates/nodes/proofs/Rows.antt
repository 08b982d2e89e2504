-- The paths of a node written carrier by carrier. Assumes nothing.
use Rattle.std.proofs.Common.{◌≡◌, sym, ◌∙◌, ap, List, [], ◌∷◌, ◌++◌, map, append_assoc, append-nil, ℕ, zero, suc, ◌+◌, ◌*◌, ◌-◌, suc-mul, zero-add, add-one, arith, length, get_or, drop, length-append, take_at, drop_at, drop-drop}
use Rattle.deck.specs.Lists.{count_from, flat}
use Rattle.deck.specs.Calls.{overwrite}
use Rattle.pack.proofs.Trips.{length_unpack}
use Rattle.records.specs.Cut.{put}
use Rattle.records.specs.Record.{packed_in}
use Rattle.nodes.specs.Nodes.{path_in, paths_in}
use Rattle.std.proofs.lemmas.List.{map-append}
use Rattle.nodes.proofs.Tables.{count_snoc}

flat_snoc : (l : List (List ℕ)) (x : List ℕ) → flat (l ++ (x ∷ [])) ≡ flat l ++ x
flat_snoc [] x = append-nil x
flat_snoc (y ∷ l) x = ap (λ (t : List ℕ). y ++ t) (flat_snoc l x) ∙ sym (append_assoc y (flat l) x)

module _ (w last : ℕ) (starts : List ℕ) (fs : List (List ℕ)) where
  abbrev pub rows_to : ℕ → List ℕ
  rows_to i = flat (paths_in w last starts i fs)

  rows_snoc : (i : ℕ) → rows_to (suc i) ≡ rows_to i ++ path_in w last starts fs i
  rows_snoc i =
      ap (λ (l : List ℕ). flat (map (path_in w last starts fs) l)) (count_snoc 0 i)
      ∙ ap flat (map-append (path_in w last starts fs) (count_from 0 i) ((0 + i) ∷ []))
      ∙ flat_snoc (map (path_in w last starts fs) (count_from 0 i)) (path_in w last starts fs (0 + i))
      ∙ ap (λ (k : ℕ). rows_to i ++ path_in w last starts fs k) (zero-add i)

  length_rows : (i : ℕ) → length (rows_to i) ≡ i * (last + 1)
  length_rows zero = omega arith
  length_rows (suc i) =
      ap length (rows_snoc i) ∙ length-append (rows_to i) (path_in w last starts fs i)
      ∙ rw (length_rows i, length_unpack w last (packed_in fs i) (get_or starts i 0)) (sym (suc-mul i (last + 1)))

  -- one row more
  pub rows_more : (i : ℕ) (before out ys : List ℕ) → ys ≡ path_in w last starts fs i → out ≡ overwrite (rows_to i) before
      → put (i * (last + 1)) (i * (last + 1) + (last + 1) - i * (last + 1)) ys out ≡ overwrite (rows_to (i + 1)) before
  rows_more i before out ys e q =
      let a : ℕ = i * (last + 1) in
      let d : i * (last + 1) + (last + 1) - i * (last + 1) ≡ last + 1 = omega arith in
      let l : length (rows_to i) ≡ i * (last + 1) = length_rows i in
      let m : length (rows_to i ++ path_in w last starts fs i) ≡ i * (last + 1) + (last + 1) =
      length-append (rows_to i) (path_in w last starts fs i) ∙ rw (l, length_unpack w last (packed_in fs i) (get_or starts i 0)) in
      let r : List ℕ = drop (length (rows_to i)) before in
      rw (q, d, e, take_at (rows_to i) r (i * (last + 1)) l, drop_at (rows_to i) r (i * (last + 1)) l, add-one i, rows_snoc i, m, l, drop-drop (last + 1) (i * (last + 1)) before)
      (sym (append_assoc (rows_to i) (path_in w last starts fs i) (drop (i * (last + 1) + (last + 1)) before)))
