-- Laws of an array for the directory's pairs whose first part is filled from the front. Assumes nothing.
use Rattle.std.proofs.Common.{ℕ, zero, suc, ◌+◌, ◌<◌, ◌≤◌, ◌≡◌, refl, sym, ◌∙◌, ap, List, [], ◌∷◌, ◌++◌, map, zero-add, add-one, arith, length, set, take, drop, replicate}
use Rattle.std.proofs.lemmas.List.{length-map, take_all, take_more_set, drop-replicate}
use Rattle.deck.specs.Lists.{count_from, below}
use Rattle.deck.specs.Calls.{nowhere, most_pairs, pair_list}
use Rattle.deck.specs.declared.Stretch.{Stretch}
use Rattle.sheet_parts.proofs.Scans.{length_below}

module _ (f : ℕ → Stretch) where
  made_more : (a k : ℕ) → map f (count_from a (suc k)) ≡ map f (count_from a k) ++ (f (a + k) ∷ [])
  made_more a zero = let e : a ≡ a + 0 = omega arith in ap (λ (n : ℕ). f n ∷ []) e
  made_more a (suc k) =
      let e : suc a + k ≡ a + suc k = omega arith in
      ap (λ (l : List Stretch). f a ∷ l) (made_more (suc a) k ∙ ap (λ (n : ℕ). map f (count_from (suc a) k) ++ (f n ∷ [])) e)

  -- the number k is stored
  pub fill_more : (k : ℕ) (l : List Stretch) → k < length l → take k l ≡ map f (below k) → take (k + 1) (set l k (f k)) ≡ map f (below (k + 1))
  fill_more k l h e = take_more_set l k (f k) h ∙ rw (e, add-one k, made_more 0 k, zero-add k) refl

  -- n of them are, and nowhere follows
  pub filled : (n k : ℕ) (l : List Stretch) → k ≡ n → length l ≡ n → take k l ≡ map f (below k) → n ≤ most_pairs → l ++ drop n (replicate most_pairs nowhere) ≡ pair_list (map f (below n))
  filled n k l a b e h =
      let whole : l ≡ map f (below n) = sym (take_all k l (omega arith)) ∙ e ∙ ap (λ m. map f (below m)) a in
      let long : length (map f (below n)) ≡ n = length-map (below n) f ∙ length_below n in
      rw (whole, long, drop-replicate n most_pairs nowhere) refl
