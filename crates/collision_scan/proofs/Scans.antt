-- What is left of the collisions at each place of the nested loops, and how a turn takes one step off it. Assumes nothing.
use Rattle.std.proofs.Common.{ℕ, zero, suc, ◌+◌, ◌-◌, ◌≤◌, ◌<◌, ◌≡◌, refl, sym, ap, ap₂, ◌∙◌, ◌⊎◌, inl, inr, Bool, true, false, cond, List, [], ◌∷◌, ◌++◌, map, append_assoc, eq-or-lt_of_le, arith, add-one, ltb, lt-ltb, le-ltb}
use Rattle.std.proofs.lemmas.List.{map-append}
use Rattle.std.proofs.Math.Nat.{sub-zero}
use Rattle.deck.specs.Lists.{count_from, below, select, each, head_of}
use Rattle.deck.specs.Collisions.{pairs, place_collides, move_collides, place_collision, move_collision, collisions_at, collisions, first_collision}
use Rattle.deck.specs.declared.Collision.{Collision}

-- the numbers above i
above_all : (i k n : ℕ) → i < k → select (ltb i) (count_from k n) ≡ count_from k n
above_all i k zero h = refl
above_all i k (suc n) h = rw (lt-ltb i k h) (ap (λ l. k ∷ l) (above_all i (suc k) n (omega arith)))

above : (i k n : ℕ) → k ≤ suc i → select (ltb i) (count_from k n) ≡ count_from (suc i) (k + n - suc i)
above i k zero h = let e : k + 0 - suc i ≡ 0 = omega arith in rw e
above i k (suc n) h = go (eq-or-lt_of_le h) (λ l. above i (suc k) n l)
  where
    go : (k ≡ suc i) ⊎ (k < suc i) → (suc k ≤ suc i → select (ltb i) (count_from (suc k) n) ≡ count_from (suc i) (suc k + n - suc i))
        → select (ltb i) (count_from k (suc n)) ≡ count_from (suc i) (k + suc n - suc i)
    go (inl q) ih =
        let e : k + suc n - suc i ≡ suc n = omega arith in
        above_all i k (suc n) (omega arith) ∙ ap₂ count_from q (sym e)
    go (inr l) ih =
        let e : suc k + n - suc i ≡ k + suc n - suc i = omega arith in
        rw (le-ltb i k (omega arith)) (ih l ∙ ap (count_from (suc i)) e)

each_ext : {A B : Type 0} (f g : A → List B) → ((x : A) → f x ≡ g x) → (l : List A) → each f l ≡ each g l
each_ext f g e [] = refl
each_ext f g e (x ∷ l) = ap₂ ◌++◌ (e x) (each_ext f g e l)

select_append : {A : Type 0} (g : A → Bool) (l r : List A) → select g (l ++ r) ≡ select g l ++ select g r
select_append g [] r = refl
select_append g (x ∷ l) r = go (g x) (select_append g l r)
  where
    go : (b : Bool) → select g (l ++ r) ≡ select g l ++ select g r
        → cond b (x ∷ select g (l ++ r)) (select g (l ++ r)) ≡ cond b (x ∷ select g l) (select g l) ++ select g r
    go true e = ap (λ k. x ∷ k) e
    go false e = e

-- what is made of the selected elements of lists that stand one after the other
made_each : {A B C : Type 0} (f : B → C) (g : B → Bool) (r : A → List B) (l : List A)
    → map f (select g (each r l)) ≡ each (λ x. map f (select g (r x))) l
made_each f g r [] = refl
made_each f g r (x ∷ l) =
    rw (select_append g (r x) (each r l), map-append f (select g (r x)) (select g (each r l)))
    (ap (λ k. map f (select g (r x)) ++ k) (made_each f g r l))

-- The numbers from k up to m
pub to_step : (m k : ℕ) → k < m → count_from k (m - k) ≡ k ∷ count_from (k + 1) (m - (k + 1))
to_step m k h =
    let e : m - k ≡ suc (m - (k + 1)) = omega arith in
    rw (e, add-one)

pub to_end : (m k : ℕ) → m ≤ k → count_from k (m - k) ≡ []
to_end m k h = let e : m - k ≡ 0 = omega arith in rw e

-- What f makes of the pairs i < j below m that pass the test g, by i, then by j, and after these what stands in rest
module _ {B : Type 0} (f : ℕ × ℕ → B) (g : ℕ × ℕ → Bool) (m : ℕ) where
  -- of the pairs of i with j, j + 1, ..
  unfoldable pub made : ℕ → ℕ → List B
  made i j = map f (select g (map (λ k. (i, k)) (count_from j (m - j))))

  -- of the pairs of i, i + 1, ..
  unfoldable pub made_from : ℕ → List B
  made_from i = each (λ k. made k (k + 1)) (count_from i (m - i))

  all_made : map f (select g (pairs m)) ≡ made_from 0
  unfolding pairs made made_from
  all_made =
      made_each f g (λ i. map (λ j. (i, j)) (select (ltb i) (below m))) (below m)
      ∙ each_ext (λ i. map f (select g (map (λ j. (i, j)) (select (ltb i) (below m))))) (λ k. made k (k + 1))
      (λ i.
      let q : 0 + m - suc i ≡ m - suc i = omega arith in
      let e : select (ltb i) (below m) ≡ count_from (i + 1) (m - (i + 1)) = rw add-one (above i 0 m (omega arith) ∙ ap (count_from (suc i)) q) in
      rw e)
      (below m)
      ∙ ap (λ n. each (λ k. made k (k + 1)) (count_from 0 n)) (sym (sub-zero m))

  module _ (rest : List B) where
    unfoldable pub from_row : ℕ → List B
    from_row i = made_from i ++ rest

    unfoldable pub from_pair : ℕ → ℕ → List B
    from_pair i j = made i j ++ from_row (i + 1)

    pub row_start : map f (select g (pairs m)) ++ rest ≡ from_row 0
    unfolding from_row
    row_start = rw all_made

    pub row_step : (i : ℕ) → i < m → from_row i ≡ from_pair i (i + 1)
    unfolding from_row from_pair made_from
    row_step i h = rw (to_step m i h) (append_assoc (made i (i + 1)) (made_from (i + 1)) rest)

    pub row_end : (i : ℕ) → m ≤ i → from_row i ≡ rest
    unfolding from_row made_from
    row_end i h = rw (to_end m i h)

    -- a pair that fails the test is passed over
    pub pair_passed : (i j : ℕ) → j < m → g (i, j) ≡ false → from_pair i j ≡ from_pair i (j + 1)
    unfolding from_pair made
    pair_passed i j h e = rw (to_step m j h, e)

    -- of a pair that passes it the first element is made
    pub pair_taken : (i j : ℕ) → j < m → g (i, j) ≡ true → from_pair i j ≡ f (i, j) ∷ from_pair i (j + 1)
    unfolding from_pair made
    pair_taken i j h e = rw (to_step m j h, e)

    pub pair_end : (i j : ℕ) → m ≤ j → from_pair i j ≡ from_row (i + 1)
    unfolding from_pair made
    pair_end i j h = rw (to_end m j h)

    -- where all pairs fail it, nothing is made
    module _ (e : (i j : ℕ) → i < j → j < m → g (i, j) ≡ false) where
      pairs_passed : (d i j : ℕ) → i < j → d + j ≡ m → from_pair i j ≡ from_row (i + 1)
      pairs_passed zero i j a q = pair_end i j (omega arith)
      pairs_passed (suc d) i j a q = pair_passed i j (omega arith) (e i j a (omega arith)) ∙ pairs_passed d i (j + 1) (omega arith) (omega arith)

      rows_from : (d i : ℕ) → d + i ≡ m → from_row i ≡ rest
      rows_from zero i q = row_end i (omega arith)
      rows_from (suc d) i q = row_step i (omega arith) ∙ pairs_passed d i (i + 1) (omega arith) (omega arith) ∙ rows_from d (i + 1) (omega arith)

      pub rows_passed : from_row 0 ≡ rest
      rows_passed = rows_from m 0 (omega arith)

module _ (m h : ℕ) (ps : List (List ℕ)) where
  -- the collisions from time t on
  unfoldable pub from_time : ℕ → List Collision
  from_time t = each (collisions_at m h ps) (count_from t (suc h - t))

  -- the move collisions at t and all that are later
  unfoldable pub after_places : ℕ → List Collision
  after_places t = cond (ltb t h) (map (move_collision ps t) (select (move_collides ps t) (pairs m))) [] ++ from_time (t + 1)

  -- the place collisions at t from carrier i on, or from the pair of i and j on, and all that come after these
  abbrev pub places_from : ℕ → ℕ → List Collision
  places_from t = from_row (place_collision ps t) (place_collides ps t) m (after_places t)

  abbrev pub places_from_pair : ℕ → ℕ → ℕ → List Collision
  places_from_pair t = from_pair (place_collision ps t) (place_collides ps t) m (after_places t)

  -- the same of move collisions
  abbrev pub moves_from : ℕ → ℕ → List Collision
  moves_from t = from_row (move_collision ps t) (move_collides ps t) m (from_time (t + 1))

  abbrev pub moves_from_pair : ℕ → ℕ → ℕ → List Collision
  moves_from_pair t = from_pair (move_collision ps t) (move_collides ps t) m (from_time (t + 1))

  pub first_of_all : first_collision m h ps ≡ head_of (from_time 0)
  unfolding first_collision collisions from_time
  first_of_all = rw sub-zero

  pub time_step : (t : ℕ) → t < suc h → from_time t ≡ places_from t 0
  unfolding from_time after_places collisions_at
  time_step t l =
      rw (to_step (suc h) t l)
      (append_assoc (map (place_collision ps t) (select (place_collides ps t) (pairs m))) (cond (ltb t h) (map (move_collision ps t) (select (move_collides ps t) (pairs m))) []) (each (collisions_at m h ps) (count_from (t + 1) (suc h - (t + 1))))
      ∙ row_start (place_collision ps t) (place_collides ps t) m (after_places t))

  pub time_end : (t : ℕ) → suc h ≤ t → from_time t ≡ []
  unfolding from_time
  time_end t l = rw (to_end (suc h) t l)

  pub moves_follow : (t : ℕ) → t < h → after_places t ≡ moves_from t 0
  unfolding after_places
  moves_follow t l = rw (lt-ltb t h l) (row_start (move_collision ps t) (move_collides ps t) m (from_time (t + 1)))

  pub no_moves_follow : (t : ℕ) → h ≤ t → after_places t ≡ from_time (t + 1)
  unfolding after_places
  no_moves_follow t l = rw (le-ltb t h l)
