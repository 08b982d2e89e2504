-- Laws of the lists that the definitions are made of: what stands in them, and in what order. Assumes nothing.
use Rattle.std.proofs.Common.{ℕ, zero, suc, ◌+◌, ◌*◌, ◌≤◌, ◌<◌, ◌≡◌, refl, sym, ap, subst, ◌∙◌, ◌↔◌, ◌⊎◌, inl, inr, ⊎_elim, Bool, true, false, cond, List, [], ◌∷◌, ◌++◌, map, append-nil, append_assoc, Option, None, Some, not-suc-le-zero, eq-or-lt_of_le, le_trans, le_refl, le_of_lt, le_of_suc-le-suc, suc-mul, arith, length, get_or, take, drop, replicate, get_or-append-add, drop-drop, T, leb, leb-true, leb-false}
use Rattle.deck.proofs.Members.{Mem, here, there, not-nil, cases_cons, in_left, in_right, cases_append}
use Rattle.std.proofs.lemmas.List.{length-map, get_or_append_left}
use Rattle.deck.specs.Lists.{count_from, below, sum, select, each, pieces, take_least, pick_least, head_of}
use Rattle.meaning.specs.Sorted.{Sorted}

module _ {A B : Type 0} where
  pub mem_map : (f : A → B) (l : List A) {y : B} → Mem y (map f l) → (x : A) × Mem x l × (y ≡ f x)
  mem_map f [] m = absurd (not-nil m)
  mem_map f (x ∷ xs) (here e) = (x, here refl, e)
  mem_map f (x ∷ xs) (there m) = let r = mem_map f xs m in (r.0, there r.1, r.2)

  pub mem_each : (f : A → List B) (l : List A) {y : B} → Mem y (each f l) → (x : A) × Mem x l × Mem y (f x)
  mem_each f [] m = absurd (not-nil m)
  mem_each f (x ∷ xs) {y} m = split (cases_append (f x) m) (λ (m' : Mem y (each f xs)). mem_each f xs m')
    where
      split : Mem y (f x) ⊎ Mem y (each f xs) → (Mem y (each f xs) → (z : A) × Mem z xs × Mem y (f z)) → (z : A) × Mem z (x ∷ xs) × Mem y (f z)
      split (inl h) go = (x, here refl, h)
      split (inr h) go = let r = go h in (r.0, there r.1, r.2)

  pub each_mem : (f : A → List B) {x : A} {y : B} {l : List A} → Mem x l → Mem y (f x) → Mem y (each f l)
  each_mem f {y} (here {x = z} {xs} e) h = in_left (each f xs) (subst (λ (v : A). Mem y (f v)) e h)
  each_mem f (there {x = z} m) h = in_right (f z) (each_mem f m h)

-- sums of terms that are the same
pub sum_same : (f g : ℕ → ℕ) (l : List ℕ) → ((i : ℕ) → Mem i l → f i ≡ g i) → sum (map f l) ≡ sum (map g l)
sum_same f g [] h = refl
sum_same f g (x ∷ l) h = omega (arith, h x (here refl), sum_same f g l (λ i m. h i (there m)))

module _ {A : Type 0} (f : A → Bool) where
  pub mem_select : (l : List A) {x : A} → Mem x (select f l) → Mem x l × T (f x)
  mem_select [] m = absurd (not-nil m)
  mem_select (y ∷ ys) {x} m = go (f y) refl m (λ (k : Mem x (select f ys)). mem_select ys k)
    where
      go : (b : Bool) → f y ≡ b → Mem x (cond b (y ∷ select f ys) (select f ys)) → (Mem x (select f ys) → Mem x ys × T (f x)) → Mem x (y ∷ ys) × T (f x)
      go true e (here h) ih = (here h, rw (h, e) tt)
      go true e (there k) ih = let r = ih k in (there r.0, r.1)
      go false e k ih = let r = ih k in (there r.0, r.1)

  pub select_mem : {x : A} {l : List A} → Mem x l → T (f x) → Mem x (select f l)
  select_mem {x} (here {x = y} {xs = ys} h) t = go (f y) (rw h at t)
    where
      go : (b : Bool) → T b → Mem x (cond b (y ∷ select f ys) (select f ys))
      go true t = here h
      go false t = absurd t
  select_mem {x} (there {x = y} {xs = ys} k) t = go (f y) (select_mem k t)
    where
      go : (b : Bool) → Mem x (select f ys) → Mem x (cond b (y ∷ select f ys) (select f ys))
      go true k = there k
      go false k = k

pub nil_of_none : {A : Type 0} (l : List A) → ((x : A) → ¬ Mem x l) → l ≡ []
nil_of_none [] h = refl
nil_of_none (x ∷ l) h = absurd (h x (here refl))

pub mem_count_from : (k n : ℕ) {x : ℕ} → Mem x (count_from k n) → (k ≤ x) × (x < k + n)
mem_count_from k zero m = absurd (not-nil m)
mem_count_from k (suc n) (here e) = (omega arith, omega arith)
mem_count_from k (suc n) (there m) = let r = mem_count_from (suc k) n m in (omega arith, omega arith)

pub count_from_mem : (k n x : ℕ) → k ≤ x → x < k + n → Mem x (count_from k n)
count_from_mem k zero x a b = absurd (omega arith)
count_from_mem k (suc n) x a b = go (eq-or-lt_of_le a) (λ h. count_from_mem (suc k) n x h (omega arith))
  where
    go : (k ≡ x) ⊎ (k < x) → (k < x → Mem x (count_from (suc k) n)) → Mem x (k ∷ count_from (suc k) n)
    go (inl e) ih = here (sym e)
    go (inr h) ih = there (ih h)

pub mem_below : (n : ℕ) {x : ℕ} → Mem x (below n) ↔ (x < n)
mem_below n {x} = (λ m. omega (arith, (mem_count_from 0 n m).1), λ h. count_from_mem 0 n x (omega arith) (omega arith))

-- the elements of count_from, by index
pub get_or_count_from : (k n i d : ℕ) → i < n → get_or (count_from k n) i d ≡ k + i
get_or_count_from k zero i d h = absurd (not-suc-le-zero h)
get_or_count_from k (suc n) zero d h = omega arith
get_or_count_from k (suc n) (suc i) d h = let e = get_or_count_from (suc k) n i d (omega arith) in omega arith

pub length_count_from : (k n : ℕ) → length (count_from k n) ≡ n
length_count_from k zero = refl
length_count_from k (suc n) = ap suc (length_count_from (suc k) n)

-- f at each number below n, by index
pub get_or_tabulate : {A : Type 0} (f : ℕ → A) (k n i : ℕ) (d : A) → i < n → get_or (map f (count_from k n)) i d ≡ f (k + i)
get_or_tabulate f k zero i d h = absurd (not-suc-le-zero h)
get_or_tabulate f k (suc n) zero d h = let e : k ≡ k + 0 = omega arith in ap f e
get_or_tabulate f k (suc n) (suc i) d h = let e : suc k + i ≡ k + suc i = omega arith in rw (get_or_tabulate f (suc k) n i d (omega arith)) (ap f e)

-- f at each number below n
pub length_below : {A : Type 0} (n : ℕ) (f : ℕ → A) → length (map f (below n)) ≡ n
length_below n f = length-map (below n) f ∙ length_count_from 0 n

pub get_or_below : {A : Type 0} (n : ℕ) (f : ℕ → A) (i : ℕ) (d : A) → i < n → get_or (map f (below n)) i d ≡ f i
get_or_below n f i d h = let e : 0 + i ≡ i = omega arith in get_or_tabulate f 0 n i d h ∙ ap f e

-- the rows f x, all of length w, one after the other: the element j of row i
pub each_at : {A B : Type 0} (f : A → List B) (w : ℕ) → ((x : A) → length (f x) ≡ w) → (l : List A) (c : A) (d : B)
    → (i j : ℕ) → i < length l → j < w → get_or (each f l) (i * w + j) d ≡ get_or (f (get_or l i c)) j d
each_at f w s [] c d i j h k = absurd (not-suc-le-zero h)
each_at f w s (x ∷ l) c d zero j h k =
    let e : 0 * w + j ≡ j = omega arith in
    rw e (get_or_append_left (f x) (each f l) d j (omega (arith, s x)))
each_at f w s (x ∷ l) c d (suc i) j h k =
    let e : suc i * w + j ≡ length (f x) + (i * w + j) = omega (arith, s x, suc-mul i w) in
    rw (e, get_or-append-add (f x) (each f l) (i * w + j) d) (each_at f w s l c d i j (le_of_suc-le-suc h) k)

-- piece i begins at word i × n
pub piece_at : {A : Type 0} (m n : ℕ) (l : List A) (i : ℕ) → i < m → get_or (pieces m n l) i [] ≡ take n (drop (i * n) l)
piece_at zero n l i h = absurd (not-suc-le-zero h)
piece_at (suc m) n l zero h = let e : 0 * n ≡ 0 = omega arith in rw e
piece_at (suc m) n l (suc i) h =
    let e : n + i * n ≡ suc i * n = omega (arith, suc-mul i n) in
    piece_at m n (drop n l) i (omega arith) ∙ ap (take n) (drop-drop (i * n) n l ∙ ap (λ k. drop k l) e)

-- the lists of the first elements, one more
pub each_take : {A B : Type 0} (f : A → List B) (l : List A) (t : ℕ) (d : A) → t < length l → each f (take (suc t) l) ≡ each f (take t l) ++ f (get_or l t d)
each_take f [] t d h = absurd (not-suc-le-zero h)
each_take f (x ∷ l) zero d h = append-nil (f x)
each_take f (x ∷ l) (suc t) d h = ap (λ k. f x ++ k) (each_take f l t d (omega arith)) ∙ sym (append_assoc (f x) (each f (take t l)) (f (get_or l t d)))

-- one element again and again, read at any index
pub get_or_same : {A : Type 0} (z : A) (n k : ℕ) → get_or (replicate n z) k z ≡ z
get_or_same z zero k = refl
get_or_same z (suc n) zero = refl
get_or_same z (suc n) (suc k) = get_or_same z n k

module _ {A : Type 0} (R : A → A → Type 0) where
  pub sorted_append : (l r : List A) → Sorted R l → Sorted R r → ((x y : A) → Mem x l → Mem y r → R x y) → Sorted R (l ++ r)
  sorted_append [] r h k g = k
  sorted_append (x ∷ l) r h k g = (
    λ y m. ⊎_elim (h.0 y) (g x y (here refl)) (cases_append l m),
    sorted_append l r h.1 k (λ z y m n. g z y (there m) n),
  )

  pub sorted_select : (f : A → Bool) (l : List A) → Sorted R l → Sorted R (select f l)
  sorted_select f [] h = tt
  sorted_select f (x ∷ l) h = go (f x) (sorted_select f l h.1)
    where
      go : (b : Bool) → Sorted R (select f l) → Sorted R (cond b (x ∷ select f l) (select f l))
      go true k = (λ y m. h.0 y (mem_select f l m).0, k)
      go false k = k

  -- the head of a sorted list stands in the relation to each other element
  abbrev pub Head : List A → Option A → Type 0
  Head l None = l ≡ []
  Head l (Some x) = Mem x l × ((y : A) → Mem y l → (y ≡ x) ⊎ R x y)

  pub head_first : (l : List A) → Sorted R l → Head l (head_of l)
  head_first [] h = refl
  head_first (x ∷ l) h = (here refl, λ y m. ⊎_elim (λ e. inl e) (λ n. inr (h.0 y n)) (cases_cons m))

-- f carries one order into another
pub sorted_map : {A B : Type 0} (R : A → A → Type 0) (S : B → B → Type 0) (f : A → B) → ((x y : A) → R x y → S (f x) (f y))
    → (l : List A) → Sorted R l → Sorted S (map f l)
sorted_map R S f up [] h = tt
sorted_map R S f up (x ∷ l) h =
    (λ y m. let r = mem_map f l m in rw r.2 (up x r.0 (h.0 r.0 r.1)), sorted_map R S f up l h.1)

pub sorted_count_from : (k n : ℕ) → Sorted ◌<◌ (count_from k n)
sorted_count_from k zero = tt
sorted_count_from k (suc n) = (λ y m. (mem_count_from (suc k) n m).0, sorted_count_from (suc k) n)

-- lists f x, each in order, and in order one after the other
pub sorted_each : {A B : Type 0} (R : A → A → Type 0) (S : B → B → Type 0) (f : A → List B) → ((x : A) → Sorted S (f x))
    → ((x y : A) → R x y → (u v : B) → Mem u (f x) → Mem v (f y) → S u v) → (l : List A) → Sorted R l → Sorted S (each f l)
sorted_each R S f s c [] h = tt
sorted_each R S f s c (x ∷ l) h =
    sorted_append S (f x) (each f l) (s x) (sorted_each R S f s c l h.1)
    (λ u v m n. let e = mem_each f l n in c x e.0 (h.0 e.0 e.1) u v m e.2)

-- What take_least takes stands in the list; each element has a greater key, or the same and comes later; nothing is taken from the empty list alone
module _ {A : Type 0} (R : A → A → Type 0) (key : A → ℕ) where
  abbrev pub First : List A → Option (A × List A) → Type 0
  First l None = l ≡ []
  First l (Some t) = Mem t.0 l × ((x : A) → Mem x l → (key t.0 < key x) ⊎ ((key t.0 ≡ key x) × R t.0 x))

  pub take_first : ((x : A) → R x x) → (l : List A) → Sorted R l → First l (take_least key l)
  take_first R-refl [] h = refl
  take_first R-refl (x ∷ l) h = go (take_least key l) (take_first R-refl l h.1)
    where
      same : (y : A) → y ≡ x → (key x < key y) ⊎ ((key x ≡ key y) × R x y)
      same y e = inr (ap key (sym e), subst (R x) (sym e) (R-refl x))

      split : (y : A) → R x y → (key x ≡ key y) ⊎ (key x < key y) → (key x < key y) ⊎ ((key x ≡ key y) × R x y)
      split y r (inl e) = inr (e, r)
      split y r (inr k) = inl k

      no_less : (z y : A) → (key z < key y) ⊎ ((key z ≡ key y) × R z y) → key z ≤ key y
      no_less z y (inl g) = le_of_lt g
      no_less z y (inr g) = rw g.0 (le_refl (key y))

      pick : (t : A × List A) → First l (Some t) → (b : Bool) → leb (key x) (key t.0) ≡ b → First (x ∷ l) (cond b (Some (x, l)) (Some (t.0, x ∷ t.1)))
      pick t k true e = (
        here refl,
        λ y m. ⊎_elim (same y)
            (λ n. split y (h.0 y n) (eq-or-lt_of_le (le_trans (leb-true _ _ e) (no_less t.0 y (k.1 y n)))))
            (cases_cons m),
      )
      pick t k false e = (there k.0, λ y m. ⊎_elim (λ q. inl (rw q (leb-false _ _ e))) (k.1 y) (cases_cons m))

      go : (o : Option (A × List A)) → First l o → First (x ∷ l) (pick_least key x l o)
      go None e = (here refl, λ y m. ⊎_elim (same y) (λ n. absurd (not-nil (rw e at n))) (cases_cons m))
      go (Some t) k = pick t k (leb (key x) (key t.0)) refl

-- What take_least leaves
pub record Taken {A : Type 0} (l : List A) (x : A) (r : List A) : Type 0 where
  pub taken : Mem x l
  pub kept : (y : A) → Mem y l → (y ≡ x) ⊎ Mem y r
  pub among : (y : A) → Mem y r → Mem y l
  pub fewer : length l ≡ suc (length r)

module _ {A : Type 0} (key : A → ℕ) where
  abbrev pub Took : List A → Option (A × List A) → Type 0
  Took l None = l ≡ []
  Took l (Some t) = Taken l t.0 t.1 × ((x : A) → Mem x l → key t.0 ≤ key x)

  pub took : (l : List A) → Took l (take_least key l)
  took [] = refl
  took (x ∷ l) = go (take_least key l) (took l)
    where
      self : (y : A) → y ≡ x → key x ≤ key y
      self y e = rw e (le_refl (key x))

      by_key : (t : A × List A) → Took l (Some t) → (b : Bool) → leb (key x) (key t.0) ≡ b → Took (x ∷ l) (cond b (Some (x, l)) (Some (t.0, x ∷ t.1)))
      by_key t k true e = (
        record { taken = here refl; kept = λ y m. cases_cons m; among = λ y m. there m; fewer = refl },
        λ y m. ⊎_elim (self y) (λ n. le_trans (leb-true _ _ e) (k.1 y n)) (cases_cons m),
      )
      by_key t k false e = (
        record {
          taken = there k.0.taken;
          kept = λ y m. ⊎_elim (λ q. inr (here q)) (λ n. ⊎_elim (λ q. inl q) (λ u. inr (there u)) (k.0.kept y n)) (cases_cons m);
          among = λ y m. ⊎_elim (λ q. here q) (λ n. there (k.0.among y n)) (cases_cons m);
          fewer = ap suc k.0.fewer;
        },
        λ y m. ⊎_elim (λ q. rw q (le_of_lt (leb-false _ _ e))) (k.1 y) (cases_cons m),
      )

      go : (o : Option (A × List A)) → Took l o → Took (x ∷ l) (pick_least key x l o)
      go None e = (
        record { taken = here refl; kept = λ y m. ⊎_elim (λ q. inl q) (λ n. absurd (not-nil (rw e at n))) (cases_cons m); among = λ y m. absurd (not-nil m); fewer = rw e },
        λ y m. ⊎_elim (self y) (λ n. absurd (not-nil (rw e at n))) (cases_cons m),
      )
      go (Some t) k = by_key t k (leb (key x) (key t.0)) refl
