-- What is packed is read back. Assumes nothing.
use Rattle.std.proofs.Common.{◌≡◌, refl, sym, ◌∙◌, ap, Bool, true, false, cond, inl, inr, List, [], ◌∷◌, ◌++◌, ℕ, zero, suc, ◌+◌, ◌*◌, ◌-◌, ◌/◌, ◌%◌, ◌<◌, ◌≤◌, min, add-zero, add-one, arith, eqb, length, get_or, length-append, ext_get_or, eqb-true}
use Rattle.std.proofs.Math.Nat.{sub-zero}
use Rattle.std.proofs.Math.Decide.{ℕ_discrete}
use Rattle.std.proofs.Math.ListN.{get_or-append}
use Rattle.std.proofs.lemmas.List.{get_or_at}
use Rattle.std.proofs.lemmas.Bool.{eqb-false}
use Rattle.pack.specs.Pack.{tab, digit_of, moved_of, step_at, value, word_at, pack_of, shift, step_in, place_in, unpack_of, Step, Walk}

pub length_tab : (f : ℕ → ℕ) (n : ℕ) → length (tab f n) ≡ n
unfolding tab
length_tab f zero = refl
length_tab f (suc n) = length-append (tab f n) (f n ∷ []) ∙ rw (length_tab f n, add-one n)

pub tab_at : (f : ℕ → ℕ) (n k : ℕ) → k < n → get_or (tab f n) k 0 ≡ f k
unfolding tab
tab_at f zero k h = absurd (omega arith)
tab_at f (suc n) k h = go (ℕ_discrete k n) (λ g. tab_at f n k g)
  where
    go : Dec (k ≡ n) → (k < n → get_or (tab f n) k 0 ≡ f k) → get_or (tab f n ++ (f n ∷ [])) k 0 ≡ f k
    go (yes e) ih = rw e (get_or_at (tab f n) (f n) [] 0 n (length_tab f n))
    go (no ne) ih = get_or-append (tab f n) (f n ∷ []) 0 k (rw (length_tab f n) (omega arith)) ∙ ih (omega arith)

-- the number's digits are those it was made of
value_tail : (f : ℕ → ℕ) (a n : ℕ) → f a < 5 → value f a (suc n) / 5 ≡ value f (suc a) n
unfolding value
value_tail f a n h = omega arith

value_head : (f : ℕ → ℕ) (a n : ℕ) → f a < 5 → value f a (suc n) % 5 ≡ f a
unfolding value
value_head f a n h = omega arith

abbrev pub Digits : (ℕ → ℕ) → Type 0
Digits f = (k : ℕ) → f k < 5

shift_value : (f : ℕ → ℕ) (a n j : ℕ) → Digits f → j ≤ n → shift (value f a n) j ≡ value f (a + j) (n - j)
unfolding shift
shift_value f a n zero d h = rw (add-zero a, sub-zero n)
shift_value f a n (suc j) d h =
    let e : n - j ≡ suc (n - suc j) = omega arith in
    let g : a + suc j ≡ suc (a + j) = omega arith in
    ap (λ (x : ℕ). x / 5) (shift_value f a n j d (omega arith)) ∙ rw (e, g) (value_tail f (a + j) (n - suc j) (d (a + j)))

digit_value : (f : ℕ → ℕ) (a n j : ℕ) → Digits f → j < n → shift (value f a n) j % 5 ≡ f (a + j)
digit_value f a n j d h =
    let e : n - j ≡ suc (n - suc j) = omega arith in
    ap (λ (x : ℕ). x % 5) (shift_value f a n j d (omega arith)) ∙ rw e (value_head f (a + j) (n - suc j) (d (a + j)))

cond_lt : (b : Bool) (x y n : ℕ) → x < n → y < n → cond b x y < n
cond_lt true x y n h g = h
cond_lt false x y n h g = g

pub step_small : (w : ℕ) (path : List ℕ) → Digits (step_at w path)
unfolding step_at digit_of
step_small w path t =
    let p : ℕ = get_or path t 0 in
    let q : ℕ = get_or path (t + 1) 0 in
    cond_lt (eqb q p) 0 _ 5 (omega arith) (cond_lt (eqb (q + w) p) 1 _ 5 (omega arith)
    (cond_lt (eqb (q + 1) p) 2 _ 5 (omega arith) (cond_lt (eqb q (p + 1)) 3 4 5 (omega arith) (omega arith))))

-- each step is read as it was packed
step_in_lem : (w last : ℕ) (path : List ℕ) (t : ℕ) → t < last → last < 260 → step_in (pack_of w last path) t ≡ step_at w path t
unfolding step_in pack_of word_at
step_in_lem w last path t h b =
    let k : t / 13 < 20 = omega arith in
    let e : 13 * (t / 13) + t % 13 ≡ t = omega arith in
    rw (tab_at (word_at w last path) 20 (t / 13) k)
    (digit_value (step_at w path) (13 * (t / 13)) (min 13 (last - 13 * (t / 13))) (t % 13) (step_small w path) (omega arith) ∙ rw e)

-- the digit of a step leads where the step does
back : (w p q : ℕ) (a b c d : Bool) → w ≤ 32 → q < 65536 → eqb q p ≡ a → eqb (q + w) p ≡ b → eqb (q + 1) p ≡ c → eqb q (p + 1) ≡ d → Step w p q
    → moved_of w p (cond a 0 (cond b 1 (cond c 2 (cond d 3 4)))) ≡ q
unfolding moved_of
back w p q true b c d l m ea eb ec ed s = omega (arith, eqb-true q p ea)
back w p q false true c d l m ea eb ec ed s = omega (arith, eqb-true (q + w) p eb)
back w p q false false true d l m ea eb ec ed s = omega (arith, eqb-true (q + 1) p ec)
back w p q false false false true l m ea eb ec ed s = omega (arith, eqb-true q (p + 1) ed)
back w p q false false false false l m ea eb ec ed (inl e) = absurd (eqb-false q p ea e)
back w p q false false false false l m ea eb ec ed (inr (inl e)) = absurd (eqb-false (q + w) p eb e)
back w p q false false false false l m ea eb ec ed (inr (inr (inl e))) = absurd (eqb-false (q + 1) p ec e)
back w p q false false false false l m ea eb ec ed (inr (inr (inr (inl e)))) = absurd (eqb-false q (p + 1) ed e)
back w p q false false false false l m ea eb ec ed (inr (inr (inr (inr e)))) = omega (arith, e)

moved_digit : (w p q : ℕ) → w ≤ 32 → q < 65536 → Step w p q → moved_of w p (digit_of w p q) ≡ q
unfolding digit_of
moved_digit w p q l m s = back w p q (eqb q p) (eqb (q + w) p) (eqb (q + 1) p) (eqb q (p + 1)) l m refl refl refl refl s

module _ (w last start : ℕ) (path : List ℕ) (l : w ≤ 32) (b : last < 260) (v : Walk w last start path) where
  place_in_lem : (t : ℕ) → t ≤ last → place_in w (pack_of w last path) start t ≡ get_or path t 0
  unfolding place_in step_at
  place_in_lem zero h = sym v.begins
  place_in_lem (suc t) h =
      let g : t < last = omega arith in
      rw (place_in_lem t (omega arith), step_in_lem w last path t g b, moved_digit w (get_or path t 0) (get_or path (t + 1) 0) l (v.words (t + 1)) (v.steps t g), add-one t)

  -- THE ROUND TRIP
  pub round_trip : unpack_of w last (pack_of w last path) start ≡ path
  unfolding unpack_of
  round_trip =
      ext_get_or 0 (tab (place_in w (pack_of w last path) start) (last + 1)) path (length_tab _ (last + 1) ∙ sym v.size)
      (λ t h. let g : t < last + 1 = rw (length_tab (place_in w (pack_of w last path) start) (last + 1)) at h in
      tab_at (place_in w (pack_of w last path) start) (last + 1) t g ∙ place_in_lem t (omega arith))

pub length_pack : (w last : ℕ) (path : List ℕ) → length (pack_of w last path) ≡ 20
unfolding pack_of
length_pack w last path = length_tab (word_at w last path) 20

pub length_unpack : (w last : ℕ) (words : List ℕ) (start : ℕ) → length (unpack_of w last words start) ≡ last + 1
unfolding unpack_of
length_unpack w last words start = length_tab (place_in w words start) (last + 1)
