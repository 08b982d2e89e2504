-- What each turn of the packing loops adds. Assumes nothing.
use Rattle.std.proofs.Common.{ℕ, zero, suc, ◌≡◌, ◌+◌, ◌*◌, ◌-◌, ◌/◌, ◌%◌, ◌^◌, ◌<◌, ◌≤◌, List, [], ◌∷◌, ◌++◌, length, get_or, set, take, replicate, refl, sym, ◌∙◌, ap, arith, append_assoc, add-one, add-zero}
use Rattle.std.proofs.Math.Nat.{pow-suc, pow-le-pow_right, mod-eq_of_lt}
use Rattle.std.proofs.lemmas.List.{append-nil, take_all, take_more_set, replicate_more}
use Rattle.std.proofs.lemmas.Slice.{take-put_mid}
use borrow.Rule.Slice.PartMut.{put_mid}
use Rattle.pack.specs.Pack.{tab, differences, moved_of, value, shift, step_in, place_from, place_in}
use Rattle.pack.proofs.Trips.{Digits, length_tab}

-- THE NUMBER OF A WORD
-- one step more in front
pub value_more : (f : ℕ → ℕ) (t end x d : ℕ) → 0 < t → t ≤ end → x ≡ value f t (end - t) → d ≡ f (t - 1) → x * 5 + d ≡ value f (t - 1) (end - (t - 1))
unfolding value
value_more f t end x d p h e g =
    let a : end - (t - 1) ≡ suc (end - t) = omega arith in
    let b : t ≡ suc (t - 1) = omega arith in
    rw (a, e, g, ← b)

value_bound : (f : ℕ → ℕ) (a n : ℕ) → Digits f → value f a n < 5 ^ n
unfolding value
value_bound f a zero d = omega arith
value_bound f a (suc n) d = rw (pow-suc 5 n) (omega (arith, value_bound f (suc a) n d, d a))

pub value_fits : (f : ℕ → ℕ) (a n : ℕ) → Digits f → n < 13 → value f a n < 244140625
value_fits f a n d h =
    let e : 5 ^ n ≤ 5 ^ 12 = pow-le-pow_right {n = 5} (omega arith) {i = n} {j = 12} (omega arith) in
    omega (arith, value_bound f a n d, e)

-- A LIST FILLED FROM THE FRONT
pub tab_more : (f : ℕ → ℕ) (l : List ℕ) (k v : ℕ) → k < length l → v ≡ f k → take k l ≡ tab f k → take (k + 1) (set l k v) ≡ tab f (k + 1)
unfolding tab
tab_more f l k v h e g = take_more_set l k v h ∙ rw (add-one k, e, g)

pub tab_all : (f : ℕ → ℕ) (l : List ℕ) (k n : ℕ) → k ≡ n → length l ≡ n → take k l ≡ tab f k → l ≡ tab f n
tab_all f l k n e h g = sym (take_all k l (omega arith)) ∙ g ∙ ap (tab f) e

-- one table after another
tab-append : (f g : ℕ → ℕ) (a n : ℕ) → ((j : ℕ) → j < n → g j ≡ f (a + j)) → tab f a ++ tab g n ≡ tab f (a + n)
unfolding tab
tab-append f g a zero h = rw add-zero (append-nil (tab f a))
tab-append f g a (suc n) h =
    let e : a + suc n ≡ suc (a + n) = omega arith in
    rw (e, ← append_assoc (tab f a) (tab g n) (g n ∷ []), tab-append f g a n (λ j b. h j (omega arith)), h n (omega arith))

-- THE STEPS OF A WORD
pub from_more : (w p x j q y : ℕ) → q ≡ place_from w p x j → y ≡ shift x j → moved_of w q (y % 5) ≡ place_from w p x (j + 1)
unfolding place_from
from_more w p x j q y e g = rw (e, g, add-one j)

pub shift_more : (x j y : ℕ) → y ≡ shift x j → y / 5 ≡ shift x (j + 1)
unfolding shift
shift_more x j y e = rw (e, add-one j)

-- the steps of word k are those of the path from 13 k on
pub place_word : (w : ℕ) (words : List ℕ) (start k j : ℕ) → j ≤ 13 → place_from w (place_in w words start (13 * k)) (get_or words k 0) j ≡ place_in w words start (13 * k + j)
unfolding place_from place_in step_in
place_word w words start k zero h = rw add-zero
place_word w words start k (suc j) h =
    let e : 13 * k + suc j ≡ suc (13 * k + j) = omega arith in
    let a : (13 * k + j) / 13 ≡ k = omega arith in
    let b : (13 * k + j) % 13 ≡ j = omega arith in
    rw (e, a, b, place_word w words start k j (omega arith))

-- no difference is more than 65536
pub differences_fit : (w d : ℕ) → w ≤ 32 → get_or (differences w) d 0 ≤ 65536
differences_fit w zero h = omega arith
differences_fit w (suc zero) h = omega arith
differences_fit w (suc (suc zero)) h = omega arith
differences_fit w (suc (suc (suc zero))) h = omega arith
differences_fit w (suc (suc (suc (suc zero)))) h = omega arith
differences_fit w (suc (suc (suc (suc (suc d))))) h = omega arith

-- A WORD UNPACKED: its places come after the first at + 1
module _ (w : ℕ) (words : List ℕ) (start k at n p m : ℕ) (a : at ≡ 13 * k) (b : n ≤ 13) (e : p ≡ place_in w words start at) (l : m ≡ n) where
  along : (j : ℕ) → j ≤ 13 → place_from w p (get_or words k 0) j ≡ place_in w words start (at + j)
  along j h = rw (e, a) (place_word w words start k j h)

  pub stretch_place : (r : ℕ) → r ≡ place_from w p (get_or words k 0) m → r ≡ place_in w words start (at + n)
  stretch_place r h = h ∙ rw l (along n b)

  pub stretch_more : (out ys : List ℕ) → at + 1 + n ≤ length out → ys ≡ tab (λ j. place_from w p (get_or words k 0) (j + 1)) m
      → take (at + 1) out ≡ tab (place_in w words start) (at + 1)
      → take (at + n + 1) (put_mid (at + 1) (at + 1 + n - (at + 1)) out ys) ≡ tab (place_in w words start) (at + n + 1)
  stretch_more out ys h y t =
      let s : at + n + 1 ≡ at + 1 + n = omega arith in
      let z : length ys ≡ n = ap length y ∙ length_tab _ m ∙ l in
      take-put_mid (at + 1) (at + 1 + n - (at + 1)) out ys (at + n + 1) (omega arith) (omega arith)
      ∙ rw (t, y, l, s)
      (tab-append (place_in w words start) (λ j. place_from w p (get_or words k 0) (j + 1)) (at + 1) n
      (λ j g. along (j + 1) (omega arith) ∙ (let q : at + (j + 1) ≡ at + 1 + j = omega arith in ap (place_in w words start) q)))

-- A WORD OF WAITS
shift_zero : (j : ℕ) → shift 0 j ≡ 0
unfolding shift
shift_zero zero = refl
shift_zero (suc j) = rw (shift_zero j)

pub place_waits : (w p j : ℕ) → p < 65536 → place_from w p 0 j ≡ p
unfolding place_from moved_of
place_waits w p zero h = refl
place_waits w p (suc j) h = rw (place_waits w p j h, shift_zero j, add-zero) (mod-eq_of_lt h)

pub waited : (w p x n : ℕ) (out : List ℕ) → p < 65536 → x ≡ 0 → out ≡ replicate n p
    → (p ≡ place_from w p x n) × (out ≡ tab (λ j. place_from w p x (j + 1)) n)
unfolding tab
waited w p x n out h z o = (rw z (sym (place_waits w p n h)), o ∙ rw z (filled n))
  where
    filled : (n : ℕ) → replicate n p ≡ tab (λ j. place_from w p 0 (j + 1)) n
    filled zero = refl
    filled (suc n) = rw (← filled n, place_waits w p (n + 1) h) (ap (λ k. replicate k p) (sym (add-one n)) ∙ sym (replicate_more n p))
