-- Laws of two-byte values, and of a stretch that is cut off where the sheet ends. Assumes nothing.
use Rattle.std.proofs.Common.{ℕ, zero, suc, ◌+◌, ◌*◌, ◌-◌, ◌/◌, ◌≤◌, ◌<◌, min, ◌≡◌, refl, sym, ◌∙◌, ap, ◌&&◌, List, [], ◌∷◌, not-suc-le-zero, suc-ne-zero, mul-le-mul, arith, eqb, length, get_or, take, drop, length-drop, drop_of_length-le, take_all, ne_eqb}
use Rattle.std.proofs.Math.Decide.{dec_le}
use Rattle.std.proofs.Math.ListN.{get_or-eq_default}
use Rattle.std.proofs.Math.Seq.{take-nil}
use Rattle.deck.specs.Lists.{last}
use Rattle.deck.specs.Sheet.{word_at, words}

pub length_words : (l : List ℕ) → length (words l) ≡ length l / 2
unfolding words
length_words [] = refl
length_words (a ∷ []) = refl
length_words (a ∷ b ∷ l) = omega (arith, length_words l)

-- the word i
pub words_at : (l : List ℕ) (i : ℕ) → i < length l / 2 → get_or (words l) i 0 ≡ word_at l (2 * i)
unfolding words
words_at [] i h = absurd (not-suc-le-zero h)
words_at (a ∷ []) i h = absurd (not-suc-le-zero h)
words_at (a ∷ b ∷ l) zero h = refl
words_at (a ∷ b ∷ l) (suc i) h =
    let e : 2 * suc i ≡ suc (suc (2 * i)) = omega arith in
    let f : suc (suc (2 * i)) + 1 ≡ suc (suc (2 * i + 1)) = omega arith in
    rw (e, f) (words_at l i (omega arith))

-- there is none past the last
pub words_past : (l : List ℕ) (i : ℕ) → length l / 2 ≤ i → get_or (words l) i 0 ≡ 0
words_past l i h = get_or-eq_default (words l) 0 (omega (arith, length_words l))

module _ {A : Type 0} where
  -- a count above the length takes the whole list
  take_least_lem : (k n : ℕ) (l : List A) → k ≡ min n (length l) → take k l ≡ take n l
  take_least_lem k n l e = go (dec_le n (length l))
    where
      go : Dec (n ≤ length l) → take k l ≡ take n l
      go (yes h) = let f : k ≡ n = omega arith in ap (λ (m : ℕ). take m l) f
      go (no h) = take_all k l (omega arith) ∙ sym (take_all n l (omega arith))

  -- n elements from o on, both ends cut off at the length
  pub cut_off : (l : List A) (o n a e : ℕ) → a ≡ min o (length l) → e ≡ min (a + n) (length l) → take (e - a) (drop a l) ≡ take n (drop o l)
  cut_off l o n a e p q = go (dec_le o (length l))
    where
      go : Dec (o ≤ length l) → take (e - a) (drop a l) ≡ take n (drop o l)
      go (yes h) =
          let f : a ≡ o = omega arith in
          rw (← f) (take_least_lem (e - a) n (drop a l) (rw length-drop (omega arith)))
      go (no h) =
          rw (drop_of_length-le l {i = a} (omega arith), drop_of_length-le l {i = o} (omega arith), take-nil {A = A} (e - a), take-nil {A = A} n) refl

-- the product of two bytes is a word
pub product_of_bytes : (a b : ℕ) → a < 256 → b < 256 → a * b < 65536
product_of_bytes a b h k = omega (arith, mul-le-mul {n₁ = a} {m₁ = b} {n₂ = 255} {m₂ = 255} (omega arith) (omega arith))

-- the last of the numbers, by its index
last_at : (d x : ℕ) (l : List ℕ) → last x l ≡ get_or (x ∷ l) (length l) d
last_at d x [] = refl
last_at d x (y ∷ l) = last_at d y l

pub last_of : (l : List ℕ) → last 0 l ≡ get_or l (length l - 1) 0
last_of [] = refl
last_of (x ∷ l) = let e : suc (length l) - 1 ≡ length l = omega arith in rw e (last_at 0 x l)

-- a word is zero where both its bytes are
pub zero_word : (a b : ℕ) → eqb (a + 256 * b) 0 ≡ (eqb a 0 && eqb b 0)
zero_word zero zero = refl
zero_word zero (suc b) = rw (ne_eqb (0 + 256 * suc b) 0 (λ e. omega arith), ne_eqb (suc b) 0 (suc-ne-zero b)) refl
zero_word (suc a) b = rw (ne_eqb (suc a + 256 * b) 0 (λ e. omega arith), ne_eqb (suc a) 0 (suc-ne-zero a)) refl

-- the products of the workspace formula, of any bytes
abbrev pub Products : ℕ → ℕ → ℕ → Type 0
Products a b k = ((a + 1) * b ≤ 16777216) × ((a + 1) * b * (k + 1) ≤ 549755813888)

pub products : (a b k : ℕ) → a < 256 → b < 65536 → k < 32768 → Products a b k
products a b k f g h =
    let p : (a + 1) * b ≤ 16777216 =
    omega (arith, mul-le-mul {n₁ = a + 1} {m₁ = b} {n₂ = 256} {m₂ = 65536} (omega arith) (omega arith)) in
    (p, omega (arith, mul-le-mul {n₁ = (a + 1) * b} {m₁ = k + 1} {n₂ = 16777216} {m₂ = 32768} p (omega arith)))
