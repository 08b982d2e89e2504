-- A path of places as steps, thirteen to a word: a step is a digit of base 5, the first step of a word the lowest. Assumes nothing.
use Rattle.std.specs.Prelude.{ℕ, zero, suc, ◌+◌, ◌*◌, ◌-◌, ◌/◌, ◌%◌, ◌<◌, min, ◌≡◌, cond, ◌⊎◌, List, [], ◌∷◌, ◌++◌, eqb, get_or, length}

-- f 0, f 1, .. f (n - 1)
unfoldable pub tab : (ℕ → ℕ) → ℕ → List ℕ
tab f zero = []
tab f (suc n) = tab f n ++ (f n ∷ [])

-- 0 waits, 1 goes up, 2 left, 3 right, 4 down on a grid of width w
unfoldable pub digit_of : ℕ → ℕ → ℕ → ℕ
digit_of w p q = cond (eqb q p) 0 (cond (eqb (q + w) p) 1 (cond (eqb (q + 1) p) 2 (cond (eqb q (p + 1)) 3 4)))

-- what each digit adds to a place, modulo 65536
abbrev pub differences : ℕ → List ℕ
differences w = 0 ∷ (65536 - w) ∷ 65535 ∷ 1 ∷ w ∷ []

unfoldable pub moved_of : ℕ → ℕ → ℕ → ℕ
moved_of w p d = (p + get_or (differences w) d 0) % 65536

-- the digit of the step from t to t + 1
unfoldable pub step_at : ℕ → List ℕ → ℕ → ℕ
step_at w path t = digit_of w (get_or path t 0) (get_or path (t + 1) 0)

-- the number of the digits f a, f (a + 1), .. f (a + n - 1), the first the lowest
unfoldable pub value : (ℕ → ℕ) → ℕ → ℕ → ℕ
value f a zero = 0
value f a (suc n) = value f (suc a) n * 5 + f a

-- the word of the steps from 13 k on, as far as there are any
unfoldable pub word_at : ℕ → ℕ → List ℕ → ℕ → ℕ
word_at w last path k = value (step_at w path) (13 * k) (min 13 (last - 13 * k))

-- the twenty words of a path of `last` steps
unfoldable pub pack_of : ℕ → ℕ → List ℕ → List ℕ
pack_of w last path = tab (word_at w last path) 20

-- a word without its first j digits
unfoldable pub shift : ℕ → ℕ → ℕ
shift x zero = x
shift x (suc j) = shift x j / 5

-- the place after the first j steps of the word x from p
unfoldable pub place_from : ℕ → ℕ → ℕ → ℕ → ℕ
place_from w p x zero = p
place_from w p x (suc j) = moved_of w (place_from w p x j) (shift x j % 5)

unfoldable pub step_in : List ℕ → ℕ → ℕ
step_in words t = shift (get_or words (t / 13) 0) (t % 13) % 5

-- the place at t of the walk from start by the steps that are packed
unfoldable pub place_in : ℕ → List ℕ → ℕ → ℕ → ℕ
place_in w words start zero = start
place_in w words start (suc t) = moved_of w (place_in w words start t) (step_in words t)

unfoldable pub unpack_of : ℕ → ℕ → List ℕ → ℕ → List ℕ
unpack_of w last words start = tab (place_in w words start) (last + 1)

-- a wait or one of the four moves
abbrev pub Step : ℕ → ℕ → ℕ → Type 0
Step w p q = (q ≡ p) ⊎ ((q + w ≡ p) ⊎ ((q + 1 ≡ p) ⊎ ((q ≡ p + 1) ⊎ (q ≡ p + w))))

-- a walk on a grid of width w, of places that fit 16 bits
pub record Walk (w last start : ℕ) (path : List ℕ) : Type 0 where
  pub size : length path ≡ last + 1
  pub begins : get_or path 0 0 ≡ start
  pub words : (t : ℕ) → get_or path t 0 < 65536
  pub steps : (t : ℕ) → t < last → Step w (get_or path t 0) (get_or path (t + 1) 0)
