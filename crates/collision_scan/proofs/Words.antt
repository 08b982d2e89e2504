-- The paths as pieces of a list of words, and the words themselves. Assumes nothing.
use Rattle.std.proofs.Common.{ℕ, suc, ◌+◌, ◌*◌, ◌≤◌, ◌<◌, ◌≡◌, refl, sym, ap, ap₂, ◌∙◌, Bool, true, false, ◌&&◌, List, suc-mul, mul-le-mul_right, arith, add-one, length, get_or, drop, get_or-take, get_or-drop, eqb}
use Rattle.deck.specs.Lists.{pieces}
use Rattle.deck.specs.Sheet.{carrier}
use Rattle.deck.specs.Collisions.{place_at, place_collides, move_collides, place_collision, move_collision}
use Rattle.deck.specs.declared.Collision.TheVariants.{Place, Move}
use Rattle.meaning.proofs.Lists.{piece_at}
use Rattle.collision_scan.specs.Words.{place_in, Row, meets, exchanges}

pub and_false : (x : Bool) → x && false ≡ false
and_false true = refl
and_false false = refl

module _ (m n : ℕ) (ws : List ℕ) where
  pub place_in_lem : (i t : ℕ) → i < m → t < n → place_at (pieces m n ws) i t ≡ place_in ws n i t
  place_in_lem i t h l =
      ap (λ p. get_or p t 0) (piece_at m n ws i h)
      ∙ get_or-take n (drop (i * n) ws) t 0 l
      ∙ get_or-drop (i * n) ws t 0

  pub meets_is : (i j t : ℕ) → i < m → j < m → t < n → place_collides (pieces m n ws) t (i, j) ≡ meets ws n i j t
  unfolding place_collides meets
  meets_is i j t h k l = ap₂ eqb (place_in_lem i t h l) (place_in_lem j t k l)

  pub exchanges_is : (i j t : ℕ) → i < m → j < m → suc t < n → move_collides (pieces m n ws) t (i, j) ≡ exchanges ws n i j t
  unfolding move_collides exchanges
  exchanges_is i j t h k l =
      rw (add-one t, place_in_lem i t h (omega arith), place_in_lem i (suc t) h l, place_in_lem j t k (omega arith), place_in_lem j (suc t) k l)

-- the path of a carrier below m is within the words
pub row_within : (m h n : ℕ) (ws : List ℕ) → n ≡ suc h → (i : ℕ) → m * suc h ≤ length ws → i < m → Row ws n i
row_within m h n ws q i e a = rw q (omega (arith, suc-mul i (suc h), mul-le-mul_right (suc h) a))

-- the tests that the code makes, and the collisions that it finds, are those of the definition
module _ (m h : ℕ) (ws : List ℕ) (i j t : ℕ) (a : i < m) (b : j < m) where
  pub place_test : t ≤ h → {r o : Bool} → r ≡ meets ws (suc h) i j t → r ≡ o → place_collides (pieces m (suc h) ws) t (i, j) ≡ o
  place_test l e f = meets_is m (suc h) ws i j t a b (omega arith) ∙ sym e ∙ f

  pub move_test : t < h → {r o : Bool} → r ≡ exchanges ws (suc h) i j t → r ≡ o → move_collides (pieces m (suc h) ws) t (i, j) ≡ o
  move_test l e f = exchanges_is m (suc h) ws i j t a b (omega arith) ∙ sym e ∙ f

  pub place_found : t ≤ h → {u : ℕ} → u ≡ place_in ws (suc h) i t → place_collision (pieces m (suc h) ws) t (i, j) ≡ Place t (carrier i) (carrier j) u
  place_found l e = rw (e, place_in_lem m (suc h) ws i t a (omega arith))

  pub move_found : t < h → {u v : ℕ} → u ≡ place_in ws (suc h) i t → v ≡ place_in ws (suc h) i (t + 1)
      → move_collision (pieces m (suc h) ws) t (i, j) ≡ Move t (carrier i) (carrier j) u v
  move_found l e f = rw (e, f, add-one t, place_in_lem m (suc h) ws i t a (omega arith), place_in_lem m (suc h) ws i (suc t) a (omega arith))
