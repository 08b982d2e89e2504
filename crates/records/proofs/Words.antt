-- Words as bytes, and the words of a constraint. Assumes nothing.
use Rattle.std.proofs.Common.{◌≡◌, refl, List, [], ◌∷◌, ℕ, suc, ◌<◌, ◌%◌, mod-eq_of_lt, length, get_or}
use Rattle.std.specs.List.{sum as std-sum}
use Rattle.std.proofs.lemmas.List.Recursion.{is_sum_by}
use Rattle.deck.specs.Lists.{sum}
use Rattle.deck.specs.declared.Constraint.{Constraint}
use Rattle.deck.specs.declared.Constraint.TheVariants.{Place, Move}
use Rattle.records.specs.Record.{constraint_in, words_of, bytes}

-- words that are bytes already
pub bytes_same : (l : List ℕ) → ((i : ℕ) → get_or l i 0 < 256) → bytes l ≡ l
bytes_same [] h = refl
bytes_same (x ∷ l) h =
    let e : x % 256 ≡ x = mod-eq_of_lt (h 0) in
    rw (e, bytes_same l (λ i. h (suc i)))

-- the sum that the definitions have is std's
pub sum_is : (l : List ℕ) → sum l ≡ std-sum l
sum_is = is_sum_by sum (λ x. x) refl (λ _ _. refl)

-- a constraint is read back from its words
pub held_again : (c : Constraint) → constraint_in (words_of c) ≡ c
unfolding words_of
held_again (Place a u t) = refl
held_again (Move a u v t) = refl

pub length_words : (c : Constraint) → length (words_of c) ≡ 5
unfolding words_of
length_words (Place a u t) = refl
length_words (Move a u v t) = refl
