-- Decimal numbers, the most significant digit first: of the tenth part, and then the last; and std's digits are the same. Assumes nothing.
use Rattle.std.specs.Fmt.{decimal as std_decimal}
use Rattle.std.proofs.lemmas.Fmt.{PrependsLastDigit, decimal_from_prepends, length-decimal-le_succ}
use Rattle.std.proofs.lemmas.List.{append-nil}
use Rattle.std.proofs.lemmas.Bool.Decides.{nat_tests}
use Rattle.std.proofs.Common.{ℕ, zero, suc, ◌^◌, ◌+◌, ◌/◌, ◌%◌, ◌≤◌, ◌<◌, ◌≡◌, refl, sym, ◌∙◌, Bool, true, false, cond, List, [], ◌∷◌, ◌++◌, ltb, arith, lt-ltb, le-ltb}
use Rattle.std.proofs.lemmas.Bool.{ltb-false}
use Rattle.deck.specs.Listing.{digits, decimal}

either : (t : Bool) {x y : List ℕ} (u v after : List ℕ) → x ≡ u ++ after → y ≡ v ++ after → cond t x y ≡ cond t u v ++ after
either true u v after e f = e
either false u v after e f = f

-- digits go before what stands already
before_all : (fuel n : ℕ) (a b : List ℕ) → digits fuel n (a ++ b) ≡ digits fuel n a ++ b
unfolding digits
before_all zero n a b = refl
before_all (suc fuel) n a b = either (ltb n 10) ((48 + n % 10) ∷ a) (digits fuel (n / 10) ((48 + n % 10) ∷ a)) b refl (before_all fuel (n / 10) ((48 + n % 10) ∷ a) b)

-- enough fuel is enough
enough : (f g n : ℕ) (a : List ℕ) → n < f → n < g → digits f n a ≡ digits g n a
unfolding digits
enough zero g n a h k = absurd (omega arith)
enough (suc f) zero n a h k = absurd (omega arith)
enough (suc f) (suc g) n a h k = go (ltb n 10) refl (λ l. enough f g (n / 10) ((48 + n % 10) ∷ a) (omega arith) (omega arith))
  where
    go : (t : Bool) → ltb n 10 ≡ t → (10 ≤ n → digits f (n / 10) ((48 + n % 10) ∷ a) ≡ digits g (n / 10) ((48 + n % 10) ∷ a))
        → cond t ((48 + n % 10) ∷ a) (digits f (n / 10) ((48 + n % 10) ∷ a)) ≡ cond t ((48 + n % 10) ∷ a) (digits g (n / 10) ((48 + n % 10) ∷ a))
    go true e ih = refl
    go false e ih = ih (ltb-false n 10 e)

pub one_digit : (n : ℕ) → n < 10 → decimal n ≡ (48 + n % 10) ∷ []
unfolding decimal digits
one_digit n h = rw (lt-ltb n 10 h)

pub more_digits : (n : ℕ) → 10 ≤ n → decimal n ≡ decimal (n / 10) ++ ((48 + n % 10) ∷ [])
unfolding decimal digits
more_digits n h =
    rw (le-ltb n 10 h)
    (enough n (suc (n / 10)) (n / 10) ((48 + n % 10) ∷ []) (omega arith) (omega arith) ∙ before_all (suc (n / 10)) (n / 10) [] ((48 + n % 10) ∷ []))

prepends : PrependsLastDigit digits
unfolding digits
prepends = record {
  one = λ k n acc h. grind (arith, nat_tests);
  more = λ k n acc h. grind (arith, nat_tests);
}

pub decimal_is : (n : ℕ) → n < 2 ^ 64 → std_decimal n ≡ decimal n
unfolding decimal
decimal_is n h = sym (decimal_from_prepends digits prepends (suc n) n [] h (omega (arith, length-decimal-le_succ n h)) ∙ append-nil (std_decimal n))
