-- Tests that compute, and what they say. Assumes nothing.
use Rattle.std.proofs.Common.{ℕ, ◌≤◌, ◌≡◌, refl, ◌↔◌, ◌⊎◌, inl, inr, ⊎_elim, Bool, true, false, ◌&&◌, ◌||◌, not, List, [], ◌∷◌, T, eqb, eqb→eq, leb, leb→le, le→leb, T_not}
use Rattle.std.proofs.Math.Dec.{eqb_refl, not_T}
use Rattle.deck.specs.Lists.{is_nil}

-- the test b says P. A record, so that antt reads the test off the type: from `T b` it cannot
pub record Says (b : Bool) (P : Type 0) : Type 0 where
  pub fact : T b → P
  pub test : P → T b

pub says_itself : {b : Bool} → Says b (T b)
says_itself = record { fact = λ t. t; test = λ t. t }

pub says_eqb : {a b : ℕ} → Says (eqb a b) (a ≡ b)
says_eqb {a} {b} = record { fact = eqb→eq a b; test = λ e. rw e (eqb_refl b) }

-- `ltb a b` is `leb (suc a) b`, and `a < b` is `suc a ≤ b`
pub says_leb : {a b : ℕ} → Says (leb a b) (a ≤ b)
says_leb {a} {b} = record { fact = leb→le a b; test = le→leb a b }

pub says_and : {a b : Bool} {P Q : Type 0} → Says a P → Says b Q → Says (a && b) (P × Q)
says_and {a = true} f g = record { fact = λ t. (f.fact tt, g.fact t); test = λ h. g.test h.1 }
says_and {a = false} f g = record { fact = λ t. absurd t; test = λ h. f.test h.0 }

pub says_or : {a b : Bool} {P Q : Type 0} → Says a P → Says b Q → Says (a || b) (P ⊎ Q)
says_or {a = true} f g = record { fact = λ t. inl (f.fact tt); test = λ h. tt }
says_or {a = false} f g = record { fact = λ t. inr (g.fact t); test = ⊎_elim (λ p. absurd (f.test p)) g.test }

pub says_not : {b : Bool} {P : Type 0} → Says b P → Says (not b) (¬ P)
says_not {b} s = record { fact = λ t p. T_not b t (s.test p); test = λ n. not_T b (λ t. n (s.fact t)) }

pub says_nil : {A : Type 0} {l : List A} → Says (is_nil l) (l ≡ [])
says_nil {l = []} = record { fact = λ t. refl; test = λ e. tt }
says_nil {l = x ∷ l} = record { fact = λ t. absurd t; test = λ e. cc e }

pub says_iff : {b : Bool} {P Q : Type 0} → Says b P → P ↔ Q → Says b Q
says_iff s e = record { fact = λ t. e.0 (s.fact t); test = λ q. s.test (e.1 q) }

-- tests that pass together are one
pub same_test : (a b : Bool) → (T a → T b) → (T b → T a) → a ≡ b
same_test true true f g = refl
same_test true false f g = absurd (f tt)
same_test false true f g = absurd (g tt)
same_test false false f g = refl

pub is_true : (b : Bool) → T b → b ≡ true
is_true true t = refl
is_true false t = absurd t

pub is_false : (b : Bool) → ¬ T b → b ≡ false
is_false true n = absurd (n tt)
is_false false n = refl
