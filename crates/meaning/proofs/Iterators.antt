-- What a test of all elements of an iterator comes to, in the definitions' words. Assumes nothing.
use Rattle.std.proofs.Common.{ℕ, zero, suc, ◌+◌, Bool, true, false, ◌&&◌, List, [], ◌∷◌, length, get_or, Option, ◌≡◌, refl, sym, ap, ◌∙◌, subst, arith, add-one, zero-add, add-zero}
use Rattle.std.specs.List.{list_all, range_with_len, FoldsTo}
use Rattle.std.specs.Option.{MatchOption}
use Rattle.std.specs.Fn.{Called}
use Rattle.std.specs.Iterator.{YieldsThen}
use Rattle.std.proofs.lemmas.Iterator.{YieldsList}
use Rattle.std.proofs.lemmas.Iterator.Search.{all_from_yields_List}
use denote.Param.Members.{Mut}
use Rattle.deck.specs.Lists.{all, below, count_from}

pub all_same : {A : Type 0} (test : A → Bool) (l : List A) → list_all test l ≡ all test l
all_same test [] = refl
all_same test (x ∷ l) = ap (λ b. test x && b) (all_same test l)

pub range_same : (k n : ℕ) → range_with_len k n ≡ count_from k n
range_same k zero = refl
range_same k (suc n) = ap (λ l. k ∷ l) (subst (λ m. range_with_len m n ≡ count_from (suc k) n) (sym (add-one k)) (range_same (suc k) n))

-- `all` over an iterator
pub all_yielded : {S A B F : Type 0} {steps : S → Option A → S → Type 0} {v : A → B} {g : Mut F (A × Unit {0}) Bool} {s : S} {l : List B} (test : B → Bool) (u : S) (f : F) (r : Bool)
    → (xs : List A) × (o : Option A) × (j : F) × YieldsThen steps s xs o u × FoldsTo (λ p x q. Called g p (x, tt) true q) f xs j × MatchOption o (r ≡ true) (λ x. (r ≡ false) × ((h : F) × Called g j (x, tt) false h))
    → YieldsList steps v s l
    → ((x : A) (b : Bool) (q : F) → Called g f (x, tt) b q → (q ≡ f) × (b ≡ test (v x)))
    → r ≡ all test l
all_yielded test u f r ran yields step = all_from_yields_List test u f r ran yields step ∙ all_same test _

-- `all` over the range from 0 to n
pub all_below : {S A F : Type 0} {steps : S → Option A → S → Type 0} {v : A → ℕ} {g : Mut F (A × Unit {0}) Bool} {s : S} (n : ℕ) (test : ℕ → Bool) (u : S) (f : F) (r : Bool)
    → (xs : List A) × (o : Option A) × (j : F) × YieldsThen steps s xs o u × FoldsTo (λ p x q. Called g p (x, tt) true q) f xs j × MatchOption o (r ≡ true) (λ x. (r ≡ false) × ((h : F) × Called g j (x, tt) false h))
    → YieldsList steps v s (range_with_len 0 n)
    → ((x : A) (b : Bool) (q : F) → Called g f (x, tt) b q → (q ≡ f) × (b ≡ test (v x)))
    → r ≡ all test (below n)
all_below n test u f r ran yields step = all_yielded test u f r ran yields step ∙ ap (all test) (range_same 0 n)

-- the elements of a list by their indexes
all_from : {A : Type 0} (test : A → Bool) (at_index : ℕ → Bool) (l : List A) (d : A) (k : ℕ) → ((i : ℕ) → at_index (k + i) ≡ test (get_or l i d))
    → all at_index (count_from k (length l)) ≡ all test l
all_from test at_index [] d k h = refl
all_from test at_index (x ∷ l) d k h =
    let e : at_index k ≡ test x = subst (λ m. at_index m ≡ test x) (add-zero k) (h 0) in
    let more = λ (i : ℕ). let p : k + suc i ≡ suc k + i = omega arith in subst (λ m. at_index m ≡ test (get_or l i d)) p (h (suc i)) in
    rw (e, all_from test at_index l d (suc k) more) refl

-- `all` over the indexes of a list: the test at an index is the test of the element
pub all_indexed : {S A F B : Type 0} {steps : S → Option A → S → Type 0} {v : A → ℕ} {g : Mut F (A × Unit {0}) Bool} {s : S} (test : B → Bool) (l : List B) (d : B) (u : S) (f : F) (r : Bool)
    → (xs : List A) × (o : Option A) × (j : F) × YieldsThen steps s xs o u × FoldsTo (λ p x q. Called g p (x, tt) true q) f xs j × MatchOption o (r ≡ true) (λ x. (r ≡ false) × ((h : F) × Called g j (x, tt) false h))
    → YieldsList steps v s (range_with_len 0 (length l))
    → ((x : A) (b : Bool) (q : F) → Called g f (x, tt) b q → (q ≡ f) × (b ≡ test (get_or l (v x) d)))
    → r ≡ all test l
all_indexed test l d u f r ran yields step =
    all_below (length l) (λ k. test (get_or l k d)) u f r ran yields step ∙ all_from test (λ k. test (get_or l k d)) l d 0 (λ i. ap (λ k. test (get_or l k d)) (zero-add i))
