-- The chains of a carrier's records: how they are made, and that a walk along one meets the carrier's constraints of a time. Assumes nothing.
use Rattle.std.proofs.Common.{ℕ, zero, suc, ◌+◌, ◌-◌, ◌≤◌, ◌<◌, zero-le, not-suc-le-zero, ◌≡◌, refl, sym, ap, ◌∙◌, subst, Bool, true, false, cond, ◌&&◌, List, ◌∷◌, length, get_or, Some, T, eqb, arith, ◌⊎◌, inl, inr, ⊎_elim, eq-or-lt_of_le, add-one, set, length-set, replicate, get_or-set_same, get_or-set_other, eq-eqb, ne_eqb}
use Rattle.std.specs.Iterator.{MakesProgress, item_count}
use Rattle.deck.proofs.Members.{Mem, here, there}
use Rattle.std.proofs.Math.Decide.{ℕ_discrete}
use Rattle.std.proofs.lemmas.List.{length-replicate, get_or-replicate}
use Rattle.deck.specs.Calls.{record_word, constraint_at}
use Rattle.deck.specs.declared.Constraint.{Constraint}
use Rattle.meaning.proofs.Tests.{Says, says_eqb, says_and}
use Rattle.bars.specs.Bars.{count_in, own_at, chain, Linked, Chained, ours}

module _ (rs : List ℕ) (i : ℕ) where
  pub own_says : (t k : ℕ) → Says (own_at rs i t k) ((record_word rs k 1 ≡ i) × (record_word rs k 4 ≡ t))
  own_says t k = says_and says_eqb says_eqb

  -- a chain ends in a record of the carrier at that time, and what is left of the constraints stands from there on
  pub chain_le : (t n : ℕ) → chain rs i t n ≤ n
  chain_le t zero = zero-le
  chain_le t (suc n) = go (own_at rs i t n) (chain_le t n)
    where
      go : (b : Bool) → chain rs i t n ≤ n → cond b (suc n) (chain rs i t n) ≤ suc n
      go true h = omega arith
      go false h = omega arith

  pub chain_own : (t n k : ℕ) → chain rs i t n ≡ suc k → (record_word rs k 1 ≡ i) × (record_word rs k 4 ≡ t)
  chain_own t zero k e = absurd (omega arith)
  chain_own t (suc n) k e = go (own_at rs i t n) refl e (chain_own t n k)
    where
      Own : ℕ → Type 0
      Own z = (record_word rs z 1 ≡ i) × (record_word rs z 4 ≡ t)

      go : (b : Bool) → own_at rs i t n ≡ b → cond b (suc n) (chain rs i t n) ≡ suc k → (chain rs i t n ≡ suc k → Own k) → Own k
      go true e f ih = let x : n ≡ k = omega arith in subst Own x ((own_says t n).fact (rw e tt))
      go false e f ih = ih f

  pub ours_chain : (t n : ℕ) → ours rs i t n ≡ ours rs i t (chain rs i t n)
  ours_chain t zero = refl
  ours_chain t (suc n) = go (own_at rs i t n) refl (ours_chain t n)
    where
      go : (b : Bool) → own_at rs i t n ≡ b → ours rs i t n ≡ ours rs i t (chain rs i t n)
          → cond b (constraint_at rs n ∷ ours rs i t n) (ours rs i t n) ≡ ours rs i t (cond b (suc n) (chain rs i t n))
      go true e ih = rw e refl
      go false e ih = ih

  -- the first constraint that is left, and those after it
  pub ours_first : (t k n : ℕ) → (record_word rs k 1 ≡ i) × (record_word rs k 4 ≡ t) → n ≡ chain rs i (record_word rs k 4) k
      → ours rs i t (suc k) ≡ constraint_at rs k ∷ ours rs i t n
  ours_first t k n o e =
      let f : n ≡ chain rs i t k = e ∙ ap (λ (z : ℕ). chain rs i z k) o.1 in
      rw (eq-eqb (record_word rs k 1) i o.0, eq-eqb (record_word rs k 4) t o.1, f, ours_chain t k) refl

  -- the constraints of a time are those of its records
  pub mem_ours : (t n k : ℕ) → k < n → T (own_at rs i t k) → Mem (constraint_at rs k) (ours rs i t n)
  mem_ours t zero k l o = absurd (not-suc-le-zero l)
  mem_ours t (suc n) k l o = go (own_at rs i t n) refl (eq-or-lt_of_le l) (mem_ours t n k)
    where
      go : (b : Bool) → own_at rs i t n ≡ b → (suc k ≡ suc n) ⊎ (suc k < suc n) → (k < n → T (own_at rs i t k) → Mem (constraint_at rs k) (ours rs i t n))
          → Mem (constraint_at rs k) (cond b (constraint_at rs n ∷ ours rs i t n) (ours rs i t n))
      go true e (inl x) ih = let y : k ≡ n = omega arith in here (ap (constraint_at rs) y)
      go true e (inr x) ih = there (ih (omega arith) o)
      go false e (inl x) ih = let y : k ≡ n = omega arith in absurd (subst T (ap (own_at rs i t) y ∙ e) o)
      go false e (inr x) ih = ih (omega arith) o

  pub ours_mem : (t n : ℕ) {c : Constraint} → Mem c (ours rs i t n) → (k : ℕ) × (k < n) × T (own_at rs i t k) × (c ≡ constraint_at rs k)
  ours_mem t zero m = elim m [ ]
  ours_mem t (suc n) {c} m = go (own_at rs i t n) refl m (λ x. let r = ours_mem t n x in (r.0, omega (arith, r.1), r.2, r.3))
    where
      Found : Type 0
      Found = (k : ℕ) × (k < suc n) × T (own_at rs i t k) × (c ≡ constraint_at rs k)

      go : (b : Bool) → own_at rs i t n ≡ b → Mem c (cond b (constraint_at rs n ∷ ours rs i t n) (ours rs i t n)) → (Mem c (ours rs i t n) → Found) → Found
      go true e (here x) ih = (n, omega arith, rw e tt, x)
      go true e (there x) ih = ih x
      go false e m ih = ih m

  -- Making the chains
  pub linked_none : (links : List ℕ) → Linked rs i 0 (replicate 256 0) links
  linked_none links = record {
    size = length-replicate {A = ℕ} 256 0;
    room = zero-le;
    head = λ t h. get_or-replicate {A = ℕ} 256 t 0 0 h;
    link = λ k h. absurd (not-suc-le-zero h);
  }

  -- one record more, whose link is h; the heads are as they were, or its own is it
  pub linked_more : (k : ℕ) (heads links : List ℕ) (t h : ℕ) {after : List ℕ} → t ≡ record_word rs k 4 → t < 256 → k < length links → h ≡ get_or heads t 0
      → length after ≡ length heads → get_or after t 0 ≡ cond (eqb (record_word rs k 1) i) (suc k) (get_or heads t 0)
      → ((s : ℕ) → (s ≡ t → ⊥) → get_or after s 0 ≡ get_or heads s 0)
      → Linked rs i k heads links → Linked rs i (k + 1) after (set links k h)
  linked_more k heads links t h {after} e l room f size own others m = rw add-one (record {
    size = size ∙ m.size;
    room = omega (arith, length-set links k h);
    head = λ s b. new s (ℕ_discrete s t) b;
    link = λ j b. ⊎_elim (λ x. let y : j ≡ k = omega arith in rw y (get_or-set_same links k h 0 room ∙ f ∙ m.head t l ∙ ap (λ (z : ℕ). chain rs i z k) e))
        (λ x. get_or-set_other links k j h 0 (omega arith) ∙ m.link j (omega arith)) (eq-or-lt_of_le b);
  })
    where
      here_if : (b c : Bool) → c ≡ true → cond b (suc k) (chain rs i t k) ≡ cond (b && c) (suc k) (chain rs i t k)
      here_if true c e = rw e
      here_if false c e = refl

      new : (s : ℕ) → Dec (s ≡ t) → s < 256 → get_or after s 0 ≡ chain rs i s (suc k)
      new s (yes x) b =
          subst (λ (z : ℕ). get_or after z 0 ≡ chain rs i z (suc k)) (sym x)
          (own ∙ ap (cond (eqb (record_word rs k 1) i) (suc k)) (m.head t l)
          ∙ here_if (eqb (record_word rs k 1) i) (eqb (record_word rs k 4) t) (eq-eqb (record_word rs k 4) t (sym e)))
      new s (no x) b = others s x ∙ m.head s b ∙ skip (eqb (record_word rs k 1) i) (eqb (record_word rs k 4) s) (ne_eqb (record_word rs k 4) s (λ y. x (sym y ∙ sym e)))
        where
          skip : (b c : Bool) → c ≡ false → chain rs i s k ≡ cond (b && c) (suc k) (chain rs i s k)
          skip true c e = rw e
          skip false c e = refl

  module _ (k : ℕ) (heads links : List ℕ) (t h : ℕ) (e : t ≡ record_word rs k 4) (l : t < 256) (room : k < length links) (f : h ≡ get_or heads t 0)
      (m : Linked rs i k heads links) where
    pub linked_own : (v : ℕ) → v ≡ k + 1 → record_word rs k 1 ≡ i → Linked rs i (k + 1) (set heads t v) (set links k h)
    linked_own v g o = linked_more k heads links t h e l room f (length-set heads t v)
        (get_or-set_same heads t v 0 (omega (arith, m.size)) ∙ rw (eq-eqb (record_word rs k 1) i o, g, add-one) refl)
        (λ s n. get_or-set_other heads t s v 0 n) m

    pub linked_other : (record_word rs k 1 ≡ i → ⊥) → Linked rs i (k + 1) heads (set links k h)
    linked_other n = linked_more k heads links t h e l room f refl (rw (ne_eqb (record_word rs k 1) i n) refl) (λ s x. refl) m

-- A walk along the chain of t, at n: one more than the number of a record of the carrier's at t
module _ (rs : List ℕ) (i t : ℕ) where
  pub record Walk (n : ℕ) : Type 0 where
    pub within : n ≤ count_in rs
    pub own : (k : ℕ) → n ≡ suc k → (record_word rs k 1 ≡ i) × (record_word rs k 4 ≡ t)

  module _ (heads links : List ℕ) (c : Chained rs i heads links) where
    pub walk_first : {n : ℕ} → t < 256 → n ≡ get_or heads t 0 → Walk n
    walk_first {n} l e = record {
      within = omega (arith, c.head t l, chain_le rs i t (count_in rs));
      own = λ k f. chain_own rs i t (count_in rs) k (sym (c.head t l) ∙ sym e ∙ f);
    }

    -- its first constraint is that record's, and the link leads on
    module _ {n k : ℕ} (w : Walk n) (some : 1 ≤ n) (e : k ≡ n - 1) where
      is_suc : n ≡ suc k
      is_suc = omega arith

      linked_to : get_or links k 0 ≡ chain rs i (record_word rs k 4) k
      linked_to = c.link k (omega (arith, w.within))

      pub walk_next : Walk (get_or links k 0)
      walk_next = record {
        within = omega (arith, linked_to, chain_le rs i (record_word rs k 4) k, w.within);
        own = λ j f. let o = chain_own rs i (record_word rs k 4) k j (sym linked_to ∙ f) in (o.0, o.1 ∙ (w.own k is_suc).1);
      }

      pub walk_gives : ours rs i t n ≡ constraint_at rs k ∷ ours rs i t (get_or links k 0)
      walk_gives = ap (ours rs i t) is_suc ∙ ours_first rs i t k (get_or links k 0) (w.own k is_suc) linked_to

-- an iterator that gave the first of what was left is nearer to its end
pub first_progress : {S A : Type 0} (rest : S → List A) {s t : S} {x : A} → rest s ≡ x ∷ rest t → MakesProgress (λ _. Unit {0}) (item_count rest) s (Some x) t
first_progress rest e = record { on = λ h. (tt, tt, omega (arith, ap length e)); keeps = tt; rests = λ h. tt }
