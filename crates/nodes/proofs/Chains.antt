-- The constraints along the links. Assumes nothing.
use Rattle.std.proofs.Common.{◌≡◌, refl, sym, ◌∙◌, ap, List, [], ◌∷◌, ℕ, zero, suc, ◌-◌, ◌<◌, ◌≤◌, arith, length}
use Rattle.deck.proofs.Members.{here, not-nil, there, Mem}
use Rattle.deck.specs.Sheet.{Sheet}
use Rattle.deck.specs.declared.Constraint.{Constraint}
use Rattle.records.specs.Record.{fields_at, link_in, own_in}
use Rattle.nodes.specs.Nodes.{upward, constraints_from, constraints_at, node_at}
use Rattle.meaning.specs.Constraints.{InRange}
use Rattle.nodes.specs.Stored.{Linked, Stored}

-- links of the first `made` records lead to earlier ones
abbrev pub Links : (ℕ → List (List ℕ)) → ℕ → Type 0
Links f made = (k : ℕ) → k < made → link_in (f k) ≤ k

module _ (f : ℕ → List (List ℕ)) (made : ℕ) (links : Links f made) where
  -- more fuel than the number changes nothing
  chain_fuel : (k j n : ℕ) → n < made → n < k → n < j → constraints_from k f n ≡ constraints_from j f n
  unfolding constraints_from
  chain_fuel zero j n m h g = absurd (omega arith)
  chain_fuel (suc k) zero n m h g = absurd (omega arith)
  chain_fuel (suc k) (suc j) n m h g = go (link_in (f n)) (links n m) (λ p b. chain_fuel k j p (omega arith) (omega arith) (omega arith))
    where
      go : (l : ℕ) → l ≤ n → ((p : ℕ) → p < n → constraints_from k f p ≡ constraints_from j f p)
          → upward (own_in (f n)) l (constraints_from k f) ≡ upward (own_in (f n)) l (constraints_from j f)
      go zero b ih = refl
      go (suc p) b ih = ap (λ (t : List Constraint). own_in (f n) ∷ t) (ih p (omega arith))

  -- records with the same links and constraints
  pub chain_alike : (g : ℕ → List (List ℕ)) → ((k : ℕ) → k < made → link_in (g k) ≡ link_in (f k)) → ((k : ℕ) → k < made → own_in (g k) ≡ own_in (f k))
      → (k n : ℕ) → n < made → constraints_from k g n ≡ constraints_from k f n
  unfolding constraints_from
  chain_alike g e h zero n m = refl
  chain_alike g e h (suc k) n m = rw (e n m, h n m) (go (link_in (f n)) (links n m) (λ p b. chain_alike g e h k p (omega arith)))
    where
      go : (l : ℕ) → l ≤ n → ((p : ℕ) → p < n → constraints_from k g p ≡ constraints_from k f p)
          → upward (own_in (f n)) l (constraints_from k g) ≡ upward (own_in (f n)) l (constraints_from k f)
      go zero b ih = refl
      go (suc p) b ih = ap (λ (t : List Constraint). own_in (f n) ∷ t) (ih p (omega arith))

  chain_same : (g : ℕ → List (List ℕ)) → ((k : ℕ) → k < made → g k ≡ f k) → (k n : ℕ) → n < made → constraints_from k g n ≡ constraints_from k f n
  chain_same g e = chain_alike g (λ k b. ap link_in (e k b)) (λ k b. ap own_in (e k b))

-- a node more: its own constraint and those of its parent
pub chain_more : (f g : ℕ → List (List ℕ)) (made : ℕ) (fs : List (List ℕ)) → Links f made → ((k : ℕ) → k < made → g k ≡ f k) → g made ≡ fs → link_in fs ≤ made
    → constraints_from (suc made) g made ≡ upward (own_in fs) (link_in fs) (λ p. constraints_from (suc p) f p)
unfolding constraints_from
chain_more f g made fs links e h b = rw h (go (link_in fs) b)
  where
    go : (l : ℕ) → l ≤ made → upward (own_in fs) l (constraints_from made g) ≡ upward (own_in fs) l (λ p. constraints_from (suc p) f p)
    go zero q = refl
    go (suc p) q = ap (λ (t : List Constraint). own_in fs ∷ t) (chain_same f made links g e made p (omega arith) ∙ chain_fuel f made links made (suc p) p (omega arith) (omega arith) (omega arith))

-- one link upward
pub chain_up : (f : ℕ → List (List ℕ)) (made n l : ℕ) → Links f made → n < made → l ≡ link_in (f n) → (l ≡ 0 → ⊥) → constraints_from (suc n) f n ≡ own_in (f n) ∷ constraints_from (suc (l - 1)) f (l - 1)
unfolding constraints_from
chain_up f made n l links m e ne =
    let b : link_in (f n) ≤ n = links n m in
    let q : link_in (f n) ≡ suc (l - 1) = omega (arith, e, ne) in
    rw q (ap (λ (t : List Constraint). own_in (f n) ∷ t) (chain_fuel f made links n (suc (l - 1)) (l - 1) (omega arith) (omega arith) (omega arith)))

pub chain_root : (f : ℕ → List (List ℕ)) (n l : ℕ) → l ≡ link_in (f n) → l ≡ 0 → constraints_from (suc n) f n ≡ []
unfolding constraints_from
chain_root f n l e z =
    let q : link_in (f n) ≡ 0 = sym e ∙ z in
    rw q

-- OF A STORE
module _ {d : Sheet} {limit : ℕ} {work : List ℕ} {made : ℕ} (s : Stored d limit work made) where
  pub stored_links : Links (fields_at work) made
  stored_links k h = (s.sound k h).earlier

  pub stored_linked : (n : ℕ) → n < made → Linked work n
  stored_linked n h = record { earlier = λ k b. (s.sound k (omega arith)).earlier; small = λ k b. (s.sound k (omega arith)).small }

  -- records that are the same have the same nodes
  pub node_same : (other : List ℕ) → ((k : ℕ) → k < made → fields_at other k ≡ fields_at work k) → (n : ℕ) → n < made → node_at d other n ≡ node_at d work n
  node_same other e n h = rw (e n h, chain_same (fields_at work) made stored_links (fields_at other) e (suc n) n h)

  -- each constraint is one of the sheet, and there are at most n of them
  good_from : (k n : ℕ) → n < made → (c : Constraint) → Mem c (constraints_from k (fields_at work) n) → InRange d c
  unfolding constraints_from
  good_from zero n h c m = absurd (not-nil m)
  good_from (suc k) n h c m = go (link_in (fields_at work n)) refl m (λ p b x. good_from k p b c x)
    where
      go : (l : ℕ) → link_in (fields_at work n) ≡ l → Mem c (upward (own_in (fields_at work n)) l (constraints_from k (fields_at work)))
          → ((p : ℕ) → p < made → Mem c (constraints_from k (fields_at work) p) → InRange d c) → InRange d c
      go zero e x ih = absurd (not-nil x)
      go (suc p) e (here q) ih = rw q ((s.sound n h).good (omega arith))
      go (suc p) e (there x) ih = ih p (omega (arith, stored_links n h)) x

  pub constraints_good : (n : ℕ) → n < made → (c : Constraint) → Mem c (constraints_at work n) → InRange d c
  constraints_good n h c m = good_from (suc n) n h c m

pub chain_few : (f : ℕ → List (List ℕ)) (made k n : ℕ) → Links f made → n < made → length (constraints_from k f n) ≤ n
unfolding constraints_from
chain_few f made zero n links h = omega arith
chain_few f made (suc k) n links h = go (link_in (f n)) (links n h) (λ p b. chain_few f made k p links (omega arith))
  where
    go : (l : ℕ) → l ≤ n → ((p : ℕ) → p < n → length (constraints_from k f p) ≤ p) → length (upward (own_in (f n)) l (constraints_from k f)) ≤ n
    go zero b ih = omega arith
    go (suc p) b ih = omega (arith, ih p (omega arith))
