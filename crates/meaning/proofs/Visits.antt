-- A path leaves no goal exactly if there are times at which it visits them in order. Assumes nothing.
use Rattle.std.proofs.Common.{ℕ, zero, suc, ◌+◌, ◌≤◌, ◌<◌, ◌≡◌, refl, ap, ◌∙◌, ◌↔◌, ◌⊎◌, inl, inr, Bool, true, false, cond, List, [], ◌∷◌, eq-or-lt_of_le, arith, length, drop, drop_of_length-le, drop-cons, eqb, eqb-true}
use Rattle.std.proofs.lemmas.Bool.{eqb-false}
use Rattle.deck.specs.Paths.{left, visit}
use Rattle.meaning.specs.Meaning.{Visits, ◌at◌}

module _ (h : ℕ) (p : List ℕ) where
  earlier : {t u : ℕ} (gs : List ℕ) → t ≤ u → Visits h p u gs → Visits h p t gs
  earlier [] l v = tt
  earlier (g ∷ gs) l v = (v.0, omega (arith, v.1), v.2, v.3, v.4)

  -- what is visited from t on, once what is visited at t is taken away, is visited later
  later : (t : ℕ) (gs : List ℕ) → Visits h p t gs → Visits h p (suc t) (visit (p at t) gs)
  unfolding visit
  later t [] v = tt
  later t (g ∷ gs) v = go (eqb (p at t) g) refl (later t gs (earlier gs v.1 v.4))
    where
      go : (b : Bool) → eqb (p at t) g ≡ b → Visits h p (suc t) (visit (p at t) gs) → Visits h p (suc t) (cond b (visit (p at t) gs) (g ∷ gs))
      go true e ih = ih
      go false e ih = (v.0, ne (eq-or-lt_of_le v.1), v.2, v.3, v.4)
        where
          ne : (t ≡ v.0) ⊎ (t < v.0) → suc t ≤ v.0
          ne (inl q) = absurd (eqb-false (p at t) g e (ap (λ (k : ℕ). p at k) q ∙ v.3))
          ne (inr l) = l

  -- and the other way round
  sooner : (t : ℕ) → t ≤ h → (gs : List ℕ) → Visits h p (suc t) (visit (p at t) gs) → Visits h p t gs
  unfolding visit
  sooner t l [] v = tt
  sooner t l (g ∷ gs) v = go (eqb (p at t) g) refl v (λ w. sooner t l gs w)
    where
      go : (b : Bool) → eqb (p at t) g ≡ b → Visits h p (suc t) (cond b (visit (p at t) gs) (g ∷ gs))
          → (Visits h p (suc t) (visit (p at t) gs) → Visits h p t gs) → Visits h p t (g ∷ gs)
      go true e w ih = (t, omega arith, l, eqb-true (p at t) g e, ih w)
      go false e w ih = earlier (g ∷ gs) (omega arith) w

  module _ (long : length p ≡ suc h) where
    -- n places of the path are left from time t on
    left_of_visits : (n t : ℕ) → t + n ≡ suc h → (gs : List ℕ) → Visits h p t gs → left (drop t p) gs ≡ []
    unfolding left
    left_of_visits zero t e [] v = rw (drop_of_length-le p {i = t} (omega arith))
    left_of_visits zero t e (g ∷ gs) v = absurd (omega (arith, v.1, v.2))
    left_of_visits (suc n) t e gs v = rw (drop-cons p t 0 (omega arith)) (left_of_visits n (suc t) (omega arith) (visit (p at t) gs) (later t gs v))

    visits_of_left : (n t : ℕ) → t + n ≡ suc h → (gs : List ℕ) → left (drop t p) gs ≡ [] → Visits h p t gs
    unfolding left
    visits_of_left zero t e [] v = tt
    visits_of_left zero t e (g ∷ gs) v = cc (rw (drop_of_length-le p {i = t} (omega arith)) at v)
    visits_of_left (suc n) t e gs v =
        sooner t (omega arith) gs (visits_of_left n (suc t) (omega arith) (visit (p at t) gs) (rw (drop-cons p t 0 (omega arith)) at v))

    -- the goals that are counted off, and the visits that are meant
    pub visits_meant : (gs : List ℕ) → (left p gs ≡ []) ↔ Visits h p 0 gs
    visits_meant gs = (visits_of_left (suc h) 0 (omega arith) gs, left_of_visits (suc h) 0 (omega arith) gs)
