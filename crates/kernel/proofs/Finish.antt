-- Where staying on the last goal raises no label: the finish of a walk is the least time from which it stays there. Assumes nothing.
use Rattle.std.proofs.Common.{ℕ, zero, suc, ◌+◌, ◌-◌, ◌≤◌, ◌<◌, zero-le, ◌≡◌, refl, sym, ap, ◌∙◌, subst, ◌⊎◌, inl, inr, ⊎_elim, Bool, true, false, cond, List, [], ◌∷◌, Option, None, Some, eq-or-lt_of_le, arith, length, replicate, T, eqb, eqb→eq}
use Rattle.std.proofs.lemmas.List.{length-replicate}
use Rattle.std.proofs.Math.Dec.{eqb_refl}
use Rattle.deck.specs.Lists.{all}
use Rattle.deck.specs.Paths.{finish}
use Rattle.meaning.specs.Meaning.{Before}
use Rattle.kernel.proofs.Both.{and_left, and_right, and_both}
use Rattle.kernel.specs.Layers.{Parts, pass, rest}
use Rattle.kernel.proofs.Passes.{Laws, Goes, after}
use Rattle.kernel.proofs.Trace.{Meets, At, Right}

-- the list is m times g
same_all : (g : ℕ) (q : List ℕ) (m : ℕ) → T (all (eqb g) q) → length q ≡ m → q ≡ replicate m g
same_all g [] zero a e = refl
same_all g [] (suc m) a e = absurd (omega arith)
same_all g (x ∷ q) zero a e = absurd (omega arith)
same_all g (x ∷ q) (suc m) a e =
    let h : g ≡ x = eqb→eq g x (and_left (eqb g x) (all (eqb g) q) a) in
    rw (← h) (ap (λ (r : List ℕ). g ∷ r) (same_all g q m (and_right (eqb g x) (all (eqb g) q) a) (omega arith)))

all_same : (g m : ℕ) → T (all (eqb g) (replicate m g))
all_same g zero = tt
all_same g (suc m) = and_both (eqb g g) (all (eqb g) (replicate m g)) (eqb_refl g) (all_same g m)

finish_all : (g : ℕ) (p : List ℕ) → T (all (eqb g) p) → finish g p ≤ 0
unfolding finish
finish_all g [] a = zero-le
finish_all g (x ∷ p) a = go (all (eqb g) (x ∷ p)) a
  where
    go : (b : Bool) → T b → cond b 0 (suc (finish g p)) ≤ 0
    go true t = zero-le
    go false t = absurd t

finish_next : (g x : ℕ) (p : List ℕ) (n : ℕ) → finish g p ≤ n → finish g (x ∷ p) ≤ suc n
unfolding finish
finish_next g x p n h = go (all (eqb g) (x ∷ p))
  where
    go : (b : Bool) → cond b 0 (suc (finish g p)) ≤ suc n
    go true = zero-le
    go false = omega arith

finish_zero : (g x : ℕ) (p : List ℕ) → finish g (x ∷ p) ≡ 0 → T (all (eqb g) (x ∷ p))
unfolding finish
finish_zero g x p e = go (all (eqb g) (x ∷ p)) refl e
  where
    go : (b : Bool) → all (eqb g) (x ∷ p) ≡ b → cond b 0 (suc (finish g p)) ≡ 0 → T (all (eqb g) (x ∷ p))
    go true f e = rw f tt
    go false f e = absurd (omega arith)

finish_suc : (g x : ℕ) (p : List ℕ) (n : ℕ) → finish g (x ∷ p) ≡ suc n → finish g p ≡ n
unfolding finish
finish_suc g x p n e = go (all (eqb g) (x ∷ p)) e
  where
    go : (b : Bool) → cond b 0 (suc (finish g p)) ≡ suc n → finish g p ≡ n
    go true e = absurd (omega arith)
    go false e = omega arith

module _ (w : Parts) where
  -- q, after the start, is an allowed walk of h steps that visits the goals and stays on the last
  pub record Served (h : ℕ) (q : List ℕ) : Type 0 where
    pub long : length q ≡ h
    pub stands : T (w.stand 0 w.start)
    pub goes : Goes w 0 w.start q
    pub visits : after w w.start w.fresh q ≡ w.whole
    pub stays : finish w.end (w.start ∷ q) ≤ h

  abbrev pub finish_at : List ℕ → ℕ
  finish_at q = finish w.end (w.start ∷ q)

  -- the first of least finish, and none exactly if there is none
  abbrev pub FirstOfLeast : ℕ → Option (List ℕ) → Type 0
  FirstOfLeast h None = (q : List ℕ) → ¬ Served h q
  FirstOfLeast h (Some p) =
      (q : List ℕ) × (p ≡ w.start ∷ q) × Served h q
      × ((r : List ℕ) → Served h r → (finish_at q < finish_at r) ⊎ ((finish_at q ≡ finish_at r) × Before (w.start ∷ q) (w.start ∷ r)))

  -- to stay raises no label
  abbrev pub Settled : ℕ → ℕ → Type 0
  Settled u k = u ≡ w.end → w.raise w.end w.end k ≡ k

  after_stay : (k m : ℕ) → w.raise w.end w.end k ≡ k → after w w.end k (replicate m w.end) ≡ k
  after_stay k zero e = refl
  after_stay k (suc m) e = subst (λ (x : ℕ). after w w.end x (replicate m w.end) ≡ k) (sym e) (after_stay k m e)

  goes_rest : (m t : ℕ) → Goes w t w.end (replicate m w.end) → T (rest w m t)
  goes_rest zero t g = tt
  goes_rest (suc m) t g = and_both (pass w t w.end w.end) (rest w m (suc t)) g.0 (goes_rest m (suc t) g.1)

  rest_goes : (m t : ℕ) → T (rest w m t) → Goes w t w.end (replicate m w.end)
  rest_goes zero t r = tt
  rest_goes (suc m) t r = (and_left (pass w t w.end w.end) (rest w m (suc t)) r, rest_goes m (suc t) (and_right (pass w t w.end w.end) (rest w m (suc t)) r))

module _ (w : Parts) (L : Laws w) (at_start : Settled w w.start w.fresh) (at_step : (u v k : ℕ) → Settled w v (w.raise u v k)) where
  -- a walk with all goals visited meets its finish
  walk_meets : (m n t u k : ℕ) (q : List ℕ) → Settled w u k → Goes w t u q → after w u k q ≡ w.whole → finish w.end (u ∷ q) ≡ n → length q ≡ n + m
      → Meets w m n t u k q × ((s : ℕ) → s ≡ t + n → T (rest w m s))
  walk_meets m zero t u k q z g a f l =
      let h = finish_zero w.end u q f in
      let e : w.end ≡ u = eqb→eq w.end u (and_left (eqb w.end u) (all (eqb w.end) q) h) in
      let x : q ≡ replicate m w.end = same_all w.end q m (and_right (eqb w.end u) (all (eqb w.end) q) h) (omega arith) in
      let y : after w u k q ≡ k = rw (x, ← e) (after_stay w k m (z (sym e))) in
      ((sym e, sym y ∙ a, x), λ s i. let j : s ≡ t = omega arith in rw j (goes_rest w m t (subst (λ (v : ℕ). Goes w t v (replicate m w.end)) (sym e) (rw x at g))))
  walk_meets m (suc n) t u k [] z g a f l = absurd (omega arith)
  walk_meets m (suc n) t u k (v ∷ q) z g a f l =
      let r = walk_meets m n (suc t) v (w.raise u v k) q (at_step u v k) g.1 a (finish_suc w.end u (v ∷ q) n f) (omega arith) in
      ((g.0, r.0), λ s i. r.1 s (omega arith))

  meets_walk : (m n t u k : ℕ) (q : List ℕ) → Meets w m n t u k q → (s : ℕ) → s ≡ t + n → T (rest w m s)
      → Goes w t u q × (after w u k q ≡ w.whole) × (length q ≡ n + m) × (finish w.end (u ∷ q) ≤ n)
  meets_walk m zero t u k q (a, b, c) s i r =
      let z : s ≡ t = omega arith in
      rw (a, b, c) (
        rest_goes w m t (rw (← z) r),
        after_stay w w.whole m L.full,
        omega (arith, length-replicate m w.end),
        finish_all w.end (w.end ∷ replicate m w.end) (all_same w.end (suc m)),
      )
  meets_walk m (suc n) t u k [] e s i r = absurd e
  meets_walk m (suc n) t u k (v ∷ q) e s i r =
      let h = meets_walk m n (suc t) v (w.raise u v k) q e.1 s (omega arith) r in
      ((e.0, h.0), h.1, omega (arith, h.2), finish_next w.end u (v ∷ q) n h.3)

  pub served_at : (h : ℕ) (q : List ℕ) → Served w h q → (n m : ℕ) → finish_at w q ≡ n → n + m ≡ h → At w m n q
  served_at h q v n m f e =
      let r = walk_meets m n 0 w.start w.fresh q at_start v.goes v.visits f (omega (arith, v.long)) in
      record { rests = r.1 n (omega arith); stands = v.stands; meets = r.0 }

  pub at_served : (h : ℕ) (q : List ℕ) (n m : ℕ) → n + m ≡ h → At w m n q → Served w h q × (finish_at w q ≤ n)
  at_served h q n m e a =
      let x = meets_walk m n 0 w.start w.fresh q a.meets n (omega arith) a.rests in
      (record { long = omega (arith, x.2); stands = a.stands; goes = x.0; visits = x.1; stays = omega (arith, x.3) }, x.3)

  -- (3), (4) in the words of the finish
  pub by_finish : (h : ℕ) (o : Option (List ℕ)) → Right w h o → FirstOfLeast w h o
  by_finish h None r = λ q v. r q (finish_at w q) (h - finish_at w q) (omega (arith, v.stays)) (served_at h q v (finish_at w q) (h - finish_at w q) refl (omega (arith, v.stays)))
  by_finish h (Some p) (q, n, m, e, i, a, least-of, first_of) =
      let v = at_served h q n m i a in
      let no_less : (r : List ℕ) → Served w h r → n ≤ finish_at w r
      = λ r y. least-of r (finish_at w r) (h - finish_at w r) (omega (arith, y.stays)) (served_at h r y (finish_at w r) (h - finish_at w r) refl (omega (arith, y.stays))) in
      let f : finish_at w q ≡ n = omega (arith, v.1, no_less q v.0) in
      (q, e, v.0, λ r y. ⊎_elim (λ g. inr (f ∙ g, first_of r (served_at h r y n m (sym g) i))) (λ g. inl (omega arith)) (eq-or-lt_of_le (no_less r y)))
