-- The trace is the first walk among those that finish first. Assumes nothing.
use Rattle.std.proofs.Common.{ℕ, zero, suc, ◌+◌, ◌≤◌, ◌<◌, ◌≡◌, refl, sym, subst, ◌⊎◌, inl, inr, List, [], ◌∷◌, Option, None, Some, eq-or-lt_of_le, arith, replicate, T, ltb→lt, lt→ltb}
use Rattle.meaning.specs.Meaning.{Before}
use Rattle.meaning.proofs.Before.{before_refl}
use Rattle.kernel.proofs.Both.{and_left, and_right, and_both}
use Rattle.kernel.specs.Layers.{Parts, pass, front, back, rest, good, next, trace}
use Rattle.kernel.proofs.Choice.{first_passes, first_least}
use Rattle.kernel.proofs.Passes.{Laws, Reach, Ends, step_of, front_some, front_all, back_some, back_all}

module _ (w : Parts) where
  -- q, after u at t with the label k, is on the last goal n steps later with all goals visited, and then stays there m steps
  abbrev pub Meets : ℕ → ℕ → ℕ → ℕ → ℕ → List ℕ → Type 0
  Meets m zero t u k q = (u ≡ w.end) × (k ≡ w.whole) × (q ≡ replicate m w.end)
  Meets m (suc n) t u k [] = ⊥
  Meets m (suc n) t u k (v ∷ q) = T (pass w t u v) × Meets m n (suc t) v (w.raise u v k) q

  -- from the start one may be on the last goal at n with all goals visited, and stay there m steps
  pub record Can (m n : ℕ) : Type 0 where
    pub rests : T (rest w m n)
    pub stands : T (w.stand 0 w.start)
    pub comes : Ends w n 0 w.start w.fresh

  -- q, after the start, is a walk that does so
  pub record At (m n : ℕ) (q : List ℕ) : Type 0 where
    pub rests : T (rest w m n)
    pub stands : T (w.stand 0 w.start)
    pub meets : Meets m n 0 w.start w.fresh q

  -- p is the first walk of those that finish at the least time; none if none finishes
  abbrev pub Right : ℕ → Option (List ℕ) → Type 0
  Right h None = (q : List ℕ) (n m : ℕ) → n + m ≡ h → ¬ At m n q
  Right h (Some p) =
      (q : List ℕ) × (n : ℕ) × (m : ℕ) × (p ≡ w.start ∷ q) × (n + m ≡ h) × At m n q
      × ((r : List ℕ) (a b : ℕ) → a + b ≡ h → At b a r → n ≤ a)
      × ((r : List ℕ) → At m n r → Before (w.start ∷ q) (w.start ∷ r))

  meets_ends : (m n t u k : ℕ) (q : List ℕ) → Meets m n t u k q → Ends w n t u k
  meets_ends m zero t u k q e = (e.0, omega (arith, e.1))
  meets_ends m (suc n) t u k [] e = absurd e
  meets_ends m (suc n) t u k (v ∷ q) e = (v, e.0, meets_ends m n (suc t) v (w.raise u v k) q e.1)

  pub at_can : (m n : ℕ) (q : List ℕ) → At m n q → Can m n
  at_can m n q a = record { rests = a.rests; stands = a.stands; comes = meets_ends m n 0 w.start w.fresh q a.meets }

  -- a walk to a state and a continuation from it are a walk from the start, and the reverse
  reach_ends : (t n u k : ℕ) → Reach w t u k → Ends w n t u k → (s : ℕ) → s ≡ t + n → Ends w s 0 w.start w.fresh × T (w.stand 0 w.start)
  reach_ends zero n u k (a, b, c) e s h =
      let i : s ≡ n = omega arith in
      let y : Ends w n 0 u w.fresh = subst (λ (x : ℕ). Ends w n 0 u x) c e in
      (rw i (subst (λ (x : ℕ). Ends w n 0 x w.fresh) a y), b)
  reach_ends (suc t) n u k (x, j, r, p, c) e s h = reach_ends t (suc n) x j r (u, p, rw (← c) e) s (omega arith)

  ends_reach : (n t u k : ℕ) → Ends w n t u k → Reach w t u k → (s : ℕ) → s ≡ t + n → (j : ℕ) × (w.whole ≤ j) × Reach w s w.end j
  ends_reach zero t u k (a, b) r s h = let i : s ≡ t = omega arith in (k, b, rw i (subst (λ (x : ℕ). Reach w t x k) a r))
  ends_reach (suc n) t u k (v, p, e) r s h = ends_reach n (suc t) v (w.raise u v k) e (u, k, r, p, refl) s (omega arith)

module _ (w : Parts) (L : Laws w) where
  -- (3) what the layers say of the time n at which all goals are visited
  pub front_can : (m n : ℕ) → T (rest w m n) → w.whole < front w n w.end → Can w m n
  front_can m n r h =
      let a = front_some w L n w.end w.whole h in
      let b = reach_ends w n 0 w.end a.0 a.2 (refl, a.1) n (omega arith) in
      record { rests = r; stands = b.1; comes = b.0 }

  pub can_front : (m n : ℕ) → Can w m n → w.whole < front w n w.end
  can_front m n c =
      let r = ends_reach w n 0 w.start w.fresh c.comes (refl, c.stands, refl) n (omega arith) in
      omega (arith, r.1, front_all w L n w.end r.0 r.2)

  pub back_can : (m n : ℕ) → T (rest w m n) → T (w.stand 0 w.start) → w.whole < w.fresh + back w n 0 w.start → Can w m n
  back_can m n r s h = record { rests = r; stands = s; comes = back_some w L n 0 w.start w.fresh L.begun h }

  pub can_back : (m n : ℕ) → Can w m n → w.whole < w.fresh + back w n 0 w.start
  can_back m n c = back_all w L n 0 w.start w.fresh c.comes

  pub good_of : (n t u k v : ℕ) → T (pass w t u v) → Ends w n (suc t) v (w.raise u v k) → T (good w n t u k v)
  good_of n t u k v p e =
      and_both (pass w t u v) _ p (lt→ltb w.whole (w.raise u v k + back w n (suc t) v) (back_all w L n (suc t) v (w.raise u v k) e))

  -- (4) the trace meets the time, where it can be met
  pub trace_meets : (m n t u k : ℕ) → k ≤ w.whole → Ends w n t u k → Meets w m n t u k (trace w m n t u k)
  trace_meets m zero t u k l e = (e.0, omega (arith, e.1), refl)
  trace_meets m (suc n) t u k l (v, p, e) =
      let g = (first_passes (good w n t u k) (L.onward t u v (step_of w t u v p)) (good_of n t u k v p e)).0 in
      let x = next w n t u k in
      let h = ltb→lt w.whole (w.raise u x k + back w n (suc t) x) (and_right (pass w t u x) _ g) in
      let i = L.within u x k l in
      (and_left (pass w t u x) _ g, trace_meets m n (suc t) x (w.raise u x k) i (back_some w L n (suc t) x (w.raise u x k) i h))

  -- (4) and comes before each that does
  pub trace_first : (m n t u k : ℕ) (q : List ℕ) → Meets w m n t u k q → Before (trace w m n t u k) q
  trace_first m zero t u k q e = rw e.2 (before_refl (replicate m w.end))
  trace_first m (suc n) t u k [] e = absurd e
  trace_first m (suc n) t u k (v ∷ q) (p, e) =
      let g = good_of n t u k v p (meets_ends w m n (suc t) v (w.raise u v k) q e) in
      let l = first_least (good w n t u k) (w.succs u) (L.rising u) (L.onward t u v (step_of w t u v p)) g in
      go (eq-or-lt_of_le l) (trace_first m n (suc t) v (w.raise u v k) q e)
    where
      go : (next w n t u k ≡ v) ⊎ (next w n t u k < v) → Before (trace w m n (suc t) v (w.raise u v k)) q → Before (trace w m (suc n) t u k) (v ∷ q)
      go (inl x) h = inr (x, subst (λ (y : ℕ). Before (trace w m n (suc t) y (w.raise u y k)) q) (sym x) h)
      go (inr x) h = inl x

  -- (3) what can be done a walk does: the trace
  pub can_at : (m n : ℕ) → Can w m n → At w m n (trace w m n 0 w.start w.fresh)
  can_at m n c = record { rests = c.rests; stands = c.stands; meets = trace_meets m n 0 w.start w.fresh L.begun c.comes }

  -- (4) from the least time, however it is found, the trace is the first walk of least finish
  pub traced_right : (h n m : ℕ) → n + m ≡ h → Can w m n → ((a b : ℕ) → a + b ≡ h → Can w b a → n ≤ a)
      → Right w h (Some (w.start ∷ trace w m n 0 w.start w.fresh))
  traced_right h n m e c l = (
    trace w m n 0 w.start w.fresh,
    n,
    m,
    refl,
    e,
    can_at m n c,
    λ r a b i x. l a b i (at_can w b a r x),
    λ r x. inr (refl, trace_first m n 0 w.start w.fresh r x.meets),
  )

  pub none_right : (h : ℕ) → ((n m : ℕ) → n + m ≡ h → ¬ Can w m n) → Right w h None
  none_right h l = λ q n m e a. l n m e (at_can w m n q a)
