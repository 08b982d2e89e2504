-- The two passes mean what they should. Assumes nothing.
use Rattle.std.proofs.Common.{ℕ, zero, suc, ◌+◌, ◌-◌, ◌≤◌, ◌<◌, ◌≡◌, refl, Bool, true, false, cond, ◌&&◌, List, [], ◌∷◌, not-suc-le-zero, arith, T, eqb, eqb→eq}
use Rattle.deck.proofs.Members.{Mem}
use Rattle.std.proofs.Math.Dec.{eqb_refl}
use Rattle.kernel.proofs.Both.{and_left}
use Rattle.meaning.specs.Sorted.{Sorted}
use Rattle.kernel.specs.Layers.{Parts, pass, lift, front, back}
use Rattle.kernel.proofs.Choice.{best_some, best_all, lift_mono}

-- what the passes assume of their parts
pub record Laws (w : Parts) : Type 0 where
  -- the lists have each place that a step may lead to, or come from, the one list rising
  pub onward : (t u v : ℕ) → T (w.step t u v) → Mem v (w.succs u)
  pub behind : (t u v : ℕ) → T (w.step t u v) → Mem u (w.preds v)
  pub rising : (u : ℕ) → Sorted ◌<◌ (w.succs u)
  -- a larger label stays larger, and is at most the whole
  pub begun : w.fresh ≤ w.whole
  pub mono : (u v k j : ℕ) → k ≤ j → w.raise u v k ≤ w.raise u v j
  pub within : (u v k : ℕ) → k ≤ w.whole → w.raise u v k ≤ w.whole
  -- the whole stays whole on the last goal
  pub full : w.raise w.end w.end w.whole ≡ w.whole
  -- what suffices before a step to v, and after it
  pub before : (u v k b : ℕ) → w.whole < w.raise u v k + b → w.whole < k + w.lower u v b
  pub beyond : (u v k b : ℕ) → k ≤ w.whole → w.whole < k + w.lower u v b → w.whole < w.raise u v k + b

module _ (w : Parts) where
  -- being on u at t one may go over the places of p
  abbrev pub Goes : ℕ → ℕ → List ℕ → Type 0
  Goes t u [] = Unit {0}
  Goes t u (v ∷ p) = T (pass w t u v) × Goes (suc t) v p

  -- the label after the places of p, one after the other
  abbrev pub after : ℕ → ℕ → List ℕ → ℕ
  after u k [] = k
  after u k (v ∷ p) = after v (w.raise u v k) p

  -- an allowed walk of t steps from the start is on v with the label k
  abbrev pub Reach : ℕ → ℕ → ℕ → Type 0
  Reach zero v k = (v ≡ w.start) × T (w.stand 0 w.start) × (k ≡ w.fresh)
  Reach (suc t) v k = (u : ℕ) × (j : ℕ) × Reach t u j × T (pass w t u v) × (k ≡ w.raise u v j)

  -- with the label k on u at t one can be, n steps later, on the last goal with all goals visited
  abbrev pub Ends : ℕ → ℕ → ℕ → ℕ → Type 0
  Ends zero t u k = (u ≡ w.end) × (w.whole ≤ k)
  Ends (suc n) t u k = (v : ℕ) × T (pass w t u v) × Ends n (suc t) v (w.raise u v k)

  pub step_of : (t u v : ℕ) → T (pass w t u v) → T (w.step t u v)
  step_of t u v h = and_left (w.step t u v) (w.stand (suc t) v) h

module _ (w : Parts) (L : Laws w) where
  -- (1) dominance: a continuation that finishes from a smaller label finishes from a larger one
  pub after_mono : (u k j : ℕ) (p : List ℕ) → k ≤ j → after w u k p ≤ after w u j p
  after_mono u k j [] h = h
  after_mono u k j (v ∷ p) h = after_mono v (w.raise u v k) (w.raise u v j) p (L.mono u v k j h)

  pub after_within : (u k : ℕ) (p : List ℕ) → k ≤ w.whole → after w u k p ≤ w.whole
  after_within u k [] h = h
  after_within u k (v ∷ p) h = after_within v (w.raise u v k) p (L.within u v k h)

  pub dominance : (u k j : ℕ) (p : List ℕ) → k ≤ j → j ≤ w.whole → after w u k p ≡ w.whole → after w u j p ≡ w.whole
  dominance u k j p h l e = omega (arith, after_mono u k j p h, after_within u j p l)

  pub ends_mono : (n t u k j : ℕ) → k ≤ j → Ends w n t u k → Ends w n t u j
  ends_mono zero t u k j h e = (e.0, omega (arith, e.1))
  ends_mono (suc n) t u k j h (v, p, e) = (v, p, ends_mono n (suc t) v (w.raise u v k) (w.raise u v j) (L.mono u v k j h) e)

  -- (2) forward: what is found is reached, and what is reached is found
  pub front_some : (t v k : ℕ) → k < front w t v → (j : ℕ) × (k ≤ j) × Reach w t v j
  front_some zero v k h = go (eqb v w.start) refl (w.stand 0 w.start) refl h
    where
      go : (a : Bool) → eqb v w.start ≡ a → (b : Bool) → w.stand 0 w.start ≡ b → k < cond (a && b) (suc w.fresh) 0 → (j : ℕ) × (k ≤ j) × Reach w zero v j
      go true e true f h = (w.fresh, omega arith, (eqb→eq v w.start (rw e tt), rw f tt, refl))
      go true e false f h = absurd (not-suc-le-zero h)
      go false e b f h = absurd (not-suc-le-zero h)
  front_some (suc t) v k h =
      let r = best_some (λ u. pass w t u v) (λ u. lift (w.raise u v) (front w t u)) (w.preds v) k h in
      go r.0 r.2 (front w t r.0) refl r.3 (λ j. front_some t r.0 j)
    where
      go : (u : ℕ) → T (pass w t u v) → (b : ℕ) → front w t u ≡ b → k < lift (w.raise u v) b → ((j : ℕ) → j < front w t u → (i : ℕ) × (j ≤ i) × Reach w t u i)
          → (j : ℕ) × (k ≤ j) × Reach w (suc t) v j
      go u p zero e h ih = absurd (not-suc-le-zero h)
      go u p (suc b) e h ih =
          let q = ih b (omega (arith, e)) in
          (w.raise u v q.0, omega (arith, L.mono u v b q.0 q.1), (u, q.0, q.2, p, refl))

  pub front_all : (t v k : ℕ) → Reach w t v k → k < front w t v
  front_all zero v k r = rw (r.0, r.2) (go (eqb w.start w.start) (w.stand 0 w.start) (eqb_refl w.start) r.1)
    where
      go : (a b : Bool) → T a → T b → w.fresh < cond (a && b) (suc w.fresh) 0
      go true true s t = omega arith
      go true false s t = absurd t
      go false b s t = absurd s
  front_all (suc t) v k (u, j, r, s, e) =
      let h = lift_mono (w.raise u v) (L.mono u v) j (front w t u) (front_all t u j r) in
      let m = best_all (λ x. pass w t x v) (λ x. lift (w.raise x v) (front w t x)) (L.behind t u v (step_of w t u v s)) s in
      rw e (omega arith)

  -- (2) backward: with at most all goals visited, the label suffices exactly if the layer says so
  pub back_some : (n t u k : ℕ) → k ≤ w.whole → w.whole < k + back w n t u → Ends w n t u k
  back_some zero t u k l h = go (eqb u w.end) refl h
    where
      go : (b : Bool) → eqb u w.end ≡ b → w.whole < k + cond b 1 0 → Ends w zero t u k
      go true e h = (eqb→eq u w.end (rw e tt), omega arith)
      go false e h = absurd (omega arith)
  back_some (suc n) t u k l h =
      let r = best_some (λ v. pass w t u v) (λ v. w.lower u v (back w n (suc t) v)) (w.succs u) (w.whole - k) (omega arith) in
      let v : ℕ = r.0 in
      (v, r.2, back_some n (suc t) v (w.raise u v k) (L.within u v k l) (L.beyond u v k (back w n (suc t) v) l (omega (arith, r.3))))

  pub back_all : (n t u k : ℕ) → Ends w n t u k → w.whole < k + back w n t u
  back_all zero t u k (e, h) = rw e (go (eqb w.end w.end) (eqb_refl w.end))
    where
      go : (b : Bool) → T b → w.whole < k + cond b 1 0
      go true s = omega arith
      go false s = absurd s
  back_all (suc n) t u k (v, s, r) =
      let h = L.before u v k (back w n (suc t) v) (back_all n (suc t) v (w.raise u v k) r) in
      let m = best_all (λ x. pass w t u x) (λ x. w.lower u x (back w n (suc t) x)) (L.onward t u v (step_of w t u v s)) s in
      omega arith
