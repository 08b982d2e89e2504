-- The one function on layers, run forward and backward, gives the least path. Assumes nothing.
use Rattle.std.proofs.Common.{ℕ, zero, suc, ◌+◌, ◌-◌, ◌≤◌, ◌<◌, zero-le, max, ◌≡◌, refl, sym, ap, ◌∙◌, subst, ◌↔◌, ⊎_elim, Bool, true, false, cond, ◌&&◌, List, [], ◌∷◌, reverse, eq-or-lt_of_le, le_refl, arith, length, T, eqb, ltb, ltb→lt, lt→ltb, eqb-true}
use Rattle.std.proofs.lemmas.Bool.{cases_lt}
use Rattle.deck.proofs.Members.{Mem}
use Rattle.deck.specs.Sheet.{Sheet, start_of, goals_of, last_goal}
use Rattle.deck.specs.declared.Carrier.{Carrier}
use Rattle.deck.specs.declared.Task.{Task}
use Rattle.deck.specs.declared.Constraint.{Constraint}
use Rattle.meaning.proofs.Tests.{same_test}
use Rattle.kernel.specs.Layers.{Parts, best, first_of, lift, pass, front, back, rest, good, next, trace}
use Rattle.kernel.specs.Goals.{up, lowered}
use Rattle.kernel.specs.Labels.{all_goals, first_label, raised}
use Rattle.kernel.specs.Parts.{parts_of}
use Rattle.kernel.specs.Kernel.{fore, hind, onward, follow}
use Rattle.kernel.proofs.Both.{and_left, and_right, and_both}
use Rattle.kernel.proofs.Labels.{up_mono}
use Rattle.kernel.proofs.OfTask.{raised_le, before_step, after_step}
use Rattle.kernel.proofs.Choice.{best_some, best_all, best_lift}
use Rattle.kernel.proofs.Reverse.{backward_as_forward}

pub best_same : (ok : ℕ → Bool) (f g : ℕ → ℕ) → ((x : ℕ) → f x ≡ g x) → (l : List ℕ) → best ok f l ≡ best ok g l
best_same ok f g h [] = refl
best_same ok f g h (x ∷ l) = rw (h x, best_same ok f g h l)

-- a test that does not rest on the element, and one that masks the values
best_and : (a : ℕ → Bool) (c : Bool) (f : ℕ → ℕ) (l : List ℕ) → best (λ x. a x && c) f l ≡ cond c (best a f l) 0
best_and a true f [] = refl
best_and a false f [] = refl
best_and a true f (x ∷ l) = go (a x) (best_and a true f l)
  where
    go : (b : Bool) → best (λ x. a x && true) f l ≡ best a f l
        → cond (b && true) (max (f x) (best (λ x. a x && true) f l)) (best (λ x. a x && true) f l) ≡ cond b (max (f x) (best a f l)) (best a f l)
    go true i = rw i
    go false i = i
best_and a false f (x ∷ l) = go (a x) (best_and a false f l)
  where
    go : (b : Bool) → best (λ x. a x && false) f l ≡ 0 → cond (b && false) (max (f x) (best (λ x. a x && false) f l)) (best (λ x. a x && false) f l) ≡ 0
    go true i = i
    go false i = i

best_mask : (a c : ℕ → Bool) (f : ℕ → ℕ) (l : List ℕ) → best (λ x. a x && c x) f l ≡ best a (λ x. cond (c x) (f x) 0) l
best_mask a c f [] = refl
best_mask a c f (x ∷ l) = go (a x) (c x) (best_mask a c f l)
  where
    go : (b e : Bool) → best (λ x. a x && c x) f l ≡ best a (λ x. cond (c x) (f x) 0) l
        → cond (b && e) (max (f x) (best (λ x. a x && c x) f l)) (best (λ x. a x && c x) f l)
        ≡ cond b (max (cond e (f x) 0) (best a (λ x. cond (c x) (f x) 0) l)) (best a (λ x. cond (c x) (f x) 0) l)
    go true true i = rw i
    go true false i = omega arith
    go false e i = i

pub first_same : (a b : ℕ → Bool) → ((x : ℕ) → a x ≡ b x) → (l : List ℕ) → first_of a l ≡ first_of b l
first_same a b h [] = refl
first_same a b h (x ∷ l) = rw (h x, first_same a b h l)

-- staying, time by time
pub rest_iff : (w : Parts) (m t : ℕ) → T (rest w m t) ↔ ((s : ℕ) → t ≤ s → s < t + m → T (pass w s w.end w.end))
rest_iff w zero t = (λ r s a b. absurd (omega arith), λ h. tt)
rest_iff w (suc m) t =
    let i = rest_iff w m (suc t) in (
      λ r s a b. ⊎_elim
          (λ e. subst (λ (x : ℕ). T (pass w x w.end w.end)) e (and_left (pass w t w.end w.end) (rest w m (suc t)) r))
          (λ l. i.0 (and_right (pass w t w.end w.end) (rest w m (suc t)) r) s l (omega arith)) (eq-or-lt_of_le a),
      λ h. and_both (pass w t w.end w.end) (rest w m (suc t)) (h t (le_refl t) (omega arith)) (i.1 (λ s a b. h s (omega arith) (omega arith))),
    )

module _ (d : Sheet) (i : Carrier) (j : Task) (cs : List Constraint) where
  abbrev w : Parts
  w = parts_of d i j cs

  abbrev gs : List ℕ
  gs = goals_of d j

  -- forward, the greatest is taken first and raised at the place itself
  front_plain : (t v : ℕ) → front w (suc t) v ≡ lift (up v gs) (best (λ u. pass w t u v) (front w t) (w.preds v))
  unfolding raised
  front_plain t v = best_lift (λ u. pass w t u v) (up v gs) (front w t) (up_mono v gs) (w.preds v)

  pub fore_front : (t v : ℕ) → fore d i j cs t v ≡ front w t v
  unfolding fore first_label
  fore_front zero v = go (eqb v (start_of d i)) refl
    where
      none_here : (c : Bool) → ◌≡◌ {A = ℕ} (cond c 0 0) 0
      none_here true = refl
      none_here false = refl

      go : (b : Bool) → eqb v (start_of d i) ≡ b → cond (w.stand 0 v) (lift (up v gs) (cond b 1 0)) 0 ≡ cond (b && w.stand 0 (start_of d i)) (suc (up (start_of d i) gs 0)) 0
      go true e = ap (λ (x : ℕ). cond (w.stand 0 x) (suc (up x gs 0)) 0) (eqb-true v (start_of d i) e)
      go false e = none_here (w.stand 0 v)
  fore_front (suc t) v =
      ap (λ (x : ℕ). cond (w.stand (suc t) v) (lift (up v gs) x) 0) (best_same (λ u. w.step t u v) (fore d i j cs t) (front w t) (fore_front t) (w.preds v))
      ∙ go (w.stand (suc t) v) (best (λ u. w.step t u v) (front w t) (w.preds v))
      ∙ ap (lift (up v gs)) (sym (best_and (λ u. w.step t u v) (w.stand (suc t) v) (front w t) (w.preds v)))
      ∙ sym (front_plain t v)
    where
      go : (c : Bool) (b : ℕ) → cond c (lift (up v gs) b) 0 ≡ lift (up v gs) (cond c b 0)
      go true b = refl
      go false b = refl

  back_le : (n t u : ℕ) → back w n t u ≤ suc (length gs)
  back_le zero t u = go (eqb u (last_goal d j))
    where
      go : (b : Bool) → cond b 1 0 ≤ suc (length gs)
      go true = omega arith
      go false = zero-le
  back_le (suc n) t u = ⊎_elim
      (λ h. let r = best_some (λ v. pass w t u v) (λ v. lowered v gs (back w n (suc t) v)) (w.succs u) (suc (length gs)) h in absurd (omega (arith, r.3)))
      (λ h. h) (cases_lt (suc (length gs)) (back w (suc n) t u))

  -- a step by which the task is finished n steps later: so it is from where the step goes
  pub good_back : (n t u k v : ℕ) → k ≤ all_goals d j → Mem v (w.succs u) → T (good w n t u k v) → all_goals d j < k + back w (suc n) t u
  good_back n t u k v l m g =
      let a = before_step d j i cs u v k (back w n (suc t) v) (ltb→lt w.whole (w.raise u v k + back w n (suc t) v) (and_right (pass w t u v) _ g)) in
      omega (arith, best_all (λ y. pass w t u y) (λ y. w.lower u y (back w n (suc t) y)) m (and_left (pass w t u v) _ g))

  -- and where it can be finished, there is such a step
  pub back_good : (n t u k : ℕ) → k ≤ all_goals d j → all_goals d j < k + back w (suc n) t u → (v : ℕ) × Mem v (w.succs u) × T (good w n t u k v)
  back_good n t u k l h =
      let r = best_some (λ y. pass w t u y) (λ y. w.lower u y (back w n (suc t) y)) (w.succs u) (all_goals d j - k) (omega arith) in
      let a = after_step d j i cs u r.0 k (back w n (suc t) r.0) l (omega (arith, r.3)) in
      (r.0, r.1, and_both (pass w t u r.0) _ r.2 (lt→ltb w.whole (w.raise u r.0 k + back w n (suc t) r.0) a))

  pub hind_back : (n t u : ℕ) → hind d i j cs n t u ≡ cond (w.stand t u) (lowered u gs (back w n t u)) 0
  unfolding hind
  hind_back zero t u = ap (λ (x : ℕ). cond (w.stand t u) x 0) (sym (backward_as_forward u gs (back w zero t u) (back_le zero t u)))
  hind_back (suc n) t u =
      ap (λ (x : ℕ). cond (w.stand t u) (lift (up u (reverse gs)) x) 0)
      (best_same (w.step t u) (hind d i j cs n (suc t)) (λ v. cond (w.stand (suc t) v) (lowered v gs (back w n (suc t) v)) 0) (hind_back n (suc t)) (w.succs u)
      ∙ sym (best_mask (w.step t u) (w.stand (suc t)) (λ v. lowered v gs (back w n (suc t) v)) (w.succs u)))
      ∙ ap (λ (x : ℕ). cond (w.stand t u) x 0) (sym (backward_as_forward u gs (back w (suc n) t u) (back_le (suc n) t u)))

  pub onward_good : (n t u k : ℕ) → k ≤ all_goals d j → (v : ℕ) → onward d i j cs n t u k v ≡ good w n t u k v
  unfolding onward
  onward_good n t u k l v = rw (hind_back n (suc t) v) (go (w.step t u v) (w.stand (suc t) v) (before_step d j i cs u v k (back w n (suc t) v), after_step d j i cs u v k (back w n (suc t) v) l))
    where
      go : (a c : Bool) → (all_goals d j < raised d j u v k + back w n (suc t) v → all_goals d j < k + lowered v gs (back w n (suc t) v)) × (all_goals d j < k + lowered v gs (back w n (suc t) v) → all_goals d j < raised d j u v k + back w n (suc t) v)
          → (a && ltb (all_goals d j) (k + cond c (lowered v gs (back w n (suc t) v)) 0)) ≡ ((a && c) && ltb (all_goals d j) (raised d j u v k + back w n (suc t) v))
      go false c h = refl
      go true true h =
          same_test (ltb (all_goals d j) (k + lowered v gs (back w n (suc t) v))) (ltb (all_goals d j) (raised d j u v k + back w n (suc t) v))
          (λ x. lt→ltb (all_goals d j) (raised d j u v k + back w n (suc t) v) (h.1 (ltb→lt (all_goals d j) (k + lowered v gs (back w n (suc t) v)) x)))
          (λ x. lt→ltb (all_goals d j) (k + lowered v gs (back w n (suc t) v)) (h.0 (ltb→lt (all_goals d j) (raised d j u v k + back w n (suc t) v) x)))
      go true false h = same_test (ltb (all_goals d j) (k + 0)) false (λ x. absurd (omega (arith, ltb→lt (all_goals d j) (k + 0) x))) (λ x. absurd x)

  pub follow_trace : (m n t u k : ℕ) → k ≤ all_goals d j → follow d i j cs m n t u k ≡ trace w m n t u k
  unfolding follow
  follow_trace m zero t u k l = refl
  follow_trace m (suc n) t u k l =
      let v : ℕ = next w n t u k in
      ap (λ (x : ℕ). x ∷ follow d i j cs m n (suc t) x (raised d j u x k)) (first_same (onward d i j cs n t u k) (good w n t u k) (onward_good n t u k l) (w.succs u))
      ∙ ap (λ (q : List ℕ). v ∷ q) (follow_trace m n (suc t) v (raised d j u v k) (raised_le d j u v k l))
