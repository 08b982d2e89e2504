-- From the walk's answers to the least path: found at the first time at which it may finish; or that time is one later. Assumes
-- nothing.
use Rattle.std.proofs.Common.{ℕ, zero, suc, ◌+◌, ◌-◌, ◌*◌, ◌≤◌, ◌<◌, ◌≡◌, refl, sym, ap, subst, ◌∙◌, Bool, true, false, List, arith, length, take, drop, length-take, length-drop, T, ltb, lt→ltb, ltb-true, ltb-false, Result, Ok, Err}
use Rattle.std.proofs.Math.Decide.{ℕ_discrete}
use Rattle.std.proofs.lemmas.Option.{none-some, same_Some as some_same}
use Rattle.deck.specs.Sheet.{Sheet, read, start_of}
use Rattle.deck.specs.Paths.{finish_of}
use Rattle.deck.specs.Calls.{constraints_of}
use Rattle.deck.specs.declared.Carrier.{Carrier}
use Rattle.deck.specs.declared.Task.{Task}
use Rattle.deck.specs.declared.Constraint.{Constraint}
use Rattle.kernel.specs.Labels.{all_goals}
use Rattle.kernel.specs.Kernel.{hind, path_at, meets_at, LeastTime, NoEarlier}
use Rattle.meaning.proofs.Tests.{is_true}
use Rattle.kernel.proofs.Least.{meets_can, hind_can, no_time_none, time_path, time_finish}
use Rattle.passes.specs.Ready.{Ready, Early}
use Rattle.passes.specs.declared.Errand.{Errand}
use Rattle.passes.proofs.Given.{begins_free, ends_free, in_time}
use Rattle.by_passes.proofs.Finding.{guess_least, answers_found}
use Rattle.first_walk.specs.Walk.{Walked}
use Rattle.first_walk.specs.declared.CutOff.{CutOff}
use Rattle.bounds.specs.Low.{Low}
use Rattle.sheet.proofs.Accepted.{count_range}
use Rattle.scratch.specs.Bounded.{Bounded, SoughtFor}

module _ (errand : Errand) where
  abbrev s : List ℕ
  s = errand.sheet.now.bytes.now

  abbrev i : Carrier
  i = errand.carrier

  abbrev j : Task
  j = errand.task

  abbrev mask : List ℕ
  mask = errand.mask.now

  abbrev rs : List ℕ
  rs = errand.records.now

  abbrev r : Ready s i j mask rs
  r = errand.ready

  abbrev d : Sheet
  d = read s

  abbrev cs : List Constraint
  cs = constraints_of rs

  -- the least time at which the task can be finished is there
  least_from : (fuel n : ℕ) → n + fuel ≡ suc d.horizon → ((k : ℕ) → k < n → ¬ T (meets_at d i j cs k)) → (t : ℕ) × LeastTime d i j cs t
  least_from zero n e fails = (n, record { meets = λ h. absurd (omega arith); first = λ k h m. absurd (fails k (omega arith) m) })
  least_from (suc fuel) n e fails = go (meets_at d i j cs n) refl (λ h. least_from fuel (suc n) (omega arith) h)
    where
      go : (b : Bool) → meets_at d i j cs n ≡ b → (((k : ℕ) → k < suc n → ¬ T (meets_at d i j cs k)) → (t : ℕ) × LeastTime d i j cs t) → (t : ℕ) × LeastTime d i j cs t
      go true q again = (n, record { meets = λ h. subst T (sym q) tt; first = λ k h m. before k m })
        where
          before : (k : ℕ) → T (meets_at d i j cs k) → n ≤ k
          before k m = go' (ltb k n) refl
            where
              go' : (c : Bool) → ltb k n ≡ c → n ≤ k
              go' true z = absurd (fails k (ltb-true k n z) m)
              go' false z = ltb-false k n z
      go false q again = again (λ k h. other k h (ℕ_discrete k n))
        where
          other : (k : ℕ) → k < suc n → Dec (k ≡ n) → ¬ T (meets_at d i j cs k)
          other k h (yes z) m = subst T (ap (meets_at d i j cs) z ∙ q) m
          other k h (no z) m = fails k (omega arith) m

  -- a time before which the task cannot be finished is no later than the finish of the least path
  pub early_bound : (from : ℕ) → Early s i j rs from → NoEarlier d i j cs from
  early_bound from e p q = go (least_from (suc d.horizon) 0 (omega arith) (λ k h. absurd (omega arith)))
    where
      go : (t : ℕ) × LeastTime d i j cs t → from ≤ finish_of d j p
      go l = by (ltb d.horizon l.0) refl
        where
          by : (b : Bool) → ltb d.horizon l.0 ≡ b → from ≤ finish_of d j p
          by true z = absurd (none-some p (sym (no_time_none d i j cs (begins_free r) (ends_free r) (in_time r) l.0 l.1 (ltb-true d.horizon l.0 z)) ∙ q))
          by false z =
              let h : l.0 ≤ d.horizon = ltb-false d.horizon l.0 z in
              let t = time_path d i j cs (begins_free r) (ends_free r) (in_time r) l.0 l.1 h in
              let f = time_finish d i j cs (begins_free r) (ends_free r) (in_time r) l.0 l.1 h in
              let g : p ≡ path_at d i j cs (d.horizon - l.0) l.0 = some_same p (path_at d i j cs (d.horizon - l.0) l.0) (sym q ∙ t) in
              omega (arith, ap (finish_of d j) g ∙ f, e.early l.0 h (l.1.meets h))

  module _ (from : ℕ) (e : Early s i j rs from) (le : from ≤ d.horizon) (before after : List ℕ) where
    -- the walk found the path
    walk_found : Walked d i j cs from before after (Ok true) → SoughtFor errand before after (Ok from)
    walk_found w =
        let t = guess_least s i j mask rs r from e le {b = true} (sym (is_true _ (lt→ltb (all_goals d j) (hind d i j cs from 0 (start_of d i)) w.0))) refl in
        answers_found s i j mask rs r from t le before after w.1

    -- no path finishes then
    walk_later : Walked d i j cs from before after (Ok false) → Early s i j rs (from + 1)
    walk_later w = record {
      stay = omega (arith, e.stay);
      early = λ n l m. next n l m (ℕ_discrete n from);
    }
      where
        next : (n : ℕ) → n ≤ d.horizon → T (meets_at d i j cs n) → Dec (n ≡ from) → from + 1 ≤ n
        next n l m (no z) = omega (arith, e.early n l m)
        next n l m (yes z) =
            let c = (meets_can d i j cs (begins_free r) (ends_free r) (in_time r) n (d.horizon - n) (omega arith)).fact m in
            absurd (w.0 (subst (λ (x : ℕ). all_goals d j < hind d i j cs x 0 (start_of d i)) z ((hind_can d i j cs (begins_free r) (ends_free r) (in_time r) n (d.horizon - n) (omega arith)).0 c).1))

  -- by the walk's answer, where nothing was written before it
  module _ (from : ℕ) (e : Early s i j rs from) (le : from ≤ d.horizon) (first before after : List ℕ) (same : before ≡ first) (a : Result Bool CutOff) (w : Walked d i j cs from before after a) where
    as_case : (b : Result Bool CutOff) → a ≡ b → Walked d i j cs from first after b
    as_case b q = subst (λ (x : List ℕ). Walked d i j cs from x after b) same (subst (Walked d i j cs from before after) q w)

    pub tried_found : a ≡ Ok true → SoughtFor errand first after (Ok from)
    tried_found q = walk_found from e le first after (as_case (Ok true) q)

    pub tried_cut : {c : CutOff} → a ≡ Err c → SoughtFor errand first after (Err (record { 0 = from }))
    tried_cut {c} q = (early_bound from e, as_case (Err c) q)

    pub tried_later : a ≡ Ok false → Early s i j rs (from + 1) × (after ≡ first)
    tried_later q = (walk_later from e le first after (as_case (Ok false) q), (as_case (Ok false) q).1)

  -- the task's part of the bounds
  module _ (bounds : List ℕ) (b : Bounded d bounds) where
    pub part_inside : 9216 * j.0 + 9216 ≤ length bounds
    part_inside = omega (arith, b.long, r.task_in, (count_range s r.accepted).1)

    pub part_is : take (9216 * j.0 + 9216 - 9216 * j.0) (drop (9216 * j.0) bounds) ≡ take 9216 (drop (9216 * j.0) bounds)
    part_is = let z : 9216 * j.0 + 9216 - 9216 * j.0 ≡ 9216 = omega arith in ap (λ (n : ℕ). take n (drop (9216 * j.0) bounds)) z

    pub part_low : Low d j (take (9216 * j.0 + 9216 - 9216 * j.0) (drop (9216 * j.0) bounds))
    part_low = subst (Low d j) (sym part_is) (b.low j r.task_in)

    pub part_long : length (take (9216 * j.0 + 9216 - 9216 * j.0) (drop (9216 * j.0) bounds)) ≡ 9216
    part_long = simp (length-take, length-drop) (omega (arith, part_inside))
