-- When a state can finish: when a way from it does; and the words that a walk writes. Assumes nothing.
use Rattle.std.proofs.lemmas.Bool.{cases_lt}
use Prim.Native.Nat.{ℕ, zero, suc, ◌+◌, ◌-◌, ◌≤◌, ◌<◌, zero-le}
use Rattle.std.proofs.Common.{◌≡◌, refl, sym, ap, ◌∙◌, subst, ⊎_elim, Bool, true, false, cond, ◌&&◌, List, ◌∷◌, eq-or-lt_of_le, add-one, arith, length, get_or, drop, set, length-set, replicate, length-append, length-drop, get_or-set_same, get_or-set_other, get_or-append-add, get_or-drop, ext_get_or, T, eqb, ltb→lt, lt→ltb, eq-eqb, eqb-true}
use Rattle.std.proofs.Math.Decide.{ℕ_discrete}
use Rattle.std.proofs.lemmas.List.{length-replicate, get_or-replicate}
use Rattle.std.proofs.Math.ListN.{get_or-append}
use Rattle.deck.specs.Sheet.{Sheet, area, start_of, last_goal}
use Rattle.deck.specs.Calls.{overwrite}
use Rattle.deck.specs.declared.Carrier.{Carrier}
use Rattle.deck.specs.declared.Task.{Task}
use Rattle.deck.specs.declared.Constraint.{Constraint}
use Rattle.meaning.proofs.Tests.{Says, is_true}
use Rattle.kernel.specs.Layers.{Parts, pass, back, good, next, trace}
use Rattle.kernel.specs.Labels.{all_goals, first_label, raised}
use Rattle.kernel.specs.Parts.{parts_of}
use Rattle.kernel.specs.Kernel.{hind, path_at}
use Rattle.kernel.proofs.Both.{and_left, and_right, and_both}
use Rattle.kernel.proofs.OfTask.{first_label_le}
use Rattle.kernel.proofs.Kernel.{good_back, back_good, follow_trace}
use Rattle.kernel.proofs.Least.{hind_meets}
use Rattle.meaning.proofs.Lists.{get_or_same}
use Rattle.bars.specs.Ways.{place_by, has_by}
use Rattle.bars.proofs.Leads.{mem_by, first_by, none_by}
use Rattle.layers.specs.Fill.{Filled}
use Rattle.std.specs.Prelude.{Result, Ok, Err, Some}
use Rattle.first_walk.specs.declared.CutOff.{CutOff}
use Rattle.first_walk.specs.declared.spot.Spot.{Spot}
use Rattle.first_walk.specs.Slots.{code_of}
use Rattle.first_walk.specs.Walk.{Meets, Fails, goes_by, on_from, Written, Dead, DivedBy, Dived, LedBy, Led}
use Rattle.first_walk.specs.Steps.{SeenFrom}

module _ (d : Sheet) (i : Carrier) (j : Task) (cs : List Constraint) where
  abbrev w : Parts
  w = parts_of d i j cs

  -- the last goal with all goals visited, and nothing else, is a finish
  pub back_zero : (t u k : ℕ) → k ≤ all_goals d j → Says (eqb u (last_goal d j) && eqb k (all_goals d j)) (all_goals d j < k + back w 0 t u)
  back_zero t u k l = record { fact = fact (eqb u (last_goal d j)) refl; test = test (eqb u (last_goal d j)) refl }
    where
      fact : (b : Bool) → eqb u (last_goal d j) ≡ b → T (b && eqb k (all_goals d j)) → all_goals d j < k + cond b 1 0
      fact true e t = let q = eqb-true k (all_goals d j) (is_true (eqb k (all_goals d j)) t) in omega arith
      fact false e t = absurd t

      test : (b : Bool) → eqb u (last_goal d j) ≡ b → all_goals d j < k + cond b 1 0 → T (b && eqb k (all_goals d j))
      test true e h = let q : k ≡ all_goals d j = omega arith in rw (eq-eqb k (all_goals d j) q) tt
      test false e h = absurd (omega arith)

  -- the walk stays on the last goal
  pub trace_late : (m n t u k p : ℕ) → n ≤ p → p < n + m → get_or (trace w m n t u k) p 0 ≡ last_goal d j
  trace_late m zero t u k p a b = get_or-replicate m p (last_goal d j) 0 (omega arith)
  trace_late m (suc n) t u k zero a b = absurd (omega arith)
  trace_late m (suc n) t u k (suc p) a b = trace_late m n (suc t) (next w n t u k) (w.raise u (next w n t u k) k) p (omega arith) (omega arith)

  pub trace_length : (m n t u k : ℕ) → length (trace w m n t u k) ≡ n + m
  trace_length m zero t u k = length-replicate m (last_goal d j) ∙ omega arith
  trace_length m (suc n) t u k = let e = trace_length m n (suc t) (next w n t u k) (w.raise u (next w n t u k) k) in omega arith

module _ (d : Sheet) (i : Carrier) (j : Task) (cs : List Constraint) (end : ℕ) where
  abbrev parts : Parts
  parts = parts_of d i j cs

  -- one word more in front
  written_more : (t u k : ℕ) (g : ℕ → ℕ) (before after : List ℕ) (x : ℕ) → x ≡ u → t ≤ end → end < length before
      → Filled (t + 1) (end + 1) g before after → ((p : ℕ) → t < p → p < end + 1 → g p ≡ get_or (on_from d i j cs end t u k) (p - t) 0)
      → Written d i j cs end t u k before (set after t x)
  written_more t u k g before after x e l room f h = record {
    size = length-set after t x ∙ f.size;
    inside = λ p a b. ⊎_elim
        (λ q. let y : p ≡ t = omega arith in let o : p - t ≡ 0 = omega arith in rw (o, y) (get_or-set_same after t x 0 (omega (arith, f.size)) ∙ e))
        (λ q. get_or-set_other after t p x 0 (omega arith) ∙ f.inside p (omega arith) b ∙ h p q b) (eq-or-lt_of_le a);
    below = λ p a. get_or-set_other after t p x 0 (omega arith) ∙ f.below p (omega arith);
    above = λ p a. get_or-set_other after t p x 0 (omega arith) ∙ f.above p a;
  }

  -- at the end
  pub ends_here : (t u k : ℕ) (before : List ℕ) (x : ℕ) → x ≡ u → t ≡ end → k ≤ all_goals d j → end < length before
      → T (eqb u (last_goal d j) && eqb k (all_goals d j)) → Dived d i j cs end t u k before (set before t x) (Ok true)
  ends_here t u k before x e h l room g =
      let o : end - t ≡ 0 = omega arith in
      record {
        says = (
          rw o ((back_zero d i j cs t u k l).fact g),
          written_more t u k (λ _. 0) before before x e (omega arith) room
              (record { size = refl; inside = λ p a b. absurd (omega arith); below = λ p a. refl; above = λ p a. refl }) (λ p a b. absurd (omega arith)),
        );
      }

  pub ends_not : (t u k : ℕ) (before : List ℕ) → t ≡ end → k ≤ all_goals d j → ¬ T (eqb u (last_goal d j) && eqb k (all_goals d j))
      → Dived d i j cs end t u k before before (Ok false)
  ends_not t u k before h l g =
      let o : end - t ≡ 0 = omega arith in
      record { says = (rw o (⊎_elim (λ m. absurd (g ((back_zero d i j cs t u k l).test m))) (λ m. m) (cases_lt (all_goals d j) (k + back parts 0 t u))), refl) }

  module _ (t u k : ℕ) (on : u < area d) (l : t < end) (label : k ≤ all_goals d j) where
    steps_left : end - t ≡ suc (end - (t + 1))
    steps_left = omega arith

    goes : ℕ → Bool
    goes y = good parts (end - (t + 1)) t u k y

    -- by no way
    pub goes_nowhere : ((y : ℕ) → y < 5 → ¬ T (goes_by d i j cs end t u k y)) → Fails d i j cs end t u k
    unfolding goes
    goes_nowhere h = rw steps_left (⊎_elim
        (λ m. let r = back_good d i j cs (end - (t + 1)) t u k label m in absurd (none_by d u on goes h r.0 r.1 r.2))
        (λ m. m) (cases_lt (all_goals d j) (k + back parts (suc (end - (t + 1))) t u)))

    -- by the way x, the first
    pub goes_on : (x : ℕ) → x < 5 → ((y : ℕ) → y < x → ¬ T (goes_by d i j cs end t u k y)) → (before after : List ℕ) (z : ℕ) → z ≡ u → end < length before
        → Led d i j cs end t u k x before after (Ok true) → Dived d i j cs end t u k before (set after t z) (Ok true)
    unfolding goes
    goes_on x lx h before after z e room ld =
        let g = ld.says.0 in
        let f = ld.says.1 in
        let q : place_by d u x ≡ next parts (end - (t + 1)) t u k = first_by d u on goes x lx g h in
        record {
          says = (
            rw steps_left (good_back d i j cs (end - (t + 1)) t u k (place_by d u x) label (mem_by d u on x lx (and_left (has_by d u x) _ g)) (and_right (has_by d u x) _ g)),
            written_more t u k _ before after z e (omega arith) room f (λ p a b. at q p a),
          );
        }
      where
        at : place_by d u x ≡ next parts (end - (t + 1)) t u k → (p : ℕ) → t < p
            → get_or (on_from d i j cs end (t + 1) (place_by d u x) (raised d j u (place_by d u x) k)) (p - (t + 1)) 0 ≡ get_or (on_from d i j cs end t u k) (p - t) 0
        at q p a =
            let y : ℕ = p - (t + 1) in
            let o : p - t ≡ suc (p - (t + 1)) = omega arith in
            let n : ℕ = next parts (end - (t + 1)) t u k in
            ap (λ (b : ℕ). get_or (b ∷ trace parts (d.horizon - end) (end - (t + 1)) (t + 1) b (raised d j u b k)) y 0) q
            ∙ ap (λ (b : ℕ). get_or (n ∷ trace parts (d.horizon - end) (end - (t + 1)) b n (raised d j u n k)) y 0) (add-one t)
            ∙ sym (ap (λ (b : ℕ). get_or (u ∷ trace parts (d.horizon - end) b t u k) (p - t) 0) steps_left ∙ ap (λ (b : ℕ). get_or (u ∷ trace parts (d.horizon - end) (suc (end - (t + 1))) t u k) b 0) o)

  -- what is remembered
  pub dead_none : Dead d i j cs end (replicate 1024 0)
  dead_none = record { size = length-replicate {A = ℕ} 1024 0; fails = λ x t u k a b c e. absurd (omega (arith, get_or_same {A = ℕ} 0 1024 x)) }

  pub dead_more : (dead after : List ℕ) (x t u k : ℕ) → t ≤ end → u < 1024 → k ≤ all_goals d j → all_goals d j ≤ 8 → x < 1024 → Fails d i j cs end t u k
      → Dead d i j cs end dead → after ≡ set dead x (code_of t u k) → Dead d i j cs end after
  dead_more dead after x t u k lt lu lk few lx f h ea = subst (Dead d i j cs end) (sym ea) (record {
    size = length-set dead x (code_of t u k) ∙ h.size;
    fails = λ y s v m a b c e. go y s v m a b c e (ℕ_discrete y x);
  })
    where
      go : (y s v m : ℕ) → s ≤ end → v < 1024 → m ≤ all_goals d j → get_or (set dead x (code_of t u k)) y 0 ≡ code_of s v m → Dec (y ≡ x) → Fails d i j cs end s v m
      go y s v m a b c e (yes q) =
          let o : code_of t u k ≡ code_of s v m = sym (get_or-set_same dead x (code_of t u k) 0 (omega (arith, h.size))) ∙ subst (λ (z : ℕ). get_or (set dead x (code_of t u k)) z 0 ≡ code_of s v m) q e in
          let es : t ≡ s = omega arith in
          let eu : u ≡ v = omega arith in
          let ek : k ≡ m = omega arith in
          rw (← es, ← eu, ← ek) f
      go y s v m a b c e (no n) = h.fails y s v m a b c (sym (get_or-set_other dead x y (code_of t u k) 0 n) ∙ e)

  abbrev whole : List ℕ
  whole = start_of d i ∷ trace (parts_of d i j cs) (d.horizon - end) end 0 (start_of d i) (first_label d i j)

  -- the words once the walk is written from the start on, with the last goal after it
  pub all_written : end ≤ d.horizon → (before two three : List ℕ) (u k g lo hi : ℕ) → u ≡ start_of d i → k ≡ first_label d i j
      → suc d.horizon ≤ length before → Written d i j cs end 0 u k before two → Filled lo hi (λ _. g) two three → lo ≡ end + 1 → hi ≡ suc d.horizon → g ≡ last_goal d j
      → three ≡ overwrite (path_at d i j cs (d.horizon - end) end) before
  unfolding path_at
  all_written l before two three u k g lo hi eu ek room f h elo ehi eg =
      ext_get_or 0 three (overwrite whole before) lengths (λ p b. at p b)
      ∙ ap (λ (y : List ℕ). overwrite (start_of d i ∷ y) before)
      (sym (follow_trace d i j cs (d.horizon - end) end 0 (start_of d i) (first_label d i j) (first_label_le d j i)))
    where
      long : length whole ≡ suc d.horizon
      long = omega (arith, trace_length d i j cs (d.horizon - end) end 0 (start_of d i) (first_label d i j))

      same : (p : ℕ) → get_or (on_from d i j cs end 0 u k) p 0 ≡ get_or whole p 0
      same p =
          let o : end - 0 ≡ end = omega arith in
          ap (λ (y : ℕ). get_or (u ∷ trace parts (d.horizon - end) y 0 u k) p 0) o ∙ ap (λ (y : ℕ). get_or (y ∷ trace parts (d.horizon - end) end 0 y k) p 0) eu
          ∙ ap (λ (y : ℕ). get_or (start_of d i ∷ trace parts (d.horizon - end) end 0 (start_of d i) y) p 0) ek

      lengths : length three ≡ length (overwrite whole before)
      lengths =
          let a = length-append whole (drop (length whole) before) in
          let b = length-drop (length whole) before in
          omega (arith, h.size, f.size, long)

      late : (p : ℕ) → end < p → p < suc d.horizon → get_or whole p 0 ≡ last_goal d j
      late zero a b = absurd (omega arith)
      late (suc p) a b = trace_late d i j cs (d.horizon - end) end 0 (start_of d i) (first_label d i j) p (omega arith) (omega arith)

      early : (p : ℕ) → p < end + 1 → get_or three p 0 ≡ get_or whole p 0
      early p a = let o : p - 0 ≡ p = omega arith in h.below p (omega arith) ∙ f.inside p zero-le a ∙ ap (λ (y : ℕ). get_or (on_from d i j cs end 0 u k) y 0) o ∙ same p

      at : (p : ℕ) → p < length three → get_or three p 0 ≡ get_or (overwrite whole before) p 0
      at p b = ⊎_elim
          (λ q.
          ⊎_elim (λ r. early p r) (λ r. h.inside p (omega arith) (omega arith) ∙ eg ∙ sym (late p (omega arith) q)) (cases_lt p (end + 1))
          ∙ sym (get_or-append whole (drop (length whole) before) 0 p (omega (arith, long))))
          (λ q.
          let y : p ≡ length whole + (p - length whole) = omega (arith, long) in
          h.above p (omega arith) ∙ f.above p (omega arith)
          ∙ subst (λ (o : ℕ). get_or before o 0 ≡ get_or (overwrite whole before) o 0) (sym y)
          (sym (get_or-append-add whole (drop (length whole) before) (p - length whole) 0 ∙ get_or-drop (length whole) before (p - length whole) 0)))
          (cases_lt p (suc d.horizon))

  -- what the walk from the start says of the backward layer there
  abbrev left : ℕ → ℕ → ℕ
  left u k = k + back parts (end - 0) 0 u

  left_start : (u k : ℕ) → u ≡ start_of d i → k ≡ first_label d i j → left u k ≡ first_label d i j + back parts end 0 (start_of d i)
  left_start u k eu ek = let o : end - 0 ≡ end = omega arith in rw (o, eu, ek) refl

  pub start_meets : T (parts.stand 0 (start_of d i)) → (u k : ℕ) → u ≡ start_of d i → k ≡ first_label d i j → Meets d i j cs end 0 u k
      → all_goals d j < hind d i j cs end 0 (start_of d i)
  start_meets s u k eu ek m = (hind_meets d i j cs end).1 (s, subst (λ (y : ℕ). all_goals d j < y) (left_start u k eu ek) m)

  pub start_fails : (u k : ℕ) → u ≡ start_of d i → k ≡ first_label d i j → Fails d i j cs end 0 u k → ¬ (all_goals d j < hind d i j cs end 0 (start_of d i))
  start_fails u k eu ek f m = let a = (hind_meets d i j cs end).0 m in omega (arith, a.1, left_start u k eu ek)

  -- the start is barred at time 0
  pub start_barred : (b : Bool) → b ≡ parts.stand 0 (start_of d i) → b ≡ false → ¬ (all_goals d j < hind d i j cs end 0 (start_of d i))
  start_barred b e g m = subst T (sym e ∙ g) ((hind_meets d i j cs end).0 m).0

-- What a look and the walk from where it leads say together
module _ (d : Sheet) (i : Carrier) (j : Task) (cs : List Constraint) (end t u k x : ℕ) where
  abbrev steps : ℕ
  steps = end - (t + 1)

  module _ (n : Spot) (s : SeenFrom d i j cs end t u k x (Some n)) where
    abbrev y : ℕ
    y = n.place

    abbrev c : ℕ
    c = n.visited

    meets_next : Meets d i j cs end (t + 1) y c → T (goes_by d i j cs end t u k x)
    meets_next m =
        let a : all_goals d j < c + back (parts_of d i j cs) steps (suc t) y = subst (λ (z : ℕ). all_goals d j < c + back (parts_of d i j cs) steps z y) (add-one t) m in
        let b : all_goals d j < raised d j u y k + back (parts_of d i j cs) steps (suc t) y = subst (λ (z : ℕ). all_goals d j < z + back (parts_of d i j cs) steps (suc t) y) s.2 a in
        let h : T (good (parts_of d i j cs) steps t u k y) = and_both (pass (parts_of d i j cs) t u y) _ s.3 (lt→ltb (all_goals d j) (raised d j u y k + back (parts_of d i j cs) steps (suc t) y) b) in
        and_both (has_by d u x) _ s.0 (subst (λ (z : ℕ). T (good (parts_of d i j cs) steps t u k z)) s.1 h)

    fails_next : Fails d i j cs end (t + 1) y c → ¬ T (goes_by d i j cs end t u k x)
    fails_next f h =
        let g : T (good (parts_of d i j cs) steps t u k y) = subst (λ (z : ℕ). T (good (parts_of d i j cs) steps t u k z)) (sym s.1) (and_right (has_by d u x) _ h) in
        let b : all_goals d j < raised d j u y k + back (parts_of d i j cs) steps (suc t) y = ltb→lt (all_goals d j) (raised d j u y k + back (parts_of d i j cs) steps (suc t) y) (and_right (pass (parts_of d i j cs) t u y) _ g) in
        let a : all_goals d j < c + back (parts_of d i j cs) steps (suc t) y = subst (λ (z : ℕ). all_goals d j < z + back (parts_of d i j cs) steps (suc t) y) (sym s.2) b in
        let m : all_goals d j < c + back (parts_of d i j cs) steps (t + 1) y = subst (λ (z : ℕ). all_goals d j < c + back (parts_of d i j cs) steps z y) (sym (add-one t)) a in
        omega arith

    pub led_of : {before after : List ℕ} {r : Result Bool CutOff} → Dived d i j cs end n.time y c before after r → Led d i j cs end t u k x before after r
    led_of {before} {after} {r} h = record { says = go r (subst (λ (z : ℕ). Dived d i j cs end z y c before after r) s.5 h).says }
      where
        go : (r : Result Bool CutOff) → DivedBy d i j cs end (t + 1) y c before after r → LedBy d i j cs end t u k x before after r
        go (Ok true) (m, f) = (
          meets_next m,
          subst (λ (z : ℕ). Written d i j cs end (t + 1) z (raised d j u z k) before after) s.1 (subst (λ (z : ℕ). Written d i j cs end (t + 1) y z before after) s.2 f),
        )
        go (Ok false) (f, e) = (fails_next f, e)
        go (Err q) e = e

  -- what the answer by a way says, by its case
  pub led_found : {now after : List ℕ} {r : Result Bool CutOff} → r ≡ Ok true → Led d i j cs end t u k x now after r → Led d i j cs end t u k x now after (Ok true)
  led_found {now} {after} e h = subst (Led d i j cs end t u k x now after) e h

  pub led_none : {now after : List ℕ} {r : Result Bool CutOff} → r ≡ Ok false → Led d i j cs end t u k x now after r → (¬ T (goes_by d i j cs end t u k x)) × (after ≡ now)
  led_none {now} {after} e h = (subst (Led d i j cs end t u k x now after) e h).says

  pub led_cut : {now after : List ℕ} {r : Result Bool CutOff} {q : CutOff} → r ≡ Err q → Led d i j cs end t u k x now after r → after ≡ now
  led_cut {now} {after} e h = (subst (Led d i j cs end t u k x now after) e h).says
