-- The path that is traced, place by place, and the words that are written. Assumes nothing.
use Rattle.std.proofs.lemmas.Bool.{cases_lt}
use Prim.Native.Nat.{ℕ, zero, suc, ◌+◌, ◌-◌, ◌≤◌, ◌<◌}
use Rattle.std.proofs.Common.{◌≡◌, refl, sym, ap, ◌∙◌, subst, ⊎_elim, List, ◌∷◌, eq-or-lt_of_le, add-one, arith, length, get_or, drop, set, replicate, length-append, length-drop, length-set, drop-drop, get_or-drop, get_or-append-add, get_or-set_same, get_or-set_other, ext_get_or, T}
use Rattle.std.proofs.lemmas.List.{length-replicate, get_or-replicate}
use Rattle.std.proofs.Math.ListN.{get_or-append}
use Rattle.deck.specs.Sheet.{Sheet, free, start_of, last_goal}
use Rattle.deck.specs.Calls.{overwrite}
use Rattle.deck.specs.declared.Carrier.{Carrier}
use Rattle.deck.specs.declared.Task.{Task}
use Rattle.deck.specs.declared.Constraint.{Constraint}
use Rattle.kernel.specs.Layers.{first_of}
use Rattle.kernel.specs.Labels.{first_label, raised}
use Rattle.kernel.specs.Near.{near}
use Rattle.kernel.specs.Kernel.{onward, follow, path_at, OnTime}
use Rattle.kernel.proofs.Follow.{next_on_time}
use Rattle.layers.specs.Fill.{Filled}

module _ (d : Sheet) (i : Carrier) (j : Task) (cs : List Constraint) (end : ℕ) where
  abbrev m : ℕ
  m = d.horizon - end

  abbrev whole : List ℕ
  whole = path_at d i j cs (d.horizon - end) end

  length_follow : (n t u k : ℕ) → length (follow d i j cs m n t u k) ≡ n + m
  unfolding follow
  length_follow zero t u k = length-replicate m (last_goal d j) ∙ omega arith
  length_follow (suc n) t u k = let e = length_follow n (suc t) (first_of (onward d i j cs n t u k) (near d u)) (raised d j u (first_of (onward d i j cs n t u k) (near d u)) k) in omega arith

  pub whole_length : end ≤ d.horizon → length whole ≡ suc d.horizon
  unfolding path_at
  whole_length l = omega (arith, length_follow end 0 (start_of d i) (first_label d i j))

  pub whole_first : get_or whole 0 0 ≡ start_of d i
  unfolding path_at
  whole_first = refl

  -- where the trace is at t: the places up to t are written, the rest is what follows, and it is in time
  pub record Traced (before out : List ℕ) (u k t : ℕ) : Type 0 where
    pub written : Filled 1 (t + 1) (λ p. get_or whole p 0) before out
    pub rest : drop (t + 1) whole ≡ follow d i j cs m (end - t) t u k
    pub time : OnTime d i j cs (end - t) t u k

  pub traced_first : (before : List ℕ) → OnTime d i j cs end 0 (start_of d i) (first_label d i j) → {u k : ℕ} → u ≡ start_of d i
      → k ≡ first_label d i j → Traced before before u k 0
  unfolding path_at
  traced_first before o {u} {k} e f =
      let z : end - 0 ≡ end = omega arith in
      record {
        written = record { size = refl; inside = λ p a b. absurd (omega arith); below = λ p a. refl; above = λ p a. refl };
        rest = rw (z, e, f) refl;
        time = rw (z, e, f) o;
      }

  -- the next place
  module _ (start : T (free d (start_of d i))) {before out : List ℕ} {u k t : ℕ} (tr : Traced before out u k t) (l : t < end) {v c : ℕ}
      (ev : v ≡ first_of (onward d i j cs (end - (t + 1)) t u k) (near d u)) (ec : c ≡ raised d j u v k) where
    steps_left : end - t ≡ suc (end - (t + 1))
    steps_left = omega arith

    unfolds : drop (t + 1) whole ≡ v ∷ follow d i j cs m (end - (t + 1)) (suc t) v c
    unfolding follow
    unfolds = tr.rest ∙ rw (steps_left, ec, ev) refl

    pub next_time : OnTime d i j cs (end - (t + 1)) (t + 1) v c
    next_time =
        let o : OnTime d i j cs (suc (end - (t + 1))) t u k = subst (λ (n : ℕ). OnTime d i j cs n t u k) steps_left tr.time in
        rw (ec, ev) (subst (λ (y : ℕ). OnTime d i j cs (end - (t + 1)) y (first_of (onward d i j cs (end - (t + 1)) t u k) (near d u)) (raised d j u (first_of (onward d i j cs (end - (t + 1)) t u k) (near d u)) k)) (sym (add-one t))
        (next_on_time d i j cs start (end - (t + 1)) t u k o))

    pub traced_next : (w : ℕ) → w ≡ v → t + 1 < length before → Traced before (set out (t + 1) w) v c (t + 1)
    traced_next w e room = record {
      written = record {
        size = length-set out (t + 1) w ∙ tr.written.size;
        inside = λ p a b. ⊎_elim
            (λ q. let x : p ≡ t + 1 = omega arith in rw x (get_or-set_same out (t + 1) w 0 (omega (arith, tr.written.size)) ∙ e ∙ sym at_next))
            (λ q. get_or-set_other out (t + 1) p w 0 (omega arith) ∙ tr.written.inside p a (omega arith)) (eq-or-lt_of_le b);
        below = λ p a. get_or-set_other out (t + 1) p w 0 (omega arith) ∙ tr.written.below p a;
        above = λ p a. get_or-set_other out (t + 1) p w 0 (omega arith) ∙ tr.written.above p (omega arith);
      };
      rest = sym (drop-drop 1 (t + 1) whole) ∙ ap (drop 1) unfolds ∙ ap (λ (y : ℕ). follow d i j cs m (end - (t + 1)) y v c) (sym (add-one t));
      time = next_time;
    }
      where
        at_next : get_or (path_at d i j cs (d.horizon - end) end) (t + 1) 0 ≡ v
        at_next =
            let z : t + 1 + 0 ≡ t + 1 = omega arith in
            subst (λ (y : ℕ). get_or (path_at d i j cs (d.horizon - end) end) y 0 ≡ v) z (sym (get_or-drop (t + 1) (path_at d i j cs (d.horizon - end) end) 0 0) ∙ ap (λ (y : List ℕ). get_or y 0 0) unfolds)

  -- all places are written
  pub all_written : end ≤ d.horizon → (out one two three : List ℕ) (u k w g t lo hi : ℕ) → suc d.horizon ≤ length out → one ≡ set out 0 w → w ≡ start_of d i
      → Traced one two u k t → t ≡ end → Filled lo hi (λ _. g) two three → lo ≡ end + 1 → hi ≡ suc d.horizon → g ≡ last_goal d j → three ≡ overwrite whole out
  unfolding follow
  all_written l out one two three u k w g t lo hi room e1 ew tr et f elo ehi eg =
      ext_get_or 0 three (overwrite whole out) lengths (λ p b. at p b)
    where
      long : length whole ≡ suc d.horizon
      long = whole_length l

      lengths : length three ≡ length (overwrite whole out)
      lengths =
          let a = length-append whole (drop (length whole) out) in
          let b = length-drop (length whole) out in
          omega (arith, f.size, tr.written.size, ap length e1, length-set out 0 w, long)

      stays : drop (end + 1) whole ≡ replicate m (last_goal d j)
      stays =
          let z : end - end ≡ 0 = omega arith in
          subst (λ (y : ℕ). drop (y + 1) whole ≡ follow d i j cs m (end - y) y u k) et tr.rest ∙ ap (λ (y : ℕ). follow d i j cs m y end u k) z

      late : (p : ℕ) → end < p → p < suc d.horizon → get_or whole p 0 ≡ last_goal d j
      late p a b =
          let z : end + 1 + (p - (end + 1)) ≡ p = omega arith in
          subst (λ (y : ℕ). get_or whole y 0 ≡ last_goal d j) z
          (sym (get_or-drop (end + 1) whole (p - (end + 1)) 0) ∙ ap (λ (y : List ℕ). get_or y (p - (end + 1)) 0) stays ∙ get_or-replicate m (p - (end + 1)) (last_goal d j) 0 (omega arith))

      first_place : get_or two 0 0 ≡ get_or whole 0 0
      first_place =
          let b : get_or two 0 0 ≡ get_or one 0 0 = tr.written.below 0 (omega arith) in
          let c : get_or one 0 0 ≡ w = ap (λ (y : List ℕ). get_or y 0 0) e1 ∙ get_or-set_same out 0 w 0 (omega arith) in
          b ∙ c ∙ ew ∙ sym whole_first

      early : (p : ℕ) → p ≤ end → get_or three p 0 ≡ get_or whole p 0
      early p a = f.below p (omega arith) ∙ ⊎_elim
          (λ q. tr.written.inside p q (omega arith))
          (λ q. let z : p ≡ 0 = omega arith in rw z first_place) (cases_lt 0 p)

      at : (p : ℕ) → p < length three → get_or three p 0 ≡ get_or (overwrite whole out) p 0
      at p b = ⊎_elim
          (λ h.
          ⊎_elim (λ q. early p (omega arith)) (λ q. f.inside p (omega arith) (omega arith) ∙ eg ∙ sym (late p (omega arith) h)) (cases_lt p (end + 1))
          ∙ sym (get_or-append whole (drop (length whole) out) 0 p (omega (arith, long))))
          (λ h.
          let z : p ≡ length whole + (p - length whole) = omega (arith, long) in
          f.above p (omega arith) ∙ tr.written.above p (omega arith) ∙ (ap (λ (y : List ℕ). get_or y p 0) e1 ∙ get_or-set_other out 0 p w 0 (omega arith))
          ∙ subst (λ (y : ℕ). get_or out y 0 ≡ get_or (overwrite whole out) y 0) (sym z)
          (sym (get_or-append-add whole (drop (length whole) out) (p - length whole) 0 ∙ get_or-drop (length whole) out (p - length whole) 0)))
          (cases_lt p (suc d.horizon))
