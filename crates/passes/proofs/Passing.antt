-- The code's layers are the layers of the two passes. Assumes nothing.
use Prim.Native.Nat.{ℕ, suc, ◌+◌, ◌-◌, ◌≤◌, ◌<◌}
use Rattle.std.proofs.Common.{◌≡◌, refl, sym, ap, ◌∙◌, subst, ⊎_elim, Bool, true, false, ◌&&◌, List, reverse, eq-or-lt_of_le, add-one, arith, length, get_or, replicate, T, leb, ltb, leb→le, le→leb, ltb→lt, lt→ltb}
use Rattle.std.proofs.lemmas.Bool.{cases_lt}
use Rattle.std.proofs.lemmas.List.{length-reverse, length-replicate, get_or-replicate}
use Rattle.std.proofs.Math.ListN.{get_or-eq_default}
use Rattle.deck.specs.Sheet.{Sheet, read, area, start_of, goals_of, last_goal}
use Rattle.deck.specs.Calls.{constraints_of}
use Rattle.deck.specs.declared.Carrier.{Carrier}
use Rattle.deck.specs.declared.Task.{Task}
use Rattle.deck.specs.declared.Constraint.{Constraint}
use Rattle.sheet.proofs.Accepted.{goal_on_grid, last_goal_on_grid, start_on_grid}
use Rattle.kernel.specs.Labels.{all_goals}
use Rattle.kernel.specs.Parts.{rest_from}
use Rattle.kernel.specs.Kernel.{fore, hind, meets_at, LeastTime}
use Rattle.kernel.proofs.Both.{and_left, and_right, and_both}
use Rattle.kernel.proofs.Blocked.{fore_blocked, hind_blocked}
use Rattle.kernel.proofs.Bounds.{fore_le, hind_le}
use Rattle.bars.specs.Padded.{pad_of, Holds}
use Rattle.layers.specs.Raise.{GoalsAt, Indexes}
use Rattle.layers.specs.Step.{next_layer, Ground, Labels, Margin, Stepped, Seeded}
use Rattle.layers.proofs.Stepping.{holds_margin}
use Rattle.passes.specs.Ready.{Ready, Sized, GoalsOf, Turned, Early}
use Rattle.passes.proofs.Turning.{reverse_at, goals_index}
use Rattle.passes.proofs.Given.{begins_free, ends_free, few_goals, few_labels, all_counted, pad_small}

pub holds_same : {d : Sheet} {x : List ℕ} {f g : ℕ → ℕ} → ((v : ℕ) → f v ≡ g v) → Holds d x f → Holds d x g
holds_same e h = record { size = h.size; inside = λ v l. h.inside v l ∙ e v; border = h.border }

module _ (s : List ℕ) (i : Carrier) (j : Task) (mask rs : List ℕ) (r : Ready s i j mask rs) where
  abbrev d : Sheet
  d = read s

  abbrev cs : List Constraint
  cs = constraints_of rs

  abbrev many : ℕ
  many = length (goals_of (read s) j)

  -- Labels pass through the mask whole, and vanish at blocked places
  fore_labels : (t : ℕ) → Labels d (fore d i j cs t)
  fore_labels t = record {
    small = λ v. omega (arith, fore_le d i j cs t v, few_labels r);
    blocked = fore_blocked d i j cs (begins_free r) t;
  }

  hind_labels : (n t : ℕ) → Labels d (hind d i j cs n t)
  hind_labels n t = record {
    small = λ v. omega (arith, hind_le d i j cs n t v, few_labels r);
    blocked = hind_blocked d i j cs (ends_free r) n t;
  }

  -- On a grid of the sheet's size, with these goals
  module _ (w h : ℕ) (sized : Sized s w h) where
    ground : Ground d w h mask
    ground = record { width = sym sized.0; height = sym sized.1; masked = r.masked }

    margin : {x : List ℕ} → Margin d.width d.height x → Margin w h x
    margin {x} m = rw (sized.0, sized.1) m

    goals_on : (gs goals : List ℕ) → GoalsAt d.width gs goals (length goals) → GoalsAt w gs goals (length goals)
    goals_on gs goals g = rw sized.0 g

    -- one layer on
    pub fore_next : (goals : List ℕ) → GoalsOf s j goals → (t on : ℕ) → on ≡ suc t → {src before after : List ℕ} → Holds d src (fore d i j cs t)
        → Margin d.width d.height before → Stepped w h mask i cs t on false goals (length goals) src before after → Holds d after (fore d i j cs (suc t))
    unfolding fore
    fore_next goals g t on e {src} {before} {after} hs m st =
        holds_same (λ v. ap (λ (z : ℕ). next_layer d i cs t z false (goals_of d j) (fore d i j cs t) v) e)
        (st.holds d (goals_of d j) (fore d i j cs t) ground (goals_on (goals_of d j) goals g) (fore_labels t) hs (margin m))

    -- one layer back
    pub hind_next : (goals : List ℕ) → Turned s j goals → (end t : ℕ) → t < end → {src before after : List ℕ} → Holds d src (hind d i j cs (end - (t + 1)) (t + 1))
        → Margin d.width d.height before → Stepped w h mask i cs t t true goals (length goals) src before after → Holds d after (hind d i j cs (end - t) t)
    unfolding hind
    hind_next goals g end t l {src} {before} {after} hs m st =
        let k : ℕ = end - (t + 1) in
        let e : end - t ≡ suc k = omega arith in
        let x : Holds d src (hind d i j cs k (suc t)) = subst (λ (z : ℕ). Holds d src (hind d i j cs k z)) (add-one t) hs in
        rw e (holds_same (λ v. refl) (st.holds d (reverse (goals_of d j)) (hind d i j cs k (suc t)) ground (goals_on (reverse (goals_of d j)) goals g) (hind_labels k (suc t)) x (margin m)))

    -- the first layer of each pass
    pub fore_first : (goals : List ℕ) → GoalsOf s j goals → (p : ℕ) → p ≡ pad_of w (start_of d i) → {layer : List ℕ} → Seeded w i cs 0 goals (length goals) p layer
        → Holds d layer (fore d i j cs 0)
    unfolding fore
    fore_first goals g p e sd = sd.holds d (goals_of d j) (start_of d i) (sym sized.0) (goals_on (goals_of d j) goals g) (start_on_grid s r.accepted i) e

    pub hind_first : (goals : List ℕ) → Turned s j goals → (p end : ℕ) → p ≡ pad_of w (last_goal d j) → {layer : List ℕ} → Seeded w i cs end goals (length goals) p layer
        → Holds d layer (hind d i j cs 0 end)
    unfolding hind
    hind_first goals g p end e sd = sd.holds d (reverse (goals_of d j)) (last_goal d j) (sym sized.0) (goals_on (reverse (goals_of d j)) goals g) (last_goal_on_grid s r.accepted j) e

    -- what the passes ask of their goals: at most eight, on the grid
    module _ (gs goals : List ℕ) (g : GoalsAt d.width gs goals (length goals)) where
      pub few_padded : length gs ≡ many → length goals ≤ 8
      few_padded e = omega (arith, few_goals r, g.many)

      pub padded_on : ((k : ℕ) → k < length goals → get_or gs k 0 < area d) → Indexes goals (length goals)
      padded_on on = goals_index d.width gs goals (length goals) g (λ k l. pad_small r (get_or gs k 0) (on k l))

    pub forth_on : (goals : List ℕ) → GoalsOf s j goals → (length goals ≤ 8) × Indexes goals (length goals)
    forth_on goals g = (few_padded (goals_of d j) goals g refl, padded_on (goals_of d j) goals g (λ k l. goal_on_grid s r.accepted j k))

    pub back_on : (goals : List ℕ) → Turned s j goals → (length goals ≤ 8) × Indexes goals (length goals)
    back_on goals g = (
      few_padded (reverse (goals_of d j)) goals g (length-reverse (goals_of d j)),
      padded_on (reverse (goals_of d j)) goals g (λ k l.
          let m : k < length (goals_of d j) = omega (arith, g.many, length-reverse (goals_of d j)) in
          rw (reverse_at (goals_of d j) k m) (goal_on_grid s r.accepted j (many - 1 - k))),
    )

    -- a padded place of the grid is an index of a layer
    pub place_small : {v p : ℕ} → v < area d → p ≡ pad_of w v → p < 1156
    place_small {v} l e = rw (e, sized.0) (pad_small r v l)

  -- The search for the least time: none before t
  abbrev pub NotYet : ℕ → Type 0
  NotYet t = (m : ℕ) → m < t → ¬ T (meets_at d i j cs m)

  module _ (from : ℕ) (f : Early s i j rs from) (t n p : ℕ) (l : t ≤ d.horizon) (en : n ≡ many) (ep : p ≡ pad_of (read s).width (last_goal d j)) {a : List ℕ}
      (h : Holds d a (fore d i j cs t)) {b : Bool} (eb : b ≡ (leb from t && ltb n (get_or a p 0))) where
    at_goal : get_or a p 0 ≡ fore d i j cs t (last_goal d j)
    at_goal = rw ep (h.inside (last_goal d j) (last_goal_on_grid s r.accepted j))

    pub met_true : b ≡ true → T (meets_at d i j cs t)
    unfolding meets_at
    met_true e =
        let q : T (leb from t && ltb n (get_or a p 0)) = subst T (sym e ∙ eb) tt in
        let x = leb→le from t (and_left (leb from t) (ltb n (get_or a p 0)) q) in
        let y = ltb→lt n (get_or a p 0) (and_right (leb from t) (ltb n (get_or a p 0)) q) in
        and_both (leb (rest_from d i (last_goal d j) cs) t) (ltb (all_goals d j) (fore d i j cs t (last_goal d j)))
        (le→leb (rest_from d i (last_goal d j) cs) t (omega (arith, f.stay))) (lt→ltb (all_goals d j) (fore d i j cs t (last_goal d j)) (omega (arith, at_goal, all_counted r en)))

    pub met_false : b ≡ false → ¬ T (meets_at d i j cs t)
    unfolding meets_at
    met_false e m =
        let y = ltb→lt (all_goals d j) (fore d i j cs t (last_goal d j)) (and_right (leb (rest_from d i (last_goal d j) cs) t) (ltb (all_goals d j) (fore d i j cs t (last_goal d j))) m) in
        subst T (sym eb ∙ e) (and_both (leb from t) (ltb n (get_or a p 0)) (le→leb from t (f.early t l m)) (lt→ltb n (get_or a p 0) (omega (arith, at_goal, all_counted r en))))

    pub time_here : NotYet t → b ≡ true → LeastTime d i j cs t
    time_here never e = record {
      meets = λ _. met_true e;
      first = λ m k q. ⊎_elim (λ z. absurd (never m z q)) (λ z. z) (cases_lt m t);
    }

    pub not_here : NotYet t → b ≡ false → NotYet (t + 1)
    not_here never e m k q = ⊎_elim (λ z. let y : m ≡ t = omega arith in met_false e (subst (λ (x : ℕ). T (meets_at d i j cs x)) y q)) (λ z. never m (omega arith) q) (eq-or-lt_of_le k)

  pub time_none : (t : ℕ) → NotYet t → d.horizon < t → LeastTime d i j cs t
  time_none t never h = record { meets = λ l. absurd (omega arith); first = λ m k q. absurd (never m (omega arith) q) }

-- Where the forward pass is at t: the layer of t, another to write the next to, and no time before
pub record Swept (s : List ℕ) (i : Carrier) (j : Task) (rs : List ℕ) (a b : List ℕ) (t : ℕ) : Type 0 where
  pub in_time : t ≤ (read s).horizon
  pub layer : Holds (read s) a (fore (read s) i j (constraints_of rs) t)
  pub spare : Margin (read s).width (read s).height b
  pub none_yet : (m : ℕ) → m < t → ¬ T (meets_at (read s) i j (constraints_of rs) m)

pub zeros_margin : (w h : ℕ) → Margin w h (replicate 1156 0)
zeros_margin w h = record { size = length-replicate {A = ℕ} 1156 0; over = λ p l. zeros p; under = λ p l. zeros p }
  where
    zeros : (q : ℕ) → get_or {A = ℕ} (replicate 1156 0) q 0 ≡ 0
    zeros q = ⊎_elim (λ h. get_or-replicate {A = ℕ} 1156 q 0 0 h)
        (λ h. get_or-eq_default (replicate {A = ℕ} 1156 0) 0 {n = q} (omega (arith, length-replicate {A = ℕ} 1156 0))) (cases_lt q 1156)

-- One turn of the pass: from is early, n the number of goals and p the padded last goal
module _ (s : List ℕ) (i : Carrier) (j : Task) (mask rs : List ℕ) (r : Ready s i j mask rs) (w h : ℕ) (sized : Sized s w h) (goals : List ℕ) (g : GoalsOf s j goals)
    (from : ℕ) (f : Early s i j rs from) (p : ℕ) (at : p ≡ pad_of w (last_goal (read s) j)) {a b : List ℕ} {t : ℕ} (v : Swept s i j rs a b t)
    {m : Bool} (x : m ≡ (leb from t && ltb (length goals) (get_or a p 0))) where
  here : p ≡ pad_of (read s).width (last_goal (read s) j)
  here = at ∙ ap (λ (z : ℕ). pad_of z (last_goal (read s) j)) sized.0

  never : m ≡ false → (k : ℕ) → k < t + 1 → ¬ T (meets_at (read s) i j (constraints_of rs) k)
  never e = not_here s i j mask rs r from f t (length goals) p v.in_time (sym g.many) here v.layer x v.none_yet e

  -- the task can be finished at t, the first such time
  pub ends_here : m ≡ true → LeastTime (read s) i j (constraints_of rs) t
  ends_here e = time_here s i j mask rs r from f t (length goals) p v.in_time (sym g.many) here v.layer x v.none_yet e

  -- it cannot, and there is no time left
  pub ends_late : m ≡ false → t ≡ (read s).horizon → LeastTime (read s) i j (constraints_of rs) (suc (read s).horizon)
  ends_late e z = let q : t + 1 ≡ suc (read s).horizon = omega arith in rw (← q) (time_none s i j mask rs r (t + 1) (never e) (omega arith))

  -- it cannot, and the next layer is made
  pub swept_on : m ≡ false → (t ≡ (read s).horizon → ⊥) → {c : List ℕ} {on : ℕ} → on ≡ t + 1
      → Stepped w h mask i (constraints_of rs) t on false goals (length goals) a b c → Swept s i j rs c a on
  swept_on e z {c} {on} o st =
      record {
        in_time = omega (arith, v.in_time);
        layer = let q : on ≡ suc t = omega arith in rw q (fore_next s i j mask rs r w h sized goals g t on q v.layer v.spare st);
        spare = holds_margin (read s) _ (fore (read s) i j (constraints_of rs) t) v.layer;
        none_yet = rw o (never e);
      }

-- the pass begins
pub swept_first : (s : List ℕ) (i : Carrier) (j : Task) (mask rs : List ℕ) → Ready s i j mask rs → (w h : ℕ) → Sized s w h → (goals : List ℕ) → GoalsOf s j goals → {start : ℕ} {layer : List ℕ}
    → start ≡ pad_of w (start_of (read s) i) → Seeded w i (constraints_of rs) 0 goals (length goals) start layer → Swept s i j rs layer (replicate 1156 0) 0
swept_first s i j mask rs r w h sized goals g {start} e sd = record {
  in_time = omega arith;
  layer = fore_first s i j mask rs r w h sized goals g start e sd;
  spare = zeros_margin (read s).width (read s).height;
  none_yet = λ m l. absurd (omega arith);
}
