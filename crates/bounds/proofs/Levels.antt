-- The bounds of a label in the table, out of a layer that passed the test; and the table, filled label by label. Assumes nothing.
use Rattle.std.proofs.Common.{ℕ, suc, ◌+◌, ◌-◌, ◌*◌, ◌≤◌, ◌<◌, ◌≡◌, sym, ap, ◌∙◌, subst, ◌⊎◌, inl, inr, List, eq-or-lt_of_le, arith, length, get_or, T}
use Rattle.deck.specs.Sheet.{Sheet, read, area, free, goals_of, last_goal}
use Rattle.deck.specs.declared.Task.{Task}
use Rattle.meaning.proofs.Paths.{free_meant}
use Rattle.sheet.proofs.Accepted.{width_range, height_range, area_range, goals_range, goal_on_grid, last_of}
use Rattle.kernel.specs.Parts.{step_free}
use Rattle.kernel.proofs.Both.{and_both}
use Rattle.kernel.proofs.OfSheet.{step_free_meant}
use Rattle.bars.specs.Padded.{pad_of, MaskOf}
use Rattle.bars.specs.Ways.{move_by, place_by, way_back, leaves, opens_by}
use Rattle.bars.proofs.Gates.{shade_gate, opens_shade}
use Rattle.bars.proofs.Grid.{pad_least, pad_most, size_of, size_small}
use Rattle.bars.proofs.Leads.{leads, step_way}
use Rattle.layers.specs.Fill.{Filled}
use Rattle.passes.specs.Ready.{GoalsOf}
use Rattle.bounds.specs.Graded.{Even, LayerBounds, Given, Graded}

-- a step from u to v goes by a way by which u may be left; from v the way back leads to u
pub layer_step : (d : Sheet) (mask x : List ℕ) → MaskOf d mask → Even x mask (d.width + 2) ((d.width + 2) * (d.height + 1)) → (u v : ℕ) → T (step_free d u v)
    → get_or x (pad_of d.width u) 0 ≤ suc (get_or x (pad_of d.width v) 0)
layer_step d mask x m even u v h =
    let r = (step_free_meant d u v).fact h in
    let on = r.0.on_grid in
    let s = step_way d u v on h in
    let y : ℕ = s.0.by in
    let within : y < 5 = s.0.within in
    let k = leads d u on y within s.0.has in
    let q : ℕ = place_by d u y in
    let back : move_by (d.width + 2) (pad_of d.width q) (way_back y) ≡ pad_of d.width u =
    sym (leads d q k.inside (way_back y) (omega arith) k.has_back).padded ∙ ap (pad_of d.width) k.back in
    let twice : way_back (way_back y) ≡ y = omega arith in
    let free-u : T (free d u) = (free_meant d u).test r.0 in
    let free-q : T (free d q) = subst (λ (z : ℕ). T (free d z)) s.0.to ((free_meant d v).test r.1.0) in
    let opened : T (opens_by (get_or mask (move_by (d.width + 2) (pad_of d.width q) (way_back y)) 0) (way_back (way_back y))) =
    rw (back, twice, m.inside u on, opens_shade d u y within) (and_both (free d u) (leaves d u y) free-u s.1) in
    subst (λ (z : ℕ). get_or x (pad_of d.width u) 0 ≤ suc (get_or x (pad_of d.width z) 0)) (sym s.0.to)
    (subst (λ (z : ℕ). get_or x z 0 ≤ suc (get_or x (pad_of d.width q) 0)) back
    (even (pad_of d.width q) (way_back y) (pad_least d q k.inside) (pad_most d q k.inside)
    (rw (m.inside q k.inside) (omega (arith, (shade_gate d q).lets free-q))) (omega arith) opened))

-- the bounds of a label stand in the table from `at` on, at most `base` on the goal g; what lies after them is as it was
pub record Level (d : Sheet) (at g base : ℕ) (before after : List ℕ) : Type 0 where
  pub size : length after ≡ length before
  pub steps : (u v : ℕ) → T (step_free d u v) → get_or after (at + u) 0 ≤ suc (get_or after (at + v) 0)
  pub goal : get_or after (at + g) 0 ≤ base
  pub beyond : (p : ℕ) → at + area d ≤ p → get_or after p 0 ≡ get_or before p 0

module _ (d : Sheet) (mask x : List ℕ) (at : ℕ) (before after : List ℕ) (f : Filled at (at + d.width * d.height) (λ p. get_or x (pad_of d.width (p - at)) 0) before after) where
  copied : (u : ℕ) → u < area d → get_or after (at + u) 0 ≡ get_or x (pad_of d.width u) 0
  copied u h =
      let e : at + u - at ≡ u = omega arith in
      f.inside (at + u) (omega arith) (omega arith) ∙ ap (λ (k : ℕ). get_or x (pad_of d.width k) 0) e

  level_at : MaskOf d mask → (goal base g : ℕ) → LayerBounds mask d.width d.height goal base x → goal ≡ pad_of d.width g → g < area d → Level d at g base before after
  level_at m goal base g l e h = record {
    size = f.size;
    steps = λ u v s.
        let r = (step_free_meant d u v).fact s in
        omega (arith, copied u r.0.on_grid, copied v r.1.0.on_grid, layer_step d mask x m l.even u v s);
    goal = let k : get_or x (pad_of d.width g) 0 ≤ base = subst (λ (p : ℕ). get_or x p 0 ≤ base) e l.ends in omega (arith, copied g h);
    beyond = λ p a. f.above p a;
  }

-- the same in the numbers of the code
pub level_made : (d : Sheet) (mask x : List ℕ) {w h : ℕ} → w ≡ d.width → h ≡ d.height → (at : ℕ) (before after : List ℕ)
    → Filled at (at + w * h) (λ p. get_or x (pad_of w (p - at)) 0) before after → MaskOf d mask → (goal base g : ℕ) → LayerBounds mask w h goal base x → goal ≡ pad_of d.width g
    → g < area d → Level d at g base before after
level_made d mask x {w} {h} ew eh at before after f m goal base g l e o =
    level_at d mask x at before after
    (subst (λ (b : ℕ). Filled at (at + d.width * b) (λ p. get_or x (pad_of d.width (p - at)) 0) before after) eh
    (subst (λ (a : ℕ). Filled at (at + a * h) (λ p. get_or x (pad_of a (p - at)) 0) before after) ew f)) m goal base g
    (subst (λ (b : ℕ). LayerBounds mask d.width b goal base x) eh (subst (λ (a : ℕ). LayerBounds mask a h goal base x) ew l)) e o

module _ (d : Sheet) (j : Task) (small : area d ≤ 1024) where
  abbrev gs : List ℕ
  gs = goals_of d j

  -- all goals visited
  pub graded_last : (before after : List ℕ) → length before ≡ 9216 → Level d (1024 * length gs) (last_goal d j) 0 before after → Graded d j (length gs) after
  graded_last before after z l = record {
    size = l.size ∙ z;
    smooth = λ m u v a b s. let e : length gs ≡ m = omega arith in subst (λ (k : ℕ). get_or after (1024 * k + u) 0 ≤ suc (get_or after (1024 * k + v) 0)) e (l.steps u v s);
    enters = λ m a b. absurd (omega arith);
    ends = omega (arith, l.goal);
  }

  -- one goal more to visit
  pub graded_more : (k : ℕ) → k < length gs → (base : ℕ) (before after : List ℕ) → Graded d j (suc k) before → Level d (1024 * k) (get_or gs k 0) base before after
      → base ≤ get_or before (1024 * suc k + get_or gs k 0) 0 → Graded d j k after
  graded_more k h base before after g l b = record {
    size = l.size ∙ g.size;
    smooth = λ m u v a c s. smooth m u v s c (eq-or-lt_of_le a);
    enters = λ m a c. enters m c (eq-or-lt_of_le a);
    ends = l.beyond (1024 * length gs + last_goal d j) (omega arith) ∙ g.ends;
  }
    where
      smooth : (m u v : ℕ) → T (step_free d u v) → m ≤ length gs → (k ≡ m) ⊎ (k < m) → get_or after (1024 * m + u) 0 ≤ suc (get_or after (1024 * m + v) 0)
      smooth m u v s c (inl e) = subst (λ (n : ℕ). get_or after (1024 * n + u) 0 ≤ suc (get_or after (1024 * n + v) 0)) e (l.steps u v s)
      smooth m u v s c (inr i) = omega (arith, l.beyond (1024 * m + u) (omega arith), l.beyond (1024 * m + v) (omega arith), g.smooth m u v i c s)

      enters : (m : ℕ) → m < length gs → (k ≡ m) ⊎ (k < m) → get_or after (1024 * m + get_or gs m 0) 0 ≤ get_or after (1024 * suc m + get_or gs m 0) 0
      enters m c (inl e) = subst (λ (n : ℕ). get_or after (1024 * n + get_or gs n 0) 0 ≤ get_or after (1024 * suc n + get_or gs n 0) 0) e
          (omega (arith, l.goal, l.beyond (1024 * suc k + get_or gs k 0) (omega arith)))
      enters m c (inr i) = omega (arith, l.beyond (1024 * m + get_or gs m 0) (omega arith), l.beyond (1024 * suc m + get_or gs m 0) (omega arith), g.enters m i c)

module _ (s : List ℕ) (j : Task) (mask : List ℕ) (g : Given s j mask) where
  abbrev d : Sheet
  d = read s

  abbrev K : ℕ
  K = length (goals_of d j)

  pub few : (1 ≤ K) × (K ≤ 8)
  few = goals_range s g.accepted j.0 g.task_in

  -- what the code asks
  module _ {w h : ℕ} (ew : w ≡ d.width) (eh : h ≡ d.height) where
    module _ (goals : List ℕ) (G : GoalsOf s j goals) where
      pub goal_small : (k : ℕ) → k < K → get_or goals k 0 < 1156
      goal_small k l =
          let v : ℕ = get_or (goals_of d j) k 0 in
          let o = goal_on_grid s g.accepted j k in
          omega (arith, G.at k (omega (arith, G.many)), pad_most d v o, size_of d.width d.height, size_small d.width d.height (width_range s g.accepted).1 (height_range s g.accepted).1, (width_range s g.accepted).1, (height_range s g.accepted).1)

      -- the level of the label k
      level_of : (k at base : ℕ) (x before after : List ℕ) → k < K → LayerBounds mask w h (get_or goals k 0) base x
          → Filled at (at + w * h) (λ p. get_or x (pad_of w (p - at)) 0) before after → Level d at (get_or (goals_of d j) k 0) base before after
      level_of k at base x before after l y f =
          level_made d mask x ew eh at before after f g.masked (get_or goals k 0) base (get_or (goals_of d j) k 0) y (G.at k (omega (arith, G.many))) (goal_on_grid s g.accepted j k)

      pub one_level : (k base : ℕ) (x before after : List ℕ) → k < K → Graded d j (suc k) before → base ≡ get_or before (1024 * (k + 1) + get_or (goals_of d j) k 0) 0
          → LayerBounds mask w h (get_or goals k 0) base x → Filled (1024 * k) (1024 * k + w * h) (λ p. get_or x (pad_of w (p - 1024 * k)) 0) before after → Graded d j k after
      one_level k base x before after l r e y f =
          let i : 1024 * (k + 1) + get_or (goals_of d j) k 0 ≡ 1024 * suc k + get_or (goals_of d j) k 0 = omega arith in
          graded_more d j (area_range s g.accepted).1 k l base before after r (level_of k (1024 * k) base x before after l y f)
          (omega (arith, e, ap (λ (z : ℕ). get_or before z 0) i))

      pub two_levels : (n : ℕ) → n ≡ K → (x first before after : List ℕ) → length first ≡ 9216 → LayerBounds mask w h (get_or goals (n - 1) 0) 0 x
          → Filled (1024 * n) (1024 * n + w * h) (λ p. get_or x (pad_of w (p - 1024 * n)) 0) first before
          → Filled (1024 * (n - 1)) (1024 * (n - 1) + w * h) (λ p. get_or x (pad_of w (p - 1024 * (n - 1))) 0) before after → Graded d j (n - 1) after
      two_levels n e x first before after z y f1 f2 =
          let l : n - 1 < K = omega (arith, few) in
          let q : suc (n - 1) ≡ K = omega (arith, few) in
          let last : get_or (goals_of d j) (n - 1) 0 ≡ last_goal d j = ap (λ (k : ℕ). get_or (goals_of d j) (k - 1) 0) e ∙ sym (last_of (goals_of d j)) in
          let top = level_of (n - 1) (1024 * n) 0 x first before l y f1 in
          let all : Graded d j K before =
          graded_last d j (area_range s g.accepted).1 first before z
          (subst (λ (v : ℕ). Level d (1024 * K) v 0 first before) last (subst (λ (k : ℕ). Level d (1024 * k) (get_or (goals_of d j) (n - 1) 0) 0 first before) e top)) in
          graded_more d j (area_range s g.accepted).1 (n - 1) l 0 before after (subst (λ (k : ℕ). Graded d j k before) (sym q) all)
          (level_of (n - 1) (1024 * (n - 1)) 0 x before after l y f2) (omega arith)
