-- The two passes with the parts of a sheet answer the least path of the definitions. Assumes nothing.
use Rattle.std.proofs.Common.{ℕ, zero, suc, ◌+◌, ◌≤◌, ◌<◌, zero-le, ◌≡◌, refl, sym, ap, ◌∙◌, subst, ◌⊎◌, ⊎_elim, ◌≢◌, ◌&&◌, not, List, [], ◌∷◌, Option, None, Some, not-suc-le-zero, le_refl, arith, length, drop, drop_of_length-le, T}
use Rattle.deck.proofs.Members.{Mem}
use Rattle.deck.specs.Sheet.{Sheet, free, start_of, goals_of, last_goal}
use Rattle.deck.specs.Paths.{left, least_path}
use Rattle.deck.specs.declared.Carrier.{Carrier}
use Rattle.deck.specs.declared.Task.{Task}
use Rattle.deck.specs.declared.Constraint.{Constraint}
use Rattle.deck.specs.declared.Constraint.TheVariants.{Place, Move}
use Rattle.meaning.specs.Meaning.{◌at◌, Free, Step, Before, Keeps, PathUnder, LeastPath}
use Rattle.meaning.proofs.Tests.{Says, says_eqb, says_and, says_not, says_iff}
use Rattle.meaning.proofs.ListTests.{says_all}
use Rattle.meaning.proofs.Finish.{finish_meant}
use Rattle.meaning.proofs.Visits.{visits_meant}
use Rattle.meaning.proofs.Paths.{path_finish, free_meant, step_meant}
use Rattle.meaning.proofs.LeastPath.{least_path_is, no_least_path}
use Rattle.kernel.specs.Layers.{Parts, pass}
use Rattle.kernel.specs.Goals.{up}
use Rattle.kernel.specs.Labels.{all_goals, first_label, raised}
use Rattle.kernel.specs.Near.{near}
use Rattle.kernel.specs.Parts.{bars_place, bars_move, free_place, free_move, stands, step_free, parts_of}
use Rattle.kernel.proofs.Both.{and_left, and_right, and_both}
use Rattle.kernel.proofs.Labels.{up_ge, up_le, up_twice, left_after, visited, visited_le}
use Rattle.kernel.proofs.OfTask.{first_label_le, raised_le, raised_mono, before_step, after_step}
use Rattle.kernel.proofs.Near.{wide_of, next_turned, next_near, self_near, near_rising}
use Rattle.kernel.proofs.Passes.{Laws, Goes, after, step_of}
use Rattle.kernel.proofs.Trace.{Right}
use Rattle.kernel.proofs.Finish.{Served, FirstOfLeast, Settled, finish_at, by_finish}

-- the constraint does not bar u at t
abbrev pub LetsPlace : Carrier → ℕ → ℕ → Constraint → Type 0
LetsPlace i t u (Place a x s) = a.0 ≡ i.0 → s ≡ t → u ≢ x
LetsPlace i t u (Move a x y s) = Unit {0}

-- the constraint does not bar going u to v at t
abbrev pub LetsMove : Carrier → ℕ → ℕ → ℕ → Constraint → Type 0
LetsMove i t u v (Place a x s) = Unit {0}
LetsMove i t u v (Move a x y s) = a.0 ≡ i.0 → s ≡ t → u ≡ x → v ≢ y

lets_place : (i : Carrier) (t u : ℕ) (c : Constraint) → Says (not (bars_place i t u c)) (LetsPlace i t u c)
lets_place i t u (Place a x s) =
    says_iff (says_not (says_and (says_and says_eqb says_eqb) says_eqb)) (λ n e f g. n ((e, f), g), λ h g. h g.0.0 g.0.1 g.1)
lets_place i t u (Move a x y s) = record { fact = λ _. tt; test = λ _. tt }

lets_move : (i : Carrier) (t u v : ℕ) (c : Constraint) → Says (not (bars_move i t u v c)) (LetsMove i t u v c)
lets_move i t u v (Place a x s) = record { fact = λ _. tt; test = λ _. tt }
lets_move i t u v (Move a x y s) =
    says_iff (says_not (says_and (says_and (says_and says_eqb says_eqb) says_eqb) says_eqb))
    (λ n e f g k. n (((e, f), g), k), λ h g. h g.0.0.0 g.0.0.1 g.0.1 g.1)

pub free_place_meant : (i : Carrier) (cs : List Constraint) (t u : ℕ) → Says (free_place i cs t u) ((c : Constraint) → Mem c cs → LetsPlace i t u c)
unfolding free_place
free_place_meant i cs t u = says_all (λ c. not (bars_place i t u c)) (LetsPlace i t u) (lets_place i t u) cs

-- where a carrier may stand, by its constraints
pub stands_is : (d : Sheet) (i : Carrier) (cs : List Constraint) (t u : ℕ) → stands d i cs t u ≡ free_place i cs t u
unfolding stands
stands_is d i cs t u = refl

pub stands_meant : (d : Sheet) (i : Carrier) (cs : List Constraint) (t u : ℕ) → Says (stands d i cs t u) ((c : Constraint) → Mem c cs → LetsPlace i t u c)
stands_meant d i cs t u = rw (stands_is d i cs t u) (free_place_meant i cs t u)

pub free_move_meant : (i : Carrier) (cs : List Constraint) (t u v : ℕ) → Says (free_move i cs t u v) ((c : Constraint) → Mem c cs → LetsMove i t u v c)
unfolding free_move
free_move_meant i cs t u v = says_all (λ c. not (bars_move i t u v c)) (LetsMove i t u v) (lets_move i t u v) cs

pub step_free_meant : (d : Sheet) (u v : ℕ) → Says (step_free d u v) (Free d u × (Free d v × Step d u v))
unfolding step_free
step_free_meant d u v = says_and (free_meant d u) (says_and (free_meant d v) (step_meant d u v))

-- a step leads to a place around
pub step_around : (d : Sheet) (u v : ℕ) → T (step_free d u v) → Mem v (near d u)
step_around d u v h = let r = (step_free_meant d u v).fact h in
    ⊎_elim (λ e. subst (λ (x : ℕ). Mem x (near d u)) e (self_near d u)) (λ b. next_near d u v r.0.on_grid r.1.0.on_grid b.1.0) r.1.1

-- the time of a constraint lies within the horizon
abbrev pub InTime : ℕ → Constraint → Type 0
InTime h (Place a u t) = t ≤ h
InTime h (Move a u v t) = t < h

nil_le : (gs : List ℕ) (k : ℕ) → drop k gs ≡ [] → length gs ≤ k
nil_le [] k e = zero-le
nil_le (g ∷ gs) zero e = let z : length (g ∷ gs) ≡ 0 = ap length e in omega arith
nil_le (g ∷ gs) (suc k) e = omega (arith, nil_le gs k e)

-- an allowed walk, step by step
module _ (w : Parts) where
  abbrev AtEach : ℕ → ℕ → List ℕ → Type 0
  AtEach t u q = (s r : ℕ) → r ≡ t + s → s < length q → T (pass w r ((u ∷ q) at s) ((u ∷ q) at (suc s)))

  goes_of : (t u : ℕ) (q : List ℕ) → AtEach t u q → Goes w t u q
  goes_of t u [] h = tt
  goes_of t u (v ∷ q) h = (h 0 t (omega arith) (omega arith), goes_of (suc t) v q (λ s r e l. h (suc s) r (omega arith) (omega arith)))

  goes_at : (t u : ℕ) (q : List ℕ) → Goes w t u q → AtEach t u q
  goes_at t u [] g s r e l = absurd (not-suc-le-zero l)
  goes_at t u (v ∷ q) g zero r e l = let i : r ≡ t = omega arith in rw i g.0
  goes_at t u (v ∷ q) g (suc s) r e l = goes_at (suc t) v q g.1 s r (omega arith) (omega arith)

module _ (d : Sheet) (i : Carrier) (j : Task) (cs : List Constraint) (start : T (free d (start_of d i))) where
  abbrev w : Parts
  w = parts_of d i j cs

  abbrev gs : List ℕ
  gs = goals_of d j

  start_free : Free d (start_of d i)
  start_free = (free_meant d (start_of d i)).fact start

  pub sheet_laws : Laws w
  unfolding raised all_goals
  sheet_laws = record {
    onward = λ t u v h. step_around d u v (and_left (step_free d u v) (free_move i cs t u v) h);
    behind = λ t u v h. let r = (step_free_meant d u v).fact (and_left (step_free d u v) (free_move i cs t u v) h) in
        ⊎_elim (λ e. subst (λ (x : ℕ). Mem x (w.preds v)) (sym e) (self_near d v)) (λ b. next_near d v u r.1.0.on_grid r.0.on_grid (next_turned d u v b.1.0)) r.1.1;
    rising = near_rising d (wide_of d.width d.height (start_of d i) start_free.on_grid);
    begun = first_label_le d j i;
    mono = raised_mono d j;
    within = raised_le d j;
    full = omega (arith, up_ge (last_goal d j) gs (length gs), up_le (last_goal d j) gs (length gs) (le_refl (length gs)));
    before = before_step d j i cs;
    beyond = after_step d j i cs;
  }

  pub settled_start : Settled w w.start w.fresh
  unfolding raised first_label
  settled_start e = subst (λ (x : ℕ). up x gs w.fresh ≡ w.fresh) e (up_twice (start_of d i) gs 0)

  pub settled_step : (u v k : ℕ) → Settled w v (w.raise u v k)
  unfolding raised
  settled_step u v k e = subst (λ (x : ℕ). up x gs (up v gs k) ≡ up v gs k) e (up_twice v gs k)

  -- the goals that are left, and the label
  abbrev label : List ℕ → ℕ
  label q = visited gs w.fresh q

  after_label : (u k : ℕ) (q : List ℕ) → after w u k q ≡ visited gs k q
  unfolding raised
  after_label u k [] = refl
  after_label u k (v ∷ q) = after_label v (up v gs k) q

  left_label : (q : List ℕ) → left (start_of d i ∷ q) gs ≡ drop (label q) gs
  unfolding first_label
  left_label q = left_after gs 0 (start_of d i ∷ q)

  whole_of : (q : List ℕ) → left (start_of d i ∷ q) gs ≡ [] → label q ≡ w.whole
  unfolding all_goals
  whole_of q e =
      let b = nil_le gs (label q) (sym (left_label q) ∙ e) in
      let c = visited_le gs w.fresh q (first_label_le d j i) in
      omega arith

  of_whole : (q : List ℕ) → label q ≡ w.whole → left (start_of d i ∷ q) gs ≡ []
  unfolding all_goals
  of_whole q a = left_label q ∙ drop_of_length-le gs {i = label q} (omega (arith, a))

  -- what a path that keeps the constraints does is allowed
  module _ (q : List ℕ) (t : ℕ) (h : PathUnder d i j cs (start_of d i ∷ q) t) where
    free_at : (s : ℕ) → s ≤ d.horizon → Free d ((start_of d i ∷ q) at s)
    free_at zero l = start_free
    free_at (suc s) l = ⊎_elim (λ e. subst (Free d) e (free_at s (omega arith))) (λ b. b.0) (h.path.goes s l)

    stand_at : (s : ℕ) → T (stands d i cs s ((start_of d i ∷ q) at s))
    stand_at s = (stands_meant d i cs s _).test (λ c m. lets c (h.keeps c m))
      where
        lets : (c : Constraint) → Keeps i (start_of d i ∷ q) c → LetsPlace i s ((start_of d i ∷ q) at s) c
        lets (Place a x r) k = λ e f. subst (λ (z : ℕ). (start_of d i ∷ q) at z ≢ x) f (k e)
        lets (Move a x y r) k = tt

    move_at : (s : ℕ) → T (free_move i cs s ((start_of d i ∷ q) at s) ((start_of d i ∷ q) at (suc s)))
    move_at s = (free_move_meant i cs s _ _).test (λ c m. lets c (h.keeps c m))
      where
        lets : (c : Constraint) → Keeps i (start_of d i ∷ q) c → LetsMove i s ((start_of d i ∷ q) at s) ((start_of d i ∷ q) at (suc s)) c
        lets (Place a x r) k = tt
        lets (Move a x y r) k = λ e f. subst (λ (z : ℕ). (start_of d i ∷ q) at z ≡ x → (start_of d i ∷ q) at (suc z) ≢ y) f (k e)

    pass_at : (s : ℕ) → s < d.horizon → T (pass w s ((start_of d i ∷ q) at s) ((start_of d i ∷ q) at (suc s)))
    pass_at s l =
        let u : ℕ = (start_of d i ∷ q) at s in
        let v : ℕ = (start_of d i ∷ q) at (suc s) in
        let a : T (step_free d u v) = (step_free_meant d u v).test (free_at s (omega arith), (free_at (suc s) l, h.path.goes s l)) in
        and_both (step_free d u v && free_move i cs s u v) (stands d i cs (suc s) v) (and_both (step_free d u v) (free_move i cs s u v) a (move_at s)) (stand_at (suc s))

    pub served_of : Served w d.horizon q
    served_of = record {
      long = omega (arith, h.path.long);
      stands = stand_at 0;
      goes = goes_of w 0 (start_of d i) q (λ s r e l. let z : r ≡ s = omega arith in rw z (pass_at s (omega (arith, h.path.long))));
      visits = after_label w.start w.fresh q ∙ whole_of q ((visits_meant d.horizon (start_of d i ∷ q) h.path.long gs).1 h.path.visits);
      stays = omega (arith, path_finish h.path, h.path.finishes.rests.0);
    }

  -- an allowed walk that visits the goals and stays on the last is a path that keeps the constraints
  module _ (timely : (c : Constraint) → Mem c cs → InTime d.horizon c) (q : List ℕ) (v : Served w d.horizon q) where
    passes : (s : ℕ) → s < d.horizon → T (pass w s ((start_of d i ∷ q) at s) ((start_of d i ∷ q) at (suc s)))
    passes s l = goes_at w 0 (start_of d i) q v.goes s s (omega arith) (omega (arith, v.long))

    stood : (s : ℕ) → s ≤ d.horizon → T (stands d i cs s ((start_of d i ∷ q) at s))
    stood zero l = v.stands
    stood (suc s) l = and_right (w.step s ((start_of d i ∷ q) at s) ((start_of d i ∷ q) at (suc s))) _ (passes s l)

    kept : (c : Constraint) → Mem c cs → InTime d.horizon c → Keeps i (start_of d i ∷ q) c
    kept (Place a x s) m l = λ e f. (stands_meant d i cs s ((start_of d i ∷ q) at s)).fact (stood s l) (Place a x s) m e refl f
    kept (Move a x y s) m l =
        let u : ℕ = (start_of d i ∷ q) at s in
        let z : ℕ = (start_of d i ∷ q) at (suc s) in
        let f : T (free_move i cs s u z) = and_right (step_free d u z) (free_move i cs s u z) (step_of w s u z (passes s l)) in
        λ e g k. (free_move_meant i cs s u z).fact f (Move a x y s) m e refl g k

    pub path_of_lem : PathUnder d i j cs (start_of d i ∷ q) (finish_at w q)
    path_of_lem =
        let long : length (start_of d i ∷ q) ≡ suc d.horizon = omega (arith, v.long) in
        record {
          path = record {
            long = long;
            begins = refl;
            goes = λ s l.
                let u : ℕ = (start_of d i ∷ q) at s in
                let z : ℕ = (start_of d i ∷ q) at (suc s) in
                ((step_free_meant d u z).fact (and_left (step_free d u z) (free_move i cs s u z) (step_of w s u z (passes s l)))).1.1;
            visits = (visits_meant d.horizon (start_of d i ∷ q) long gs).0 (of_whole q (sym (after_label w.start w.fresh q) ∙ v.visits));
            finishes = (finish_meant d.horizon (last_goal d j) (start_of d i ∷ q) (finish_at w q) long v.stays).0 refl;
          };
          keeps = λ c m. kept c m (timely c m);
        }

  path_served : (p : List ℕ) (t : ℕ) → PathUnder d i j cs p t → (q : List ℕ) × (p ≡ start_of d i ∷ q) × Served w d.horizon q × (finish_at w q ≡ t)
  path_served [] t h = absurd (omega (arith, h.path.long))
  path_served (x ∷ q) t h =
      let e : x ≡ start_of d i = h.path.begins in
      let k : PathUnder d i j cs (start_of d i ∷ q) t = subst (λ (z : ℕ). PathUnder d i j cs (z ∷ q) t) e h in
      (q, ap (λ (z : ℕ). z ∷ q) e, served_of q t k, path_finish k.path)

  module _ (timely : (c : Constraint) → Mem c cs → InTime d.horizon c) where
    -- whatever is the first of least finish is the least path
    pub right_least : (o : Option (List ℕ)) → Right w d.horizon o → least_path d i j cs ≡ o
    right_least o r = go o (by_finish w sheet_laws settled_start settled_step d.horizon o r)
      where
        go : (o : Option (List ℕ)) → FirstOfLeast w d.horizon o → least_path d i j cs ≡ o
        go None n = no_least_path d i j cs start_free.on_grid (λ p t h. let x = path_served p t h in n x.0 x.2)
        go (Some p) (q, e, v, f) =
            least_path_is d i j cs start_free.on_grid
            (subst (λ (z : List ℕ). LeastPath d i j cs z (finish_at w q)) (sym e)
            (record {
              under = path_of_lem timely q v;
              first = λ r u k.
                  let x = path_served r u k in
                  subst (λ (z : List ℕ). (finish_at w q < u) ⊎ ((finish_at w q ≡ u) × Before (start_of d i ∷ q) z)) (sym x.1)
                  (subst (λ (n : ℕ). (finish_at w q < n) ⊎ ((finish_at w q ≡ n) × Before (start_of d i ∷ q) (start_of d i ∷ x.0))) x.3 (f x.0 x.2));
            }))
