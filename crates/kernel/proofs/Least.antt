-- The least time that the layers give, and the path traced from it, are the finish and the places of the least path.
-- Assumes nothing.
use Rattle.std.proofs.Common.{ℕ, zero, suc, ◌+◌, ◌-◌, ◌≤◌, ◌<◌, zero-le, ◌≡◌, refl, sym, subst, ◌↔◌, inl, ⊎_elim, Bool, true, false, cond, ◌&&◌, List, [], ◌∷◌, map, Option, None, Some, eq-or-lt_of_le, le_trans, arith, T, eqb, leb, leb→le, le→leb, ltb→lt, lt→ltb, leb-true, leb-false}
use Rattle.std.proofs.lemmas.Bool.{cases_lt}
use Rattle.deck.proofs.Members.{Mem, here, there, map_mem}
use Rattle.deck.specs.Lists.{greatest}
use Rattle.deck.specs.Sheet.{Sheet, area, free, start_of, goals_of, last_goal}
use Rattle.deck.specs.Paths.{least_path, finish_of}
use Rattle.deck.specs.declared.Carrier.{Carrier}
use Rattle.deck.specs.declared.Task.{Task}
use Rattle.deck.specs.declared.Constraint.{Constraint}
use Rattle.deck.specs.declared.Constraint.TheVariants.{Place, Move}
use Rattle.meaning.specs.Meaning.{Free, PathUnder}
use Rattle.meaning.proofs.Tests.{Says, says_eqb, says_and, is_true}
use Rattle.meaning.proofs.Lists.{mem_map}
use Rattle.meaning.proofs.Paths.{free_meant}
use Rattle.meaning.proofs.LeastPath.{LeastMeant, least_path_meant}
use Rattle.kernel.specs.Layers.{Parts, pass, back, rest, trace}
use Rattle.kernel.specs.Goals.{lowered}
use Rattle.kernel.specs.Labels.{all_goals, first_label}
use Rattle.kernel.specs.Parts.{free_move, stands, step_free, parts_of, stay_after, stay_from, rest_from}
use Rattle.kernel.specs.Kernel.{fore, hind, path_at, meets_at, LeastTime, NoEarlier}
use Rattle.kernel.proofs.Both.{and_left, and_right, and_both}
use Rattle.kernel.proofs.Labels.{lowered_iff}
use Rattle.kernel.proofs.OfTask.{first_label_le}
use Rattle.kernel.proofs.Passes.{Laws}
use Rattle.kernel.proofs.Trace.{Can, can_at, at_can, front_can, can_front, back_can, can_back, traced_right, none_right}
use Rattle.kernel.proofs.Finish.{finish_at, served_at, at_served}
use Rattle.kernel.proofs.OfSheet.{InTime, LetsPlace, LetsMove, stands_meant, free_move_meant, step_free_meant, sheet_laws, settled_start, settled_step, path_of_lem, right_least}
use Rattle.kernel.proofs.Kernel.{fore_front, hind_back, follow_trace, rest_iff}

-- the greatest of numbers
pub greatest_all : {x : ℕ} {l : List ℕ} → Mem x l → x ≤ greatest l
greatest_all {x} (here {x = y} {xs = l} e) = go (leb (greatest l) y) refl
  where
    go : (b : Bool) → leb (greatest l) y ≡ b → x ≤ cond b y (greatest l)
    go true h = omega (arith, e)
    go false h = omega (arith, e, leb-false (greatest l) y h)
greatest_all {x} (there {x = y} {xs = l} m) = go (leb (greatest l) y) refl (greatest_all m)
  where
    go : (b : Bool) → leb (greatest l) y ≡ b → x ≤ greatest l → x ≤ cond b y (greatest l)
    go true h i = omega (arith, leb-true (greatest l) y h)
    go false h i = i

pub all_greatest : (l : List ℕ) (n : ℕ) → ((x : ℕ) → Mem x l → x ≤ n) → greatest l ≤ n
all_greatest [] n h = zero-le
all_greatest (y ∷ l) n h = go (leb (greatest l) y) (all_greatest l n (λ x m. h x (there m)))
  where
    go : (b : Bool) → greatest l ≤ n → cond b y (greatest l) ≤ n
    go true i = h y (here refl)
    go false i = i

module _ (i : Carrier) (g : ℕ) (cs : List Constraint) where
  -- a time from which each constraint lets the carrier stay
  stay_all : (n : ℕ) → ((c : Constraint) → Mem c cs → stay_after i g c ≤ n) → stay_from i g cs ≤ n
  unfolding stay_from
  stay_all n h = all_greatest (map (stay_after i g) cs) n (λ x m. let r = mem_map (stay_after i g) cs m in rw r.2 (h r.0 r.1))

  all_stay : (n : ℕ) → stay_from i g cs ≤ n → (c : Constraint) → Mem c cs → stay_after i g c ≤ n
  unfolding stay_from
  all_stay n h c m = le_trans (greatest_all (map_mem (stay_after i g) m)) h

-- the time from which a carrier may stay, by its constraints
pub rest_from_is : (d : Sheet) (i : Carrier) (g : ℕ) (cs : List Constraint) → rest_from d i g cs ≡ stay_from i g cs
unfolding rest_from
rest_from_is d i g cs = refl

-- where the test fails, or the number is bounded all the same
cond_le : (b : Bool) (s n : ℕ) → (T b → s ≤ n) → cond b s 0 ≤ n
cond_le true s n h = h tt
cond_le false s n h = zero-le

le_cond : (b : Bool) (s n : ℕ) → T b → cond b s 0 ≤ n → s ≤ n
le_cond true s n t h = h
le_cond false s n t h = absurd t

-- a number that is 0 unless the test passes
pub cond_pos : (b : Bool) (s n : ℕ) → n < cond b s 0 → T b × (n < s)
cond_pos true s n h = (tt, h)
cond_pos false s n h = absurd (omega arith)

module _ (d : Sheet) (i : Carrier) (j : Task) (cs : List Constraint) (n : ℕ) where
  -- the backward layer at the start has all goals where one may be there at time 0 and the label there suffices
  pub hind_meets : (all_goals d j < hind d i j cs n 0 (start_of d i)) ↔ (T ((parts_of d i j cs).stand 0 (start_of d i)) × (all_goals d j < first_label d i j + back (parts_of d i j cs) n 0 (start_of d i)))
  unfolding all_goals first_label
  hind_meets =
      let e = hind_back d i j cs n 0 (start_of d i) in
      let b : ℕ = back (parts_of d i j cs) n 0 (start_of d i) in
      let f = lowered_iff (goals_of d j) (start_of d i) 0 b in (
        λ h. let a = cond_pos (stands d i cs 0 (start_of d i)) (lowered (start_of d i) (goals_of d j) b) (all_goals d j) (rw e at h) in (a.0, f.1 (omega (arith, a.1))),
        λ h. let x = f.0 h.1 in rw (e, is_true (stands d i cs 0 (start_of d i)) h.0) (omega arith),
      )

module _ (d : Sheet) (i : Carrier) (j : Task) (cs : List Constraint) (start : T (free d (start_of d i))) (end : T (free d (last_goal d j)))
    (timely : (c : Constraint) → Mem c cs → InTime d.horizon c) where
  abbrev w : Parts
  w = parts_of d i j cs

  abbrev g : ℕ
  g = last_goal d j

  -- from `rest_from` on the carrier may stay
  stay_rest : (n m : ℕ) → rest_from d i g cs ≤ n → T (rest w m n)
  stay_rest n m h = (rest_iff w m n).1 (λ s a b. and_both (w.step s g g) (w.stand (suc s) g)
      (and_both (step_free d g g) (free_move i cs s g g) ((step_free_meant d g g).test (on_free, (on_free, inl refl)))
      ((free_move_meant i cs s g g).test (λ c k. lets_move s a c (all_stay i g cs n stays c k))))
      ((stands_meant d i cs (suc s) g).test (λ c k. lets_place s a c (all_stay i g cs n stays c k))))
    where
      stays : stay_from i (last_goal d j) cs ≤ n
      stays = rw (rest_from_is d i (last_goal d j) cs) at h

      on_free : Free d (last_goal d j)
      on_free = (free_meant d (last_goal d j)).fact end

      lets_move : (s : ℕ) → n ≤ s → (c : Constraint) → stay_after i (last_goal d j) c ≤ n → LetsMove i s (last_goal d j) (last_goal d j) c
      lets_move s a (Place b x r) k = tt
      lets_move s a (Move b x y r) k = λ e f p q.
          omega (
            arith,
            le_cond (eqb b.0 i.0 && eqb x (last_goal d j) && eqb y (last_goal d j)) (suc r) n
                (and_both (eqb b.0 i.0 && eqb x (last_goal d j)) (eqb y (last_goal d j)) (and_both (eqb b.0 i.0) (eqb x (last_goal d j)) (says_eqb.test e) (says_eqb.test (sym p))) (says_eqb.test (sym q))) k,
          )

      lets_place : (s : ℕ) → n ≤ s → (c : Constraint) → stay_after i (last_goal d j) c ≤ n → LetsPlace i (suc s) (last_goal d j) c
      lets_place s a (Move b x y r) k = tt
      lets_place s a (Place b x r) k = λ e f p.
          omega (arith, le_cond (eqb b.0 i.0 && eqb x (last_goal d j)) (suc r) n (and_both (eqb b.0 i.0) (eqb x (last_goal d j)) (says_eqb.test e) (says_eqb.test (sym p))) k)

  -- and where it may be there and stay, `rest_from` is not later
  rest_stay : (n m : ℕ) → n + m ≡ d.horizon → T (rest w m n) → T (w.stand n g) → rest_from d i g cs ≤ n
  rest_stay n m h r s = rw (rest_from_is d i g cs) (stay_all i g cs n (λ c k. within c k (timely c k)))
    where
      at : (u : ℕ) → n ≤ u → u < d.horizon → T (pass w u g g)
      at u a b = (rest_iff w m n).0 r u a (omega arith)

      within : (c : Constraint) → Mem c cs → InTime d.horizon c → stay_after i (last_goal d j) c ≤ n
      within (Place b x u) k l = cond_le (eqb b.0 i.0 && eqb x (last_goal d j)) (suc u) n
          (λ t. let f = (says_and says_eqb says_eqb).fact t in ⊎_elim (λ z. z) (λ z. absurd (later f.0 f.1 z)) (cases_lt u n))
        where
          stands : n ≤ u → T (w.stand u (last_goal d j))
          stands z = ⊎_elim (λ e. subst (λ (v : ℕ). T (w.stand v (last_goal d j))) e s)
              (λ y. let e : u ≡ suc (u - 1) = omega arith in rw e (and_right (w.step (u - 1) g g) (w.stand (suc (u - 1)) g) (at (u - 1) (omega arith) (omega arith)))) (eq-or-lt_of_le z)

          later : b.0 ≡ i.0 → x ≡ last_goal d j → n ≤ u → ⊥
          later e f z = (stands_meant d i cs u (last_goal d j)).fact (stands z) (Place b x u) k e refl (sym f)
      within (Move b x y u) k l = cond_le (eqb b.0 i.0 && eqb x (last_goal d j) && eqb y (last_goal d j)) (suc u) n
          (λ t. let f = (says_and (says_and says_eqb says_eqb) says_eqb).fact t in ⊎_elim (λ z. z) (λ z. absurd (later f.0.0 f.0.1 f.1 z)) (cases_lt u n))
        where
          later : b.0 ≡ i.0 → x ≡ last_goal d j → y ≡ last_goal d j → n ≤ u → ⊥
          later e f q z =
              (free_move_meant i cs u (last_goal d j) (last_goal d j)).fact
              (and_right (step_free d g g) (free_move i cs u g g) (and_left (w.step u g g) (w.stand (suc u) g) (at u z l))) (Move b x y u) k e refl (sym f) (sym q)

  fore_stands : (n v k : ℕ) → k < fore d i j cs n v → T (w.stand n v)
  unfolding fore
  fore_stands zero v k h = (cond_pos (w.stand 0 v) _ k h).0
  fore_stands (suc n) v k h = (cond_pos (w.stand (suc n) v) _ k h).0

  -- the test of a time by the forward layers says that the task can be finished then
  pub meets_can : (n m : ℕ) → n + m ≡ d.horizon → Says (meets_at d i j cs n) (Can w m n)
  unfolding meets_at
  meets_can n m e = record {
    fact = λ t.
        let a = leb→le (rest_from d i g cs) n (and_left (leb (rest_from d i g cs) n) _ t) in
        let b = ltb→lt (all_goals d j) (fore d i j cs n g) (and_right (leb (rest_from d i g cs) n) _ t) in
        front_can w (sheet_laws d i j cs start) m n (stay_rest n m a) (rw (fore_front d i j cs n g) at b);
    test = λ c.
        let b : all_goals d j < fore d i j cs n g = rw (fore_front d i j cs n g) (can_front w (sheet_laws d i j cs start) m n c) in
        and_both (leb (rest_from d i g cs) n) _ (le→leb (rest_from d i g cs) n (rest_stay n m e c.rests (fore_stands n g (all_goals d j) b)))
        (lt→ltb (all_goals d j) (fore d i j cs n g) b);
  }

  -- and so does the test by the backward layers
  pub hind_can : (n m : ℕ) → n + m ≡ d.horizon → (Can w m n) ↔ ((rest_from d i g cs ≤ n) × (all_goals d j < hind d i j cs n 0 (start_of d i)))
  unfolding meets_at
  hind_can n m e = (
    λ c. (
      leb→le (rest_from d i g cs) n (and_left (leb (rest_from d i g cs) n) _ ((meets_can n m e).test c)),
      (hind_meets d i j cs n).1 (c.stands, can_back w (sheet_laws d i j cs start) m n c),
    ),
    λ h. let a = (hind_meets d i j cs n).0 h.1 in back_can w (sheet_laws d i j cs start) m n (stay_rest n m h.0) a.0 a.1,
  )

  -- the times at which the task can be finished, where the least is known
  time_can : (r : ℕ) → LeastTime d i j cs r → (n m : ℕ) → n + m ≡ d.horizon → Can w m n → r ≤ n
  time_can r l n m e c = l.first n (omega arith) ((meets_can n m e).test c)

  -- above the horizon: no path
  pub no_time_none : (r : ℕ) → LeastTime d i j cs r → d.horizon < r → least_path d i j cs ≡ None
  no_time_none r l h =
      right_least d i j cs start timely None
      (none_right w (sheet_laws d i j cs start) d.horizon (λ n m e c. omega (arith, time_can r l n m e c)))

  -- the path traced from the least time is the least path
  pub time_path : (r : ℕ) → LeastTime d i j cs r → r ≤ d.horizon → least_path d i j cs ≡ Some (path_at d i j cs (d.horizon - r) r)
  unfolding path_at
  time_path r l h =
      let m : ℕ = d.horizon - r in
      let e : r + m ≡ d.horizon = omega arith in
      let q = follow_trace d i j cs m r 0 (start_of d i) (first_label d i j) (first_label_le d j i) in
      rw q
      (right_least d i j cs start timely _
      (traced_right w (sheet_laws d i j cs start) d.horizon r m e ((meets_can r m e).fact (l.meets h)) (time_can r l)))

  -- and the least time is its finish
  pub time_finish : (r : ℕ) → LeastTime d i j cs r → r ≤ d.horizon → finish_of d j (path_at d i j cs (d.horizon - r) r) ≡ r
  unfolding path_at
  time_finish r l h =
      let m : ℕ = d.horizon - r in
      let e : r + m ≡ d.horizon = omega arith in
      let q = follow_trace d i j cs m r 0 (start_of d i) (first_label d i j) (first_label_le d j i) in
      let p : List ℕ = trace w m r 0 (start_of d i) (first_label d i j) in
      let s = at_served w laws (settled_start d i j cs start) (settled_step d i j cs start) d.horizon p r m e (can_at w laws m r ((meets_can r m e).fact (l.meets h))) in
      let f : ℕ = finish_at w p in
      let b : f ≤ d.horizon = s.0.stays in
      let a = served_at w laws (settled_start d i j cs start) (settled_step d i j cs start) d.horizon p s.0 f (d.horizon - f) refl (omega arith) in
      rw q (omega (arith, s.1, time_can r l f (d.horizon - f) (omega arith) (at_can w (d.horizon - f) f p a)))
    where
      laws : Laws (parts_of d i j cs)
      laws = sheet_laws d i j cs start

  -- a bound that no path finishes before bounds the times at which the task can be finished
  pub bound_early : (b : ℕ) → NoEarlier d i j cs b → (n : ℕ) → n ≤ d.horizon → T (meets_at d i j cs n) → b ≤ n
  bound_early b h n l t =
      let m : ℕ = d.horizon - n in
      let e : n + m ≡ d.horizon = omega arith in
      let s = at_served w laws (settled_start d i j cs start) (settled_step d i j cs start) d.horizon _ n m e (can_at w laws m n ((meets_can n m e).fact t)) in
      go (least_path d i j cs) refl (least_path_meant d i j cs on_grid) _ (path_of_lem d i j cs start timely _ s.0) s.1
    where
      laws : Laws (parts_of d i j cs)
      laws = sheet_laws d i j cs start

      on_grid : start_of d i < area d
      on_grid = ((free_meant d (start_of d i)).fact start).on_grid

      go : (o : Option (List ℕ)) → least_path d i j cs ≡ o → LeastMeant d i j cs o → {p : List ℕ} (f : ℕ) → PathUnder d i j cs p f → f ≤ n → b ≤ n
      go None e k f u a = absurd (k _ f u)
      go (Some q) e k {p} f u a = ⊎_elim (λ z. omega (arith, h q e)) (λ z. omega (arith, h q e, z.0)) (k.first p f u)
