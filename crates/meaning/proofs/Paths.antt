-- The tests of steps, paths and constraints say what is meant, and the walks that are enumerated and serve a task are the paths.
-- Assumes nothing.
use Rattle.std.proofs.Common.{ℕ, zero, suc, ◌/◌, ◌%◌, ◌≤◌, ◌<◌, ◌≡◌, refl, ◌↔◌, ⊎_elim, Bool, true, false, cond, ◌&&◌, List, [], ◌∷◌, not-suc-le-zero, arith, length, T, eqb, eqb-true}
use Rattle.deck.proofs.Members.{Mem}
use Rattle.std.proofs.lemmas.Bool.{eqb-false}
use Rattle.deck.specs.Lists.{all}
use Rattle.deck.specs.Sheet.{Sheet, area, grid_byte, free, start_of, goals_of, last_goal}
use Rattle.deck.specs.Paths.{one_apart, next_to, may_leave, beside, may_step, walks, finish_of, serves, keeps}
use Rattle.deck.specs.PlanCheck.{follows, is_path}
use Rattle.deck.specs.declared.Carrier.{Carrier}
use Rattle.deck.specs.declared.Task.{Task}
use Rattle.deck.specs.declared.Constraint.{Constraint}
use Rattle.deck.specs.declared.Constraint.TheVariants.{Place, Move}
use Rattle.meaning.specs.Meaning.{◌at◌, Free, OneApart, NextTo, MayLeave, Beside, Step, Visits, Finish, Path, Keeps}
use Rattle.meaning.proofs.Tests.{Says, says_eqb, says_leb, says_and, says_or, says_not, says_nil, says_iff}
use Rattle.meaning.proofs.ListTests.{says_all}
use Rattle.meaning.proofs.Walks.{step_iff, walk_of_mem, mem_of_walk}
use Rattle.meaning.proofs.Finish.{finish_meant}
use Rattle.meaning.proofs.Visits.{visits_meant}

-- the second test says Q where the first has said P
says_then : {a b : Bool} {P Q : Type 0} → Says a P → (P → Says b Q) → Says (a && b) (P × Q)
says_then {a = true} f g = record { fact = λ t. let p = f.fact tt in (p, (g p).fact t); test = λ h. (g h.0).test h.1 }
says_then {a = false} f g = record { fact = λ t. absurd t; test = λ h. f.test h.0 }

pub apart_meant : (a b : ℕ) → Says (one_apart a b) (OneApart a b)
unfolding one_apart
apart_meant a b = says_or says_eqb says_eqb

pub next_meant : (w u v : ℕ) → Says (next_to w u v) (NextTo w u v)
unfolding next_to
next_meant w u v = says_or (says_and says_eqb (apart_meant _ _)) (says_and says_eqb (apart_meant _ _))

pub leave_meant : (w b u v : ℕ) → Says (may_leave w b u v) (MayLeave w b u v)
unfolding may_leave
leave_meant w b u v = go (eqb b 2) refl (eqb b 3) refl (eqb b 4) refl (eqb b 5) refl
  where
    go : (n : Bool) → eqb b 2 ≡ n → (e : Bool) → eqb b 3 ≡ e → (s : Bool) → eqb b 4 ≡ s → (x : Bool) → eqb b 5 ≡ x
        → Says (cond n (eqb (suc (v / w)) (u / w)) (cond e (eqb (v % w) (suc (u % w))) (cond s (eqb (v / w) (suc (u / w))) (cond x (eqb (suc (v % w)) (u % w)) true)))) (MayLeave w b u v)
    go true p e q s r x y =
        let z : b ≡ 2 = eqb-true b 2 p in
        says_iff says_eqb (
          λ h. record { north = λ _. h; east = λ k. absurd (omega arith); south = λ k. absurd (omega arith); west = λ k. absurd (omega arith) },
          λ l. l.north z,
        )
    go false p true q s r x y =
        let z : b ≡ 3 = eqb-true b 3 q in
        says_iff says_eqb (
          λ h. record { north = λ k. absurd (omega arith); east = λ _. h; south = λ k. absurd (omega arith); west = λ k. absurd (omega arith) },
          λ l. l.east z,
        )
    go false p false q true r x y =
        let z : b ≡ 4 = eqb-true b 4 r in
        says_iff says_eqb (
          λ h. record { north = λ k. absurd (omega arith); east = λ k. absurd (omega arith); south = λ _. h; west = λ k. absurd (omega arith) },
          λ l. l.south z,
        )
    go false p false q false r true y =
        let z : b ≡ 5 = eqb-true b 5 y in
        says_iff says_eqb (
          λ h. record { north = λ k. absurd (omega arith); east = λ k. absurd (omega arith); south = λ k. absurd (omega arith); west = λ _. h },
          λ l. l.west z,
        )
    go false p false q false r false y = record {
      fact = λ _. record {
        north = λ k. absurd (eqb-false b 2 p k);
        east = λ k. absurd (eqb-false b 3 q k);
        south = λ k. absurd (eqb-false b 4 r k);
        west = λ k. absurd (eqb-false b 5 y k);
      };
      test = λ _. tt;
    }

-- a path has the finish that is computed
pub path_finish : {d : Sheet} {i : Carrier} {j : Task} {p : List ℕ} {t : ℕ} → Path d i j p t → finish_of d j p ≡ t
path_finish {d} {j} {p} {t} h = (finish_meant d.horizon (last_goal d j) p t h.long h.finishes.rests.0).1 h.finishes

-- the test of one constraint
pub keeps_meant : (i : Carrier) (p : List ℕ) (c : Constraint) → Says (keeps i p c) (Keeps i p c)
unfolding keeps
keeps_meant i p (Place a u t) = says_iff (says_not (says_and says_eqb says_eqb)) (λ n e k. n (e, k), λ h e. h e.0 e.1)
keeps_meant i p (Move a u v t) =
    says_iff (says_not (says_and (says_and says_eqb says_eqb) says_eqb)) (λ n e k m. n ((e, k), m), λ h e. h e.0.0 e.0.1 e.1)

-- the test of all constraints of a list
pub keeps_all_meant : (i : Carrier) (p : List ℕ) (cs : List Constraint) → Says (all (keeps i p) cs) ((c : Constraint) → Mem c cs → Keeps i p c)
keeps_all_meant i p cs = says_all (keeps i p) (Keeps i p) (keeps_meant i p) cs

module _ (d : Sheet) where
  pub free_meant : (v : ℕ) → Says (free d v) (Free d v)
  free_meant v = says_iff (says_and says_leb (says_not says_eqb)) (λ h. record { on_grid = h.0; unblocked = h.1 }, λ f. (f.on_grid, f.unblocked))

  pub beside_meant : (u v : ℕ) → Says (beside d u v) (Beside d u v)
  unfolding beside
  beside_meant u v = says_and (next_meant d.width u v) (leave_meant d.width (grid_byte d u) u v)

  pub step_meant : (u v : ℕ) → Says (may_step d u v) (Step d u v)
  unfolding may_step
  step_meant u v = says_or says_eqb (says_and (free_meant v) (beside_meant u v))

  -- the goals in order, and the rest on the last
  pub serves_meant : (j : Task) (p : List ℕ) → length p ≡ suc d.horizon
      → Says (serves d j p) (Visits d.horizon p 0 (goals_of d j) × Finish d.horizon p (last_goal d j) (finish_of d j p))
  unfolding serves
  serves_meant j p n =
      says_and (says_iff says_nil (visits_meant d.horizon p n (goals_of d j)))
      (says_iff says_leb (λ l. (finish_meant d.horizon (last_goal d j) p (finish_of d j p) n l).0 refl, λ f. f.rests.0))

  -- each place is a step from the one before
  pub follows_meant : (p : List ℕ) → Says (follows d p) ((u : ℕ) → suc u < length p → Step d (p at u) (p at (suc u)))
  unfolding follows
  follows_meant [] = record { fact = λ t u l. absurd (not-suc-le-zero l); test = λ h. tt }
  follows_meant (x ∷ []) = record { fact = λ t u l. absurd (omega arith); test = λ h. tt }
  follows_meant (x ∷ y ∷ p) =
      says_iff (says_and (step_meant x y) (follows_meant (y ∷ p))) (λ h. onward h.0 h.1, λ h. (h 0 (omega arith), λ u l. h (suc u) (omega arith)))
    where
      onward : Step d x y → ((u : ℕ) → suc u < length (y ∷ p) → Step d ((y ∷ p) at u) ((y ∷ p) at (suc u)))
          → (u : ℕ) → suc u < length (x ∷ y ∷ p) → Step d ((x ∷ y ∷ p) at u) ((x ∷ y ∷ p) at (suc u))
      onward s h zero l = s
      onward s h (suc u) l = h u (omega arith)

  -- the test of one path says that it is one
  pub is_path_meant : (i : Carrier) (j : Task) (p : List ℕ) → Says (is_path d i j p) (Path d i j p (finish_of d j p))
  unfolding is_path
  is_path_meant i j p =
      says_iff (says_then (says_and (says_and says_eqb says_eqb) (follows_meant p)) (λ h. serves_meant j p h.0.0)) (
        λ h. record { long = h.0.0.0; begins = h.0.0.1; goes = λ u l. h.0.1 u (omega (arith, h.0.0.0)); visits = h.1.0; finishes = h.1.1 },
        λ h. (((h.long, h.begins), λ u l. h.goes u (omega arith)), (h.visits, h.finishes)),
      )

  module _ (i : Carrier) (j : Task) (start : start_of d i < area d) where
    on_grid : (p : List ℕ) (t : ℕ) → Path d i j p t → (u : ℕ) → u ≤ d.horizon → p at u < area d
    on_grid p t h zero l = rw h.begins start
    on_grid p t h (suc u) l = ⊎_elim (λ e. rw (← e) (on_grid p t h u (omega arith))) (λ s. s.0.on_grid) (h.goes u (omega arith))

    -- the paths are the walks that are enumerated and serve the task
    pub path_meant : (p : List ℕ) → (Mem p (walks d d.horizon (start_of d i)) × T (serves d j p)) ↔ Path d i j p (finish_of d j p)
    path_meant p = (
      λ m.
          let w = walk_of_mem d d.horizon (start_of d i) m.0 in
          let s = (serves_meant j p w.long).fact m.1 in
          record {
            long = w.long;
            begins = w.begins;
            goes = λ u l. (step_meant (p at u) (p at (suc u))).fact ((step_iff d (p at u) (p at (suc u))).0 (w.goes u l)).1;
            visits = s.0;
            finishes = s.1;
          },
      λ h. (
        mem_of_walk d d.horizon (start_of d i) p
            (record {
              long = h.long;
              begins = h.begins;
              goes = λ u l. (step_iff d (p at u) (p at (suc u))).1 (on_grid p (finish_of d j p) h (suc u) l, (step_meant (p at u) (p at (suc u))).test (h.goes u l));
            }),
        (serves_meant j p h.long).test (h.visits, h.finishes),
      ),
    )
