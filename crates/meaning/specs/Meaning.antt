-- What a path, a finish, a collision, an assignment, a plan and a flowtime are, said with quantifiers and without the definitions
-- that compute; and what the search has to answer (demand 3). A reader who believes this file, the sheet's accessors and how lists
-- are read (`at`, `path_of`, `sum`) need not believe the definitions of paths, collisions, assignments, plan check or search. Assumes
-- nothing.
use Rattle.std.specs.Prelude.{ℕ, suc, ◌/◌, ◌%◌, ◌≤◌, ◌<◌, ◌≡◌, ◌≢◌, ◌⊎◌, length, List, [], ◌∷◌}
use mathlib.Core.List.{Memᴰ as Mem}
pub use Rattle.deck.specs.Lists.{◌at◌, path_of}
use Rattle.deck.specs.Lists.{sum}
use Rattle.deck.specs.Sheet.{Sheet, area, carrier, task, start_of, goals_of, last_goal}
use Rattle.deck.specs.Assignments.{barred, entry_at, sum_of}
use Rattle.deck.specs.Search.{Answer, plan, no_plan, spent}
use Rattle.deck.specs.declared.Carrier.{Carrier}
use Rattle.deck.specs.declared.Task.{Task}
use Rattle.deck.specs.declared.Constraint.{Constraint}
use Rattle.deck.specs.declared.Constraint.TheVariants.{Place, Move}
use Rattle.deck.specs.declared.Collision.{Collision}
use Rattle.deck.specs.declared.Collision.TheVariants.{Place as PlaceCollision, Move as MoveCollision}

pub record Free (d : Sheet) (v : ℕ) : Type 0 where
  pub on_grid : v < area d
  pub unblocked : d.grid at v ≢ 1

abbrev pub OneApart : ℕ → ℕ → Type 0
OneApart a b = (suc a ≡ b) ⊎ (suc b ≡ a)

-- v is next to u on a grid of width w: in the same row and in columns one apart, or in the same column and in rows one apart. The same
-- seen from either place
abbrev pub NextTo : (w u v : ℕ) → Type 0
NextTo w u v = ((u / w ≡ v / w) × OneApart (u % w) (v % w)) ⊎ ((u % w ≡ v % w) × OneApart (u / w) (v / w))

-- a place u with the grid byte b may be left to v: a lane, which has a byte from 2 to 5, only to the place north, east, south or west
-- of it
pub record MayLeave (w b u v : ℕ) : Type 0 where
  pub north : b ≡ 2 → suc (v / w) ≡ u / w
  pub east : b ≡ 3 → v % w ≡ suc (u % w)
  pub south : b ≡ 4 → v / w ≡ suc (u / w)
  pub west : b ≡ 5 → suc (v % w) ≡ u % w

-- v is beside u on the sheet, seen from u
abbrev pub Beside : Sheet → ℕ → ℕ → Type 0
Beside d u v = NextTo d.width u v × MayLeave d.width (d.grid at u) u v

-- a step waits, or goes to a free place beside
abbrev pub Step : Sheet → ℕ → ℕ → Type 0
Step d u v = (u ≡ v) ⊎ (Free d v × Beside d u v)

-- from time t on p is on the goals one after the other, at times that do not fall and are at most h
abbrev pub Visits : ℕ → List ℕ → ℕ → List ℕ → Type 0
Visits h p t [] = Unit {0}
Visits h p t (g ∷ gs) = (u : ℕ) × (t ≤ u) × (u ≤ h) × (p at u ≡ g) × Visits h p u gs

-- p is on g from time t up to h
abbrev pub Rests : ℕ → List ℕ → ℕ → ℕ → Type 0
Rests h p g t = (t ≤ h) × ((u : ℕ) → t ≤ u → u ≤ h → p at u ≡ g)

-- t is the least time from which p stays on g
pub record Finish (h : ℕ) (p : List ℕ) (g t : ℕ) : Type 0 where
  pub rests : Rests h p g t
  pub least : (u : ℕ) → Rests h p g u → t ≤ u

-- p is a path of carrier i for task j, and its finish is t
pub record Path (d : Sheet) (i : Carrier) (j : Task) (p : List ℕ) (t : ℕ) : Type 0 where
  pub long : length p ≡ suc d.horizon
  pub begins : p at 0 ≡ start_of d i
  pub goes : (u : ℕ) → u < d.horizon → Step d (p at u) (p at (suc u))
  pub visits : Visits d.horizon p 0 (goals_of d j)
  pub finishes : Finish d.horizon p (last_goal d j) t

-- p, as a path of carrier i, keeps the constraint
abbrev pub Keeps : Carrier → List ℕ → Constraint → Type 0
Keeps i p (Place a u t) = a.0 ≡ i.0 → p at t ≢ u
Keeps i p (Move a u v t) = a.0 ≡ i.0 → p at t ≡ u → p at (suc t) ≢ v

-- p is a path of carrier i for task j that keeps the constraints, and its finish is t
pub record PathUnder (d : Sheet) (i : Carrier) (j : Task) (cs : List Constraint) (p : List ℕ) (t : ℕ) : Type 0 where
  pub path : Path d i j p t
  pub keeps : (c : Constraint) → Mem c cs → Keeps i p c

-- p comes before q or is q, compared number by number
abbrev pub Before : List ℕ → List ℕ → Type 0
Before [] q = Unit {0}
Before (x ∷ p) [] = ⊥
Before (x ∷ p) (y ∷ q) = (x < y) ⊎ ((x ≡ y) × Before p q)

-- p is the least path under the constraints: no other finishes earlier, and of those that finish as early none comes before it
pub record LeastPath (d : Sheet) (i : Carrier) (j : Task) (cs : List Constraint) (p : List ℕ) (t : ℕ) : Type 0 where
  pub under : PathUnder d i j cs p t
  pub first : (q : List ℕ) (u : ℕ) → PathUnder d i j cs q u → (t < u) ⊎ ((t ≡ u) × Before p q)

-- both paths are on u at t
abbrev pub Meet : ℕ → List ℕ → List ℕ → (t u : ℕ) → Type 0
Meet h p q t u = (t ≤ h) × (p at t ≡ u) × (q at t ≡ u)

-- between t and t + 1 p goes from u to v and q from v to u
abbrev pub Swap : ℕ → List ℕ → List ℕ → (t u v : ℕ) → Type 0
Swap h p q t u v = (t < h) × (p at t ≡ u) × (p at (suc t) ≡ v) × (q at t ≡ v) × (q at (suc t) ≡ u) × (u ≢ v)

abbrev pub Collides : ℕ → List ℕ → List ℕ → Type 0
Collides h p q = ((t : ℕ) × (u : ℕ) × Meet h p q t u) ⊎ ((t : ℕ) × (u : ℕ) × (v : ℕ) × Swap h p q t u v)

-- the collision is one of the m paths
abbrev pub Collided : (m h : ℕ) → List (List ℕ) → Collision → Type 0
Collided m h ps (PlaceCollision t i j u) = (i.0 < j.0) × (j.0 < m) × Meet h (path_of ps i.0) (path_of ps j.0) t u
Collided m h ps (MoveCollision t i j u v) = (i.0 < j.0) × (j.0 < m) × Swap h (path_of ps i.0) (path_of ps j.0) t u v

-- the order of collisions: time, place before move, i, j
abbrev pub rank : Collision → List ℕ
rank (PlaceCollision t i j u) = t ∷ 0 ∷ i.0 ∷ j.0 ∷ []
rank (MoveCollision t i j u v) = t ∷ 1 ∷ i.0 ∷ j.0 ∷ []

pub record FirstCollision (m h : ℕ) (ps : List (List ℕ)) (c : Collision) : Type 0 where
  pub collided : Collided m h ps c
  pub first : (e : Collision) → Collided m h ps e → Before (rank c) (rank e)

-- each carrier below m has one task below m, and no task has two carriers
pub record Assignment (m : ℕ) (a : List ℕ) : Type 0 where
  pub as_many : length a ≡ m
  pub tasks : (i : ℕ) → i < m → a at i < m
  pub once : (i j : ℕ) → i < m → j < m → a at i ≡ a at j → i ≡ j

-- an assignment that uses no barred entry of a table
abbrev pub Unbarred : ℕ → List ℕ → List ℕ → Type 0
Unbarred m table a = Assignment m a × ((i : ℕ) → i < m → entry_at m table i (a at i) ≢ barred)

-- every assignment uses a barred entry
abbrev pub AllBarred : ℕ → List ℕ → Type 0
AllBarred m table = (a : List ℕ) → Assignment m a → (i : ℕ) × (i < m) × (entry_at m table i (a at i) ≡ barred)

-- a list comes before another and is another, compared number by number
abbrev pub StrictlyBefore : List ℕ → List ℕ → Type 0
StrictlyBefore [] [] = ⊥
StrictlyBefore [] (y ∷ b) = Unit {0}
StrictlyBefore (x ∷ a) [] = ⊥
StrictlyBefore (x ∷ a) (y ∷ b) = (x < y) ⊎ ((x ≡ y) × StrictlyBefore a b)

-- a comes before b in the order of assignments: by sum of entries, then by list of task numbers
abbrev pub Less : ℕ → List ℕ → List ℕ → List ℕ → Type 0
Less m table a b = (sum_of m table a < sum_of m table b) ⊎ ((sum_of m table a ≡ sum_of m table b) × StrictlyBefore a b)

-- the assignment a and the paths ps are a plan for the sheet; fs are the finishes
pub record Plan (d : Sheet) (a : List ℕ) (ps : List (List ℕ)) (fs : List ℕ) : Type 0 where
  pub assigned : Assignment d.count a
  pub a_path_each : length ps ≡ d.count
  pub a_finish_each : length fs ≡ d.count
  pub paths : (i : ℕ) → i < d.count → Path d (carrier i) (task (a at i)) (path_of ps i) (fs at i)
  pub apart : (i j : ℕ) → i < j → j < d.count → ¬ Collides d.horizon (path_of ps i) (path_of ps j)

-- no plan for the sheet, under any assignment, has a flowtime below b. Flowtime is the sum of finishes
abbrev pub NoPlanBelow : Sheet → ℕ → Type 0
NoPlanBelow d b = (a : List ℕ) (ps : List (List ℕ)) (fs : List ℕ) → Plan d a ps fs → b ≤ sum fs

-- Demand 3, of one answer: a plan is one of least flowtime; none means that there is no plan; no plan's flowtime is below the bound of
-- spent
abbrev pub Right : Sheet → Answer (List ℕ) → Type 0
Right d (plan a ps f n b) = ((fs : List ℕ) × Plan d a ps fs × (sum fs ≡ f)) × (b ≡ f) × NoPlanBelow d f
Right d (no_plan n) = (a : List ℕ) (ps : List (List ℕ)) (fs : List ℕ) → ¬ Plan d a ps fs
Right d (spent n b) = NoPlanBelow d b
