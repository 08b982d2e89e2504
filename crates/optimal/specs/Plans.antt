-- What a plan is where paths and constraints are any two types, what the search may rely on, and what each answer of the search
-- has to say of the plans. Assumes nothing.
use Rattle.std.specs.Prelude.{ℕ, ◌≤◌, ◌<◌, ◌≡◌, ◌⊎◌, ◌≢◌, length, List, [], ◌∷◌, Option, None, Some}
use mathlib.Core.List.{Memᴰ as Mem}
use Rattle.deck.specs.Search.{Problem, Answer, plan, no_plan, spent, task_of, path_at, flowtime, root_of}

-- The rules of a round
pub record Rules (Path Constraint : Type 0) : Type 1 where
  -- the list gives each carrier a task
  pub IsAsg : List ℕ → Type 0
  -- p is a path of carrier i for task j, with no heed to constraints
  pub Legal : (i j : ℕ) (p : Path) → Type 0
  -- the constraint may occur in a search
  pub Fit : Constraint → Type 0
  -- p, as a path of carrier i, keeps the constraint
  pub Keeps : (i : ℕ) (p : Path) → Constraint → Type 0
  -- the two paths collide
  pub Clash : Path → Path → Type 0

module _ {Path Constraint : Type 0} (w : Problem Path Constraint) (r : Rules Path Constraint) where
  -- each carrier's path is legal for its task
  abbrev pub Legals : List ℕ → List Path → Type 0
  Legals a ps = (i : ℕ) → i < w.count → r.Legal i (task_of w a i) (path_at w ps i)

  -- no two of the paths collide
  abbrev pub Apart : List Path → Type 0
  Apart ps = (i j : ℕ) → i < j → j < w.count → ¬ r.Clash (path_at w ps i) (path_at w ps j)

  -- an assignment with a path for each carrier and its task, and no collision
  pub record IsPlan (a : List ℕ) (ps : List Path) : Type 0 where
    pub assigned : r.IsAsg a
    pub a_path_each : length ps ≡ w.count
    pub legal : Legals a ps
    pub apart : Apart ps

  abbrev pub Fits : List Constraint → Type 0
  Fits cs = (c : Constraint) → Mem c cs → r.Fit c

  abbrev pub KeepsAll : (i : ℕ) (p : Path) → List Constraint → Type 0
  KeepsAll i p cs = (c : Constraint) → Mem c cs → r.Keeps i p c

  -- p is a path of carrier i for task j that keeps the constraints
  abbrev pub Under : (i j : ℕ) → List Constraint → Path → Type 0
  Under i j cs p = r.Legal i j p × KeepsAll i p cs

  -- what is said of the least path, or of none: no such path finishes earlier, or there is no such path
  abbrev pub IsLeast : (i j : ℕ) → List Constraint → Option Path → Type 0
  IsLeast i j cs None = (q : Path) → ¬ Under i j cs q
  IsLeast i j cs (Some p) = Under i j cs p × ((q : Path) → Under i j cs q → w.finish j p ≤ w.finish j q)

  -- the path of the carrier that the constraint binds keeps it
  abbrev pub KeepsOwn : List Path → Constraint → Type 0
  KeepsOwn ps c = r.Keeps (w.bound c) (path_at w ps (w.bound c)) c

  -- what is said of the first collision's two constraints, or of none: paths that do not collide keep one or the other, or these
  -- paths do not collide
  abbrev pub Splits : List Path → Option (Constraint × Constraint) → Type 0
  Splits ps None = Apart ps
  Splits ps (Some cc) =
      r.Fit cc.0 × r.Fit cc.1 × ((qs : List Path) → Apart qs → KeepsOwn qs cc.0 ⊎ KeepsOwn qs cc.1)

  -- each carrier has a path for its task
  abbrev pub Served : List ℕ → Type 0
  Served a = (i : ℕ) → i < w.count → (p : Path) × r.Legal i (task_of w a i) p

  -- the costs of the roots do not fall along the list
  abbrev pub Rising : List (List ℕ) → Type 0
  Rising [] = Unit {0}
  Rising (a ∷ l) = ((b : List ℕ) → Mem b l → (root_of w a).cost ≤ (root_of w b).cost) × Rising l

  -- What the parts of the problem owe the search
  pub record Laws : Type 0 where
    pub binds_one : (c : Constraint) (i : ℕ) (p : Path) → i ≢ w.bound c → r.Keeps i p c
    pub binds_below : (c : Constraint) → r.Fit c → w.bound c < w.count
    pub least : (i j : ℕ) (cs : List Constraint) → i < w.count → Fits cs → IsLeast i j cs (w.least i j cs)
    pub collision : (a : List ℕ) (ps : List Path) → Legals a ps → Splits ps (w.collision ps)
    -- the assignments are exactly those with a path for each carrier
    pub assignments_sound : (a : List ℕ) → Mem a w.assignments → r.IsAsg a × Served a
    pub assignments_all : (a : List ℕ) → r.IsAsg a → Served a → Mem a w.assignments
    pub assignments_rising : Rising w.assignments

  -- there is no plan
  abbrev pub NoPlans : Type 0
  NoPlans = (a : List ℕ) (ps : List Path) → ¬ IsPlan a ps

  -- no plan, under any assignment, has a flowtime below b
  abbrev pub NoPlanBelow : ℕ → Type 0
  NoPlanBelow b = (a : List ℕ) (ps : List Path) → IsPlan a ps → b ≤ flowtime w a ps

  -- The answer is right, for any selection rule: `Near f b` is what the rule promises of the cost f of a node that it takes and of
  -- its bound b
  module _ (Near : ℕ → ℕ → Type 0) where
    abbrev pub Right : Answer Path → Type 0
    Right (plan a ps f n b) = IsPlan a ps × (f ≡ flowtime w a ps) × Near f b × NoPlanBelow b
    Right (no_plan n) = NoPlans
    Right (spent n b) = NoPlanBelow b

  -- Demand 3: the answer is right, and a plan has least flowtime
  abbrev pub Best : Answer Path → Type 0
  Best (plan a ps f n b) = IsPlan a ps × (f ≡ flowtime w a ps) × (b ≡ f) × NoPlanBelow f
  Best (no_plan n) = NoPlans
  Best (spent n b) = NoPlanBelow b
