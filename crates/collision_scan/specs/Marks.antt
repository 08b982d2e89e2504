-- Times without collisions, and the marks that show them: carrier i leaves 16 × (t + 1) + i on its place at t. Assumes nothing.
use Rattle.std.specs.Prelude.{ℕ, ◌+◌, ◌*◌, ◌<◌, ◌≡◌, false, List, length, get_or}
use Rattle.collision_scan.specs.Words.{place_in, meets, exchanges}

-- no two of the m carriers are on one place at t
abbrev pub Apart : List ℕ → ℕ → ℕ → ℕ → Type 0
Apart ws n m t = (i j : ℕ) → i < j → j < m → meets ws n i j t ≡ false

-- no two exchange their places between t and t + 1
abbrev pub Unexchanged : List ℕ → ℕ → ℕ → ℕ → Type 0
Unexchanged ws n m t = (i j : ℕ) → i < j → j < m → exchanges ws n i j t ≡ false

-- there is no collision before time r
abbrev pub Calm : List ℕ → ℕ → ℕ → ℕ → Type 0
Calm ws n m r = (t : ℕ) → t < r → Apart ws n m t × Unexchanged ws n m t

-- the places at t have the marks of t
abbrev pub Marked : List ℕ → ℕ → ℕ → ℕ → List ℕ → Type 0
Marked ws n m t marks = (i : ℕ) → i < m → get_or marks (place_in ws n i t) 0 ≡ 16 * (t + 1) + i

-- A place with this mark is free for carrier i at t, where s is the time before
pub record Free (ws : List ℕ) (n i s t mark : ℕ) : Type 0 where
  -- no mark of t
  pub unmarked : mark < 16 * (t + 1)
  -- a carrier that was there at s does not go to i's place
  pub other : (j : ℕ) → mark ≡ 16 * t + j → (j ≡ i → ⊥) → place_in ws n j t ≡ place_in ws n i s → ⊥

-- What the marks show of the time t and of the step from s to it
pub record Passed (ws : List ℕ) (n m s t : ℕ) (marks : List ℕ) : Type 0 where
  pub size : length marks ≡ 1024
  pub apart : Apart ws n m t
  pub unexchanged : 0 < t → Unexchanged ws n m s
  pub marked : Marked ws n m t marks
