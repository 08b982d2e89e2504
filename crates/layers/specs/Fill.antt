-- A stretch of a list filled by a rule. Assumes nothing.
use Rattle.std.specs.Prelude.{ℕ, ◌≤◌, ◌<◌, ◌≡◌, List, length, get_or}

-- from lo to hi - 1 the list after has f at each index, and elsewhere what the list before had
pub record Filled (lo hi : ℕ) (f : ℕ → ℕ) (before after : List ℕ) : Type 0 where
  pub size : length after ≡ length before
  pub inside : (p : ℕ) → lo ≤ p → p < hi → get_or after p 0 ≡ f p
  pub below : (p : ℕ) → p < lo → get_or after p 0 ≡ get_or before p 0
  pub above : (p : ℕ) → hi ≤ p → get_or after p 0 ≡ get_or before p 0
