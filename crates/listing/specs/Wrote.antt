-- Bytes written into a lent buffer from a place on; what does not fit is cut off. Assumes nothing.
use Rattle.std.specs.Prelude.{ℕ, ◌≤◌, ◌≡◌, List, ◌++◌, length, take, drop}

-- `bytes` were written from `at` on, and r is the place after them. The bytes from r on are left as they were
pub record Wrote (before : List ℕ) (at : ℕ) (bytes after : List ℕ) (r : ℕ) : Type 0 where
  pub same : length after ≡ length before
  pub inside : r ≤ length before
  pub held : take r after ≡ take (length before) (take at before ++ bytes)
  pub rest : drop r after ≡ drop r before
