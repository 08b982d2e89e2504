-- What holds of every byte. Assumes nothing.
use Rattle.std.proofs.Common.{ℕ, ◌<◌, true, ◌≡◌, refl, arith, le-leb}
pub use Rattle.std.proofs.Math.Bool.{and_assoc}
use Rattle.deck.specs.Lists.{within}

pub all_bytes : (x : ℕ) → x < 256 → within 0 255 x ≡ true
all_bytes x h = rw (le-leb 0 x (omega arith), le-leb x 255 (omega arith)) refl
