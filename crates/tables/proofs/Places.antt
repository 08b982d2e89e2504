-- Digits and weights as the code reckons them. Assumes nothing.
use Rattle.std.proofs.Common.{◌≡◌, ℕ, ◌*◌, ◌≤◌, ◌<◌, arith, get_or, mul-le-mul_left}
use Rattle.deck.specs.Lists.{below}
use Rattle.meaning.proofs.Tests.{says_eqb, says_leb, says_and}
use Rattle.meaning.proofs.Lists.{mem_below}
use Rattle.meaning.proofs.ListTests.{says_all}
use Rattle.prices.specs.Weights.{place, place_of}
use Rattle.tables.specs.declared.TheConstants.{PLACES}

-- the places are those of the digits, and none is above the first
pub places_right : (i : ℕ) → i < 12 → (get_or PLACES i 0 ≡ place_of i) × (get_or PLACES i 0 ≤ 61917364224)
unfolding place_of place
places_right i l = (says_all _ (λ k. (get_or PLACES k 0 ≡ place_of k) × (get_or PLACES k 0 ≤ 61917364224)) (λ k. says_and says_eqb says_leb) (below 12)).fact tt i ((mem_below 12).1 l)

-- a digit at its place
pub digit_low : (p j : ℕ) → p ≤ 61917364224 → j < 12 → j * p ≤ 681091006464
digit_low p j h lj = omega (arith, mul-le-mul_left j h, lj)
