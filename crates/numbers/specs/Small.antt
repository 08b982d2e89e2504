-- Answers whose values fit words of 32 bits. Assumes nothing.
use Rattle.std.specs.Prelude.{ℕ, ◌<◌, Option, None, Some, Result, Ok, Err}
use Rattle.deck.specs.declared.Assignment.{Assignment}
use Rattle.deck.specs.declared.Collision.{Collision}
use Rattle.deck.specs.declared.Collision.TheVariants.{Place, Move}
use Rattle.deck.specs.declared.SearchAnswer.{SearchAnswer}
use Rattle.deck.specs.declared.SearchAnswer.TheVariants.{Plan, NoPlan, Spent}
use Rattle.deck.specs.declared.cause.Cause.{Cause}

-- 2 to the 32
abbrev pub word : ℕ
word = 4294967296

-- of a number that is found, as a finish, a sum or a flowtime
abbrev pub SmallNumber : Result (Option ℕ) Cause → Type 0
SmallNumber (Ok (Some n)) = n < word
SmallNumber (Ok None) = Unit {0}
SmallNumber (Err c) = Unit {0}

abbrev pub SmallAssignment : Result (Option Assignment) Cause → Type 0
SmallAssignment (Ok (Some a)) = a.sum < word
SmallAssignment (Ok None) = Unit {0}
SmallAssignment (Err c) = Unit {0}

abbrev pub SmallCollision : Collision → Type 0
SmallCollision (Place t i j u) = (t < word) × (i.0 < word) × (j.0 < word) × (u < word)
SmallCollision (Move t i j u v) = (t < word) × (i.0 < word) × (j.0 < word) × (u < word) × (v < word)

abbrev pub SmallFound : Result (Option Collision) Cause → Type 0
SmallFound (Ok (Some c)) = SmallCollision c
SmallFound (Ok None) = Unit {0}
SmallFound (Err c) = Unit {0}

abbrev pub SmallSearch : Result SearchAnswer Cause → Type 0
SmallSearch (Ok (Plan tasks f n b)) = (f < word) × (n < word) × (b < word)
SmallSearch (Ok (NoPlan n)) = n < word
SmallSearch (Ok (Spent n b)) = (n < word) × (b < word)
SmallSearch (Err c) = Unit {0}
