-- What an answer of the first-collision call says of the paths, by the meaning. Assumes nothing.
use Rattle.std.specs.Prelude.{ℕ, suc, ◌≡◌, List, Option, None, Some, Result, Ok, Err}
use Rattle.deck.specs.Lists.{pieces}
use Rattle.deck.specs.Calls.{collision_cause}
use Rattle.deck.specs.declared.Collision.{Collision}
use Rattle.deck.specs.declared.cause.Cause.{Cause}
use Rattle.meaning.specs.Meaning.{Collided, FirstCollision}

-- of a call that is accepted the first of the collisions, or that there is none; else the cause
abbrev pub Meant : ℕ → ℕ → List ℕ → Result (Option Collision) Cause → Type 0
Meant m h ws (Ok (Some c)) = (collision_cause m h ws ≡ None) × FirstCollision m h (pieces m (suc h) ws) c
Meant m h ws (Ok None) = (collision_cause m h ws ≡ None) × ((c : Collision) → ¬ Collided m h (pieces m (suc h) ws) c)
Meant m h ws (Err n) = collision_cause m h ws ≡ Some n
