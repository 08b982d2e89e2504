-- What an answer of the least-path call says of paths, by the meaning. Assumes nothing.
use Rattle.std.specs.Prelude.{ℕ, suc, ◌≡◌, List, length, take, Option, None, Some, Result, Ok, Err}
use Rattle.deck.specs.Sheet.{read, horizon_of}
use Rattle.deck.specs.Calls.{constraints_of, path_cause}
use Rattle.deck.specs.declared.Carrier.{Carrier}
use Rattle.deck.specs.declared.Task.{Task}
use Rattle.deck.specs.declared.cause.Cause.{Cause}
use Rattle.meaning.specs.Meaning.{PathUnder, LeastPath}

-- "It answers the finish, or none exactly if there is no such path": of a call that is accepted, the first H + 1 words of the output
-- afterwards are the least path, or there is no path; else the cause. The cases exclude each other
abbrev pub Meant : List ℕ → Carrier → Task → (work out rs : List ℕ) → Result (Option ℕ) Cause → (out' : List ℕ) → Type 0
Meant s i j work out rs (Ok (Some t)) out' =
    (path_cause s i j (length work) (length out) rs ≡ None)
    × LeastPath (read s) i j (constraints_of rs) (take (suc (horizon_of s)) out') t
Meant s i j work out rs (Ok None) out' =
    (path_cause s i j (length work) (length out) rs ≡ None)
    × ((p : List ℕ) (t : ℕ) → ¬ PathUnder (read s) i j (constraints_of rs) p t)
Meant s i j work out rs (Err c) out' = path_cause s i j (length work) (length out) rs ≡ Some c
