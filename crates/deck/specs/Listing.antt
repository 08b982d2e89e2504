-- What the program deckround prints, byte for byte: document 01, "Rounds worked out". Assumes nothing.
use Rattle.std.specs.Prelude.{ℕ, zero, suc, ◌+◌, ◌/◌, ◌%◌, cond, List, [], ◌∷◌, ◌++◌, replicate, ltb, Result, Ok, Err}
use Prim.Native.Char.{code}
use Prim.Native.String.{String, len, char_at}
use Rattle.deck.specs.Causes.{number}
use Rattle.deck.specs.Lists.{◌at◌, path_of, below, each, pieces}
use Rattle.deck.specs.Sheet.{Sheet, read, task}
use Rattle.deck.specs.Paths.{finish_of}
use Rattle.deck.specs.Calls.{search_answer, search_output}
use Rattle.deck.specs.declared.cause.Cause.{Cause}
use Rattle.deck.specs.declared.SearchAnswer.{SearchAnswer}
use Rattle.deck.specs.declared.SearchAnswer.TheVariants.{Plan, NoPlan, Spent}

-- the digits of n before those of `after`, with fuel for as many
unfoldable pub digits : ℕ → ℕ → List ℕ → List ℕ
digits zero n after = after
digits (suc fuel) n after =
    let here = (48 + n % 10) ∷ after in
    let more = digits fuel (n / 10) here in
    cond (ltb n 10) here more

-- n in decimal: n + 1 digits are always enough
unfoldable pub decimal : ℕ → List ℕ
decimal n = digits (suc n) n []

-- the bytes of a text of plain characters, from byte i on
unfoldable pub text_from : ℕ → ℕ → String → List ℕ
text_from zero i s = []
text_from (suc n) i s = code (char_at s i) ∷ text_from n (suc i) s

unfoldable pub text : String → List ℕ
text s = text_from (len s) 0 s

-- numbers with a space between
unfoldable pub spaced : List ℕ → List ℕ
spaced [] = []
spaced (x ∷ []) = decimal x
spaced (x ∷ y ∷ l) = decimal x ++ text " " ++ spaced (y ∷ l)

-- "carrier, its task, its finish, its places"
unfoldable pub carrier_line : Sheet → ℕ → ℕ → List ℕ → List ℕ
carrier_line d i j p =
    text "carrier " ++ decimal i ++ text " task " ++ decimal j ++ text " finish " ++ decimal (finish_of d (task j) p) ++ text ": "
    ++ spaced p ++ text "\n"

-- the lines of a plan, of its task list and its paths
unfoldable pub carrier_lines : Sheet → List ℕ → List (List ℕ) → List ℕ
carrier_lines d tasks ps = each (λ i. carrier_line d i (tasks at i) (path_of ps i)) (below d.count)

-- of the answer, and of the words of output
unfoldable pub listing_for : Sheet → Result SearchAnswer Cause → List ℕ → List ℕ
listing_for d (Ok (Plan tasks f n b)) out =
    text "plan " ++ decimal f ++ text " nodes " ++ decimal n ++ text "\n"
    ++ carrier_lines d tasks (pieces d.count (suc d.horizon) out)
listing_for d (Ok (NoPlan n)) out = text "none nodes " ++ decimal n ++ text "\n"
listing_for d (Ok (Spent n b)) out = text "spent " ++ decimal b ++ text " nodes " ++ decimal n ++ text "\n"
listing_for d (Err c) out = text "refused " ++ decimal (number c) ++ text "\n"

-- "It lends 16384 words of workspace and 3072 of output"; what they held before changes nothing, here 0
unfoldable pub listing : List ℕ → List ℕ
listing s = listing_for (read s) (search_answer s 16384 3072) (search_output s 16384 (replicate 3072 0))
