-- What is listed of an answer, for any sheet. Assumes nothing.
use Rattle.std.specs.Prelude.{ℕ, suc, ◌^◌, ◌<◌, ◌≡◌, List, [], ◌++◌, None, Result, Ok, Err, get_or}
use Rattle.deck.specs.Causes.{number, accepted_else}
use Rattle.deck.specs.Lists.{pieces}
use Rattle.deck.specs.Sheet.{read, sheet_cause, count_of, horizon_of}
use Rattle.deck.specs.Listing.{decimal, text, carrier_lines, listing_for}
use Rattle.deck.specs.declared.cause.Cause.{Cause}
use Rattle.deck.specs.declared.SearchAnswer.{SearchAnswer}
use Rattle.deck.specs.declared.SearchAnswer.TheVariants.{Plan, NoPlan, Spent}

-- only the lines of a plan speak of the sheet, and there the sheet has to be accepted
abbrev pub Listable : List ℕ → Result SearchAnswer Cause → Type 0
Listable s (Ok (Plan tasks f n b)) = sheet_cause s ≡ None
Listable s (Ok (NoPlan n)) = Unit {0}
Listable s (Ok (Spent n b)) = Unit {0}
Listable s (Err c) = Unit {0}

-- the listing; nothing where the answer says plan and the sheet is not accepted
unfoldable pub listed : List ℕ → Result SearchAnswer Cause → List ℕ → List ℕ
listed s (Ok (Plan tasks f n b)) out = accepted_else (sheet_cause s) (listing_for (read s) (Ok (Plan tasks f n b)) out) []
listed s (Ok (NoPlan n)) out = listing_for (read s) (Ok (NoPlan n)) out
listed s (Ok (Spent n b)) out = listing_for (read s) (Ok (Spent n b)) out
listed s (Err c) out = listing_for (read s) (Err c) out

-- the lines of the carriers
abbrev pub lines_of : List ℕ → List ℕ → List ℕ → List ℕ
lines_of s tasks out = carrier_lines (read s) tasks (pieces (count_of s) (suc (horizon_of s)) out)

-- those and the first line; nothing where the sheet is not accepted
abbrev pub plan_listed : List ℕ → List ℕ → ℕ → ℕ → List ℕ → List ℕ
plan_listed s tasks f n out =
    accepted_else (sheet_cause s) (text "plan " ++ decimal f ++ text " nodes " ++ decimal n ++ text "\n" ++ lines_of s tasks out) []

-- the numbers of an answer as its types hold them: words of 64 bits, and bytes
abbrev pub Fits : Result SearchAnswer Cause → Type 0
Fits (Ok (Plan tasks f n b)) = (f < 2 ^ 64) × (n < 2 ^ 64) × ((i : ℕ) → get_or tasks i 0 < 256)
Fits (Ok (NoPlan n)) = n < 2 ^ 64
Fits (Ok (Spent n b)) = (n < 2 ^ 64) × (b < 2 ^ 64)
Fits (Err c) = number c < 2 ^ 64
