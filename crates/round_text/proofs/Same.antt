-- The listing of what the search left is that of the sheet, whatever the lent words held before. Assumes nothing.
use Rattle.std.proofs.Common.{ℕ, ◌≡◌, refl, ap, ap₂, ◌∙◌, List, length, drop, replicate, Option, None, Some, Result, Ok}
use Rattle.deck.specs.Lists.{flat}
use Rattle.deck.specs.Sheet.{Sheet, read, sheet_cause}
use Rattle.deck.specs.Search.{Answer, plan, no_plan, spent}
use Rattle.deck.specs.Planner.{round_of}
use Rattle.deck.specs.Calls.{search_cause, search_found, search_written, search_answer_for, search_output_for, search_answer, search_output, SearchCall}
use Rattle.deck.specs.Numbers.{search_numbers}
use Rattle.deck.proofs.Told.{search_answered}
use Rattle.deck.specs.Listing.{listing_for, listing}
use Rattle.deck.specs.declared.cause.Cause.{Cause}
use Rattle.deck.specs.declared.SearchAnswer.{SearchAnswer}
use Rattle.deck.specs.declared.SearchAnswer.TheVariants.{Plan, NoPlan, Spent}
use Rattle.meaning.specs.Meaning.{Right}
use Rattle.optimal.proofs.Written.{plan_pieces, round_right}
use Rattle.meaning.proofs.Accepted.{search_accepted}
use Rattle.listing.specs.Listed.{Listable}

accepted_listable : (s : List ℕ) → sheet_cause s ≡ None → (a : SearchAnswer) → Listable s (Ok a)
accepted_listable s ok (Plan tasks f n b) = ok
accepted_listable s ok (NoPlan n) = tt
accepted_listable s ok (Spent n b) = tt

-- a plan's paths are written over the first words, and nothing else is listed with words of the output
found_same : (d : Sheet) (out other : List ℕ) (x : Answer (List ℕ)) → Right d x
    → listing_for d (Ok (search_found x)) (search_written x out) ≡ listing_for d (Ok (search_found x)) (search_written x other)
unfolding search_found search_written listing_for
found_same d out other (plan a ps f n b) ((fs, p, e), same, least) =
    rw (plan_pieces d a ps fs (drop (length (flat ps)) out) p, plan_pieces d a ps fs (drop (length (flat ps)) other) p) refl
found_same d out other (no_plan n) right = refl
found_same d out other (spent n b) right = refl

module _ (s out other : List ℕ) where
  same_for : (c : Option Cause) → search_cause s 16384 3072 ≡ c
      → Listable s (search_answer_for c (read s))
      × (listing_for (read s) (search_answer_for c (read s)) (search_output_for c (read s) out)
      ≡ listing_for (read s) (search_answer_for c (read s)) (search_output_for c (read s) other))
  unfolding search_answer_for search_output_for listing_for
  same_for None e =
      let ok : sheet_cause s ≡ None = (search_accepted s 16384 3072 e).0 in
      (accepted_listable s ok (search_found (round_of (read s))), found_same (read s) out other (round_of (read s)) (round_right s ok))
  same_for (Some c) e = (tt, refl)

module _ (s out : List ℕ) (words : length out ≡ 3072) where
  answer_same : Listable s (search_answer s 16384 3072)
      × (listing_for (read s) (search_answer s 16384 3072) (search_output s 16384 out) ≡ listing s)
  unfolding search_answer search_output listing
  answer_same = rw words (same_for s out (replicate 3072 0) (search_cause s 16384 3072) refl)

-- THE TEXT of a call that was lent so many words: what is listed of its answer and output is listed of the sheet
pub call_listed : {s work out work' out' t : List ℕ} (answer : Result SearchAnswer Cause) → length work ≡ 16384 → length out ≡ 3072
    → SearchCall s work out (search_numbers answer) work' out' → (Listable s answer → t ≡ listing_for (read s) answer out') → t ≡ listing s
call_listed {s} {out} {out'} answer w o call listed =
    let same : Listable s answer × (listing_for (read s) answer out' ≡ listing s) =
    rw (search_answered answer call ∙ ap₂ (search_answer s) w o, call.written ∙ ap (λ n. search_output s n out) w) (answer_same s out o) in
    listed same.0 ∙ same.1
