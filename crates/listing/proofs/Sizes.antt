-- A buffer of 20480 bytes holds the listing of every answer whole, whatever the words of its output are. Assumes nothing.
use Rattle.std.proofs.Common.{ℕ, zero, suc, ◌+◌, ◌*◌, ◌^◌, ◌≤◌, ◌<◌, List, [], ◌∷◌, length, get_or, take, drop, None, Result, Ok, Err, ◌≡◌, refl, ap, ◌∙◌, arith, length-append, length-take}
use Rattle.std.proofs.lemmas.Fmt.{length-decimal-le}
use Rattle.std.proofs.lemmas.List.{take_all, get_or-drop}
use Rattle.std.proofs.Math.Nat.{suc-mul}
use Rattle.deck.specs.Causes.{number}
use Rattle.deck.specs.Lists.{path_of, count_from, each, pieces}
use Rattle.deck.specs.Sheet.{Sheet, read, sheet_cause, count_of, horizon_of, task}
use Rattle.deck.specs.Paths.{finish_of}
use Rattle.deck.specs.Listing.{decimal, text, text_from, spaced, carrier_line, carrier_lines, listing_for}
use Rattle.deck.specs.declared.cause.Cause.{Cause}
use Rattle.deck.specs.declared.SearchAnswer.{SearchAnswer}
use Rattle.deck.specs.declared.SearchAnswer.TheVariants.{Plan, NoPlan, Spent}
use Rattle.meaning.proofs.Finish.{finish_most}
use Rattle.meaning.proofs.Dark.{most_carriers, short_horizon}
use Rattle.meaning.proofs.Lists.{piece_at}
use Rattle.listing.specs.Wrote.{Wrote}
use Rattle.listing.specs.Listed.{Listable, listed, lines_of, Fits}
use Rattle.listing.proofs.Decimals.{decimal_is}

-- a number below 10 ^ k has at most k digits
-- Kept: `decimal` is document 01's here; std's lemma speaks of std's, and `decimal_is` leads from one to the other.
pub decimal_size : (k n : ℕ) → 0 < k → n < 10 ^ k → n < 2 ^ 64 → length (decimal n) ≤ k
decimal_size k n z h f = rw (← decimal_is n f) (length-decimal-le k n z h f)

-- every word has at most five digits, and what is read past the end is 0
abbrev pub Words : List ℕ → Type 0
Words l = (k : ℕ) → get_or l k 0 < 65536

-- a word of five digits and a space
spaced_size : (l : List ℕ) → Words l → length (spaced l) ≤ 6 * length l
unfolding spaced text text_from
spaced_size [] h = omega arith
spaced_size (x ∷ []) h = omega (arith, decimal_size 5 x (omega arith) (omega (arith, h 0)) (omega (arith, h 0)))
spaced_size (x ∷ y ∷ l) h =
    let r = spaced_size (y ∷ l) (λ k. h (suc k)) in
    simp length-append (omega (arith, decimal_size 5 x (omega arith) (omega (arith, h 0)) (omega (arith, h 0))))

take_words : (n : ℕ) (l : List ℕ) → Words l → Words (take n l)
take_words zero l h k = omega arith
take_words (suc n) [] h k = omega arith
take_words (suc n) (x ∷ l) h zero = h 0
take_words (suc n) (x ∷ l) h (suc k) = take_words n l (λ i. h (suc i)) k

drop_words : (n : ℕ) (l : List ℕ) → Words l → Words (drop n l)
drop_words n l h k = rw (get_or-drop n l k 0) (h (n + k))

line_size : (d : Sheet) (i j : ℕ) (p : List ℕ) → i < 12 → j < 256 → length p ≤ 256 → Words p → length (carrier_line d i j p) ≤ 1569
unfolding carrier_line text text_from
line_size d i j p hi hj hp h =
    let f : finish_of d (task j) p ≤ length p = finish_most d (task j) p in
    let a = decimal_size 2 i (omega arith) (omega arith) (omega arith) in
    let b = decimal_size 3 j (omega arith) (omega arith) (omega arith) in
    let c = decimal_size 3 (finish_of d (task j) p) (omega arith) (omega arith) (omega arith) in
    simp length-append (omega (arith, spaced_size p h))

each_size : (f : ℕ → List ℕ) (size k n : ℕ) → ((i : ℕ) → i < k + n → length (f i) ≤ size) → length (each f (count_from k n)) ≤ n * size
each_size f size k zero h = omega arith
each_size f size k (suc n) h =
    let r = each_size f size (suc k) n (λ i l. h i (omega arith)) in
    simp length-append (omega (arith, h k (omega arith), suc-mul n size))

number_size : (n : ℕ) → n < 2 ^ 64 → length (decimal n) ≤ 20
number_size n h = decimal_size 20 n (omega arith) (omega arith) h

module _ (s out : List ℕ) (p : Words out) where
  lines_size : (tasks : List ℕ) → sheet_cause s ≡ None → ((i : ℕ) → get_or tasks i 0 < 256) → length (lines_of s tasks out) ≤ 12 * 1569
  unfolding carrier_lines
  lines_size tasks ok t =
      let r : length (lines_of s tasks out) ≤ count_of s * 1569 =
      each_size (λ i. carrier_line (read s) i (get_or tasks i 0) (path_of (pieces (count_of s) (suc (horizon_of s)) out) i)) 1569 0 (count_of s) line in
      omega (arith, most_carriers s ok)
    where
      line : (i : ℕ) → i < 0 + count_of s → length (carrier_line (read s) i (get_or tasks i 0) (path_of (pieces (count_of s) (suc (horizon_of s)) out) i)) ≤ 1569
      line i l =
          let n = suc (horizon_of s) in
          let long : length (take n (drop (i * n) out)) ≤ 256 = simp length-take (omega (arith, short_horizon s ok)) in
          rw (piece_at (count_of s) n out i (omega arith))
          (line_size (read s) i (get_or tasks i 0) (take n (drop (i * n) out)) (omega (arith, most_carriers s ok)) (t i) long (take_words n (drop (i * n) out) (drop_words (i * n) out p)))

  -- THE SIZE
  pub listing_size : (a : Result SearchAnswer Cause) → Listable s a → Fits a → length (listing_for (read s) a out) ≤ 20480
  unfolding listing_for text text_from
  listing_size (Ok (Plan tasks f n b)) ok (x, y, t) = simp length-append (omega (arith, number_size f x, number_size n y, lines_size tasks ok t))
  listing_size (Ok (NoPlan n)) ok x = simp length-append (omega (arith, number_size n x))
  listing_size (Ok (Spent n b)) ok (x, y) = simp length-append (omega (arith, number_size n x, number_size b y))
  listing_size (Err c) ok x = simp length-append (omega (arith, number_size (number c) x))

  -- where it is listable at all, it is what is listed
  pub listed_is : (a : Result SearchAnswer Cause) → Listable s a → listed s a out ≡ listing_for (read s) a out
  unfolding listed
  listed_is (Ok (Plan tasks f n b)) ok = rw ok refl
  listed_is (Ok (NoPlan n)) ok = refl
  listed_is (Ok (Spent n b)) ok = refl
  listed_is (Err c) ok = refl

  -- a text of 20480 bytes is not cut off
  pub whole : {b c : List ℕ} {r : ℕ} (a : Result SearchAnswer Cause) → Fits a → Wrote b 0 (listed s a out) c r → Listable s a → 20480 ≤ length b
      → take r c ≡ listing_for (read s) a out
  whole {b} a f w ok room =
      w.held ∙ ap (take (length b)) (listed_is a ok) ∙ take_all (length b) (listing_for (read s) a out) (omega (arith, listing_size a ok f))
