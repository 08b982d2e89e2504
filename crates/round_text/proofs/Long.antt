-- Sheets longer than any accepted one: what follows their first bytes changes neither cause nor listing. Assumes nothing.
use Rattle.std.proofs.Common.{ℕ, zero, suc, ◌+◌, ◌-◌, ◌*◌, ◌%◌, ◌≤◌, ◌<◌, ◌≡◌, refl, ap, subst, ◌∙◌, Bool, true, false, List, ◌++◌, mul-le-mul, arith, T, length, length-append, Option, Some}
use Rattle.std.proofs.lemmas.Bool.{le-leb}
use Rattle.std.proofs.lemmas.List.{get_or_append_left}
use Rattle.deck.specs.Causes.{unless, ◌or_else◌}
use Rattle.deck.specs.Lists.{below, all}
use Rattle.deck.specs.Sheet.{byte_at, count_of, pair_at, grid_pair, starts_pair, task_pair, pairs_for, grid_stretch, starts_stretch, task_stretch, task, directory_end, chained, goals_size, good_header, good_directory, cause, sheet_cause}
use Rattle.deck.specs.declared.cause.Cause.{Cause}
use Rattle.deck.specs.declared.cause.Cause.TheVariants.{BadHeader, BadDirectory}
use Rattle.deck.specs.Calls.{search_cause, search_answer_for, search_output_for, search_answer, search_output}
use Rattle.deck.specs.Listing.{listing_for, listing}
use Rattle.meaning.proofs.Tests.{says_itself, says_eqb, says_leb, says_and}
use Rattle.meaning.proofs.ListTests.{says_all_at}
use Rattle.meaning.proofs.Accepted.{header_says, directory_says}
use Rattle.meaning.proofs.Dark.{cause_with}
use Rattle.sheet_parts.proofs.Scans.{below_at, length_below}
use Rattle.round_text.specs.Longest.{longest}

-- NO ACCEPTED SHEET IS LONGER
goals_most : (n : ℕ) → T (goals_size n) → n ≤ 16
unfolding goals_size
goals_most n t = let h : ((2 ≤ n) × (n ≤ 16)) × (n % 2 ≡ 0) = (says_and (says_and says_leb says_leb) says_eqb).fact t in h.0.1

module _ (s : List ℕ) where
  says_chained : (n k o : ℕ) → T (chained s (suc n) k o) → ((pair_at s k).offset ≡ o) × T (chained s n (suc k) (o + (pair_at s k).size))
  unfolding chained
  says_chained n k o t = (says_and says_eqb says_itself).fact t

  -- pairs of at most 16 bytes each, from an offset to the sheet's end
  chained_most : (n k o : ℕ) → ((i : ℕ) → k ≤ i → i < k + n → (pair_at s i).size ≤ 16) → T (chained s n k o) → length s ≤ o + 16 * n
  unfolding chained
  chained_most zero k o h t = omega (arith, (says_eqb {a = o} {b = length s}).fact t)
  chained_most (suc n) k o h t =
      let r = chained_most n (suc k) (o + (pair_at s k).size) (λ i a b. h i (omega arith) (omega arith)) (says_chained n k o t).1 in
      omega (arith, h k (omega arith) (omega arith))

  task_most : T (all (λ j. goals_size (task_stretch s (task j)).size) (below (count_of s))) → (i : ℕ) → task_pair 0 ≤ i → i < task_pair (count_of s) → (pair_at s i).size ≤ 16
  task_most t i a b =
      let j : ℕ = i - task_pair 0 in
      let e : task_pair j ≡ i = omega arith in
      let sized : ℕ → Bool = λ k. goals_size (task_stretch s (task k)).size in
      let at = (says_all_at sized (λ k. T (sized k)) (λ k. says_itself) 0 (below (count_of s))).fact t j (omega (arith, length_below (count_of s))) in
      let size : T (goals_size (task_stretch s (task j)).size) = rw (below_at (count_of s) j (omega arith)) at at in
      subst (λ k. (pair_at s k).size ≤ 16) e (goals_most (task_stretch s (task j)).size size)

  at_most_longest : T (good_header s) → T (good_directory s) → length s ≤ longest
  at_most_longest header directory =
      let h = (header_says s).fact header in
      let d = (directory_says s).fact directory in
      let e : pairs_for (count_of s) ≡ suc (suc (count_of s)) = omega arith in
      let grid = (says_chained (suc (count_of s)) grid_pair (directory_end s) (subst (λ n. T (chained s n grid_pair (directory_end s))) e d.0.0.0.1)).1 in
      let starts = (says_chained (count_of s) starts_pair (directory_end s + (grid_stretch s).size) grid).1 in
      let most = chained_most (count_of s) (task_pair 0) (directory_end s + (grid_stretch s).size + (starts_stretch s).size) (task_most d.1) starts in
      omega (arith, h.0.0.0.0.1.1, d.0.0.1, d.0.1, mul-le-mul h.0.0.0.0.0.0.1 h.0.0.0.0.0.1.1)

-- THE CAUSE of a longer sheet is its header or its directory
module _ (s : List ℕ) (long : longest < length s) where
  by_header : (h d : Bool) (later : Option Cause) → good_header s ≡ h → good_directory s ≡ d → (unless h BadHeader or_else unless d BadDirectory or_else later) ≡ (unless h BadHeader or_else Some BadDirectory)
  by_header false d later e f = refl
  by_header true false later e f = refl
  by_header true true later e f = absurd (omega (arith, at_most_longest s (rw e tt) (rw f tt)))

  long_cause : sheet_cause s ≡ (unless (good_header s) BadHeader or_else Some BadDirectory)
  unfolding cause
  long_cause = cause_with s (λ e. omega arith) ∙ rw (le-leb 8 (length s) (omega arith)) (by_header (good_header s) (good_directory s) _ refl refl)

header_same : (s rest : List ℕ) → 8 ≤ length s → good_header (s ++ rest) ≡ good_header s
unfolding good_header
header_same s rest h = rw (at 0 (omega arith), at 1 (omega arith), at 2 (omega arith), at 3 (omega arith), at 4 (omega arith), at 5 (omega arith), at 6 (omega arith), at 7 (omega arith)) refl
  where
    at : (k : ℕ) → k < 8 → byte_at (s ++ rest) k ≡ byte_at s k
    at k l = get_or_append_left s rest 0 k (omega arith)

-- the listing of a refused sheet has its cause alone
refused_same : (s t : List ℕ) (c : Cause) → sheet_cause s ≡ Some c → sheet_cause t ≡ Some c → listing s ≡ listing t
unfolding listing search_answer search_output search_cause search_answer_for search_output_for listing_for
refused_same s t c e f = rw (e, f) refl

-- THE LISTING of a longer sheet is that of every sheet that begins with it
pub listing_long : (s rest : List ℕ) → longest < length s → listing s ≡ listing (s ++ rest)
listing_long s rest long = go (good_header s) refl
  where
    same : sheet_cause (s ++ rest) ≡ (unless (good_header s) BadHeader or_else Some BadDirectory)
    same =
        long_cause (s ++ rest) (simp length-append (omega arith))
        ∙ ap (λ h. unless h BadHeader or_else Some BadDirectory) (header_same s rest (omega arith))

    go : (h : Bool) → good_header s ≡ h → listing s ≡ listing (s ++ rest)
    go true e = refused_same s (s ++ rest) BadDirectory (long_cause s long ∙ rw e refl) (same ∙ rw e refl)
    go false e = refused_same s (s ++ rest) BadHeader (long_cause s long ∙ rw e refl) (same ∙ rw e refl)
