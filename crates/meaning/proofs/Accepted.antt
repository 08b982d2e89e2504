-- What a sheet without causes gives: 1 to 12 carriers, a node limit of at least 1, a horizon of at most 255, each stretch of the
-- directory inside the sheet, each carrier's start on the grid, and last goals that differ; and what an accepted search was lent.
-- Assumes nothing.
use Rattle.std.proofs.Common.{ℕ, zero, suc, ◌+◌, ◌*◌, ◌≤◌, ◌<◌, ◌≡◌, refl, sym, ap, ◌∙◌, ◌⊎◌, inl, inr, Bool, true, false, ◌&&◌, not, List, [], ◌∷◌, map, eq-or-lt_of_le, arith, T, leb, ltb, eqb, leb→le, ltb→lt, eqb→eq, length, length-take, length-drop, None, Option, Some, Ok, Err}
use Rattle.std.proofs.lemmas.List.{length-map}
use Rattle.std.proofs.Math.ListN.{get_or-map}
use Rattle.deck.specs.declared.Stretch.{Stretch}
use Rattle.deck.specs.Causes.{unless, ◌or_else◌, answer_unless}
use Rattle.deck.specs.Lists.{below, within, all, distinct, last}
use Rattle.deck.specs.Sheet.{area, grid_byte, carrier, task, start_of, last_goal, byte_at, width_of, height_of, count_of, horizon_of, limit_of, part, pair_at, pairs_for, starts_pair, directory_end, grid_stretch, starts_stretch, task_stretch, words, read, free, chained, goals_size, good_header, good_directory, good_grid, good_starts, good_goals, good_last_goals, cause, sheet_cause}
use Rattle.deck.specs.Calls.{workspace_of, workspace_cause, plan_words, search_cause}
use Rattle.meaning.proofs.Tests.{Says, says_itself, says_eqb, says_leb, says_and}
use Rattle.std.specs.Prelude.{⊤}
use Rattle.std.proofs.lemmas.Result.{MatchResult-at_ok, MatchResult-at_err}
use Rattle.std.proofs.lemmas.Option.{none-some}
use Rattle.deck.specs.declared.cause.Cause.{Cause}
use Rattle.meaning.proofs.Lists.{length_below}
use Rattle.meaning.proofs.ListTests.{says_all_at, says_distinct}

both : (a b : Bool) → T (a && b) → T a × T b
both true b t = (tt, t)
both false b t = absurd t

-- a cause that does not hold leaves the next ones
passes : (b : Bool) (c : Cause) {d : Option Cause} → (unless b c or_else d) ≡ None → T b × (d ≡ None)
passes true c e = (tt, e)
passes false c e = absurd (none-some _ (sym e))

pub first_none : (c : Option Cause) {e : Option Cause} → (c or_else e) ≡ None → (c ≡ None) × (e ≡ None)
first_none None h = (refl, h)
first_none (Some c) h = absurd (none-some _ (sym h))

-- the last cause does not hold
pub passes_last : (b : Bool) (c : Cause) → unless b c ≡ None → T b
passes_last true c e = tt
passes_last false c e = absurd (none-some _ (sym e))

-- The tests that an accepted sheet passes
pub record Accepted (s : List ℕ) : Type 0 where
  pub header : T (good_header s)
  pub directory : T (good_directory s)
  pub grid : T (good_grid (read s))
  pub starts : T (good_starts (read s))
  pub goals : T (good_goals (read s))
  pub last_goals : T (good_last_goals (read s))

pub accepted : (s : List ℕ) → cause s ≡ None → Accepted s
unfolding cause
accepted s e =
    let c1 = passes (leb 8 (length s)) _ e in
    let c2 = passes (good_header s) _ c1.1 in
    let c3 = passes (good_directory s) _ c2.1 in
    let c4 = passes (good_grid (read s)) _ c3.1 in
    let c5 = passes (good_starts (read s)) _ c4.1 in
    let c6 = passes (good_goals (read s)) _ c5.1 in
    record {
      header = c2.0;
      directory = c3.0;
      grid = c4.0;
      starts = c5.0;
      goals = c6.0;
      last_goals = passes_last (good_last_goals (read s)) _ c6.1;
    }

-- The header
abbrev Range : ℕ → ℕ → ℕ → Type 0
Range a b x = (a ≤ x) × (x ≤ b)

says_within : {a b x : ℕ} → Says (within a b x) (Range a b x)
says_within = says_and says_leb says_leb

pub header_says : (s : List ℕ) → Says (good_header s)
    ((((((Range 1 32 (width_of s) × Range 1 32 (height_of s)) × Range 1 12 (count_of s)) × Range 0 255 (horizon_of s)) × Range 1 4096 (limit_of s))
    × (byte_at s 6 ≡ 0))
    × (byte_at s 7 ≡ 0))
unfolding good_header
header_says s =
    says_and (says_and (says_and (says_and (says_and (says_and says_within says_within) says_within) says_within) says_within) says_eqb) says_eqb

-- The directory
pub directory_says : (s : List ℕ) → Says (good_directory s)
    (((((directory_end s ≤ length s) × T (chained s (pairs_for (count_of s)) 0 (directory_end s))) × ((grid_stretch s).size ≡ width_of s * height_of s))
    × ((starts_stretch s).size ≡ 2 * count_of s))
    × T (all (λ j. goals_size (task_stretch s (task j)).size) (below (count_of s))))
unfolding good_directory
directory_says s = says_and (says_and (says_and (says_and says_leb says_itself) says_eqb) says_eqb) says_itself

-- the stretch ends inside the sheet
abbrev pub Inside : List ℕ → Stretch → Type 0
Inside s r = r.offset + r.size ≤ length s

module _ (s : List ℕ) where
  chained_end : (n k o : ℕ) → T (chained s n k o) → o ≤ length s
  unfolding chained
  chained_end zero k o t = omega (arith, eqb→eq o (length s) t)
  chained_end (suc n) k o t =
      let h = both (eqb (pair_at s k).offset o) (chained s n (suc k) (o + (pair_at s k).size)) t in
      omega (arith, chained_end n (suc k) (o + (pair_at s k).size) h.1)

  chained_inside : (n k o : ℕ) → T (chained s n k o) → (i : ℕ) → k ≤ i → i < k + n → Inside s (pair_at s i)
  unfolding chained
  chained_inside zero k o t i a b = absurd (omega arith)
  chained_inside (suc n) k o t i a b =
      let h = both (eqb (pair_at s k).offset o) (chained s n (suc k) (o + (pair_at s k).size)) t in
      go h.0 (chained_end n (suc k) (o + (pair_at s k).size) h.1) (λ l. chained_inside n (suc k) (o + (pair_at s k).size) h.1 i l (omega arith)) (eq-or-lt_of_le a)
    where
      go : T (eqb (pair_at s k).offset o) → o + (pair_at s k).size ≤ length s → (k < i → Inside s (pair_at s i)) → (k ≡ i) ⊎ (k < i) → Inside s (pair_at s i)
      go u l later (inl e) = rw (← e) (omega (arith, eqb→eq (pair_at s k).offset o u))
      go u l later (inr h) = later h

  length_part : (r : Stretch) → Inside s r → length (part s r) ≡ r.size
  length_part r h = simp (length-take, length-drop) (omega arith)

length_words : (m : ℕ) (l : List ℕ) → length l ≡ 2 * m → length (words l) ≡ m
unfolding words
length_words m [] e = omega arith
length_words m (a ∷ []) e = absurd (omega arith)
length_words zero (a ∷ b ∷ l) e = absurd (omega arith)
length_words (suc m) (a ∷ b ∷ l) e = ap suc (length_words m l (omega arith))

module _ (s : List ℕ) (ok : cause s ≡ None) where
  pub accepted_count : (1 ≤ (read s).count) × ((read s).count ≤ 12)
  accepted_count = ((header_says s).fact (accepted s ok).header).0.0.0.0.1

  pub accepted_limit : 1 ≤ (read s).limit
  accepted_limit = ((header_says s).fact (accepted s ok).header).0.0.1.0

  pub accepted_horizon : (read s).horizon ≤ 255
  accepted_horizon = ((header_says s).fact (accepted s ok).header).0.0.0.1.1

  -- each pair of the directory names a stretch inside the sheet
  pub accepted_inside : (k : ℕ) → k < pairs_for (count_of s) → Inside s (pair_at s k)
  accepted_inside k h =
      let c = ((directory_says s).fact (accepted s ok).directory).0.0.0.1 in
      chained_inside s (pairs_for (count_of s)) 0 (directory_end s) c k (omega arith) (omega arith)

  -- each carrier has a start
  pub accepted_starts : length (read s).starts ≡ (read s).count
  accepted_starts =
      let size = ((directory_says s).fact (accepted s ok).directory).0.1 in
      let long = length_part s (starts_stretch s) (accepted_inside starts_pair (omega arith)) in
      length_words (count_of s) (part s (starts_stretch s)) (omega arith)

  -- and it is on the grid
  pub accepted_start : (i : ℕ) → i < (read s).count → start_of (read s) (carrier i) < area (read s)
  unfolding good_starts
  accepted_start i h =
      let v = start_of (read s) (carrier i) in
      let free_all = (both (all (free (read s)) (read s).starts) (distinct (read s).starts) (accepted s ok).starts).0 in
      let t = (says_all_at (free (read s)) (λ v. T (free (read s) v)) (λ v. says_itself) 0 (read s).starts).fact free_all i (omega (arith, accepted_starts)) in
      ltb→lt v (area (read s)) (both (ltb v (area (read s))) (not (eqb (grid_byte (read s) v) 1)) t).0

  -- no two tasks have one last goal
  pub last_goals_differ : (i j : ℕ) → i < (read s).count → j < (read s).count → last_goal (read s) (task i) ≡ last_goal (read s) (task j) → i ≡ j
  unfolding good_last_goals
  last_goals_differ i j a b e =
      let l = map (last 0) (read s).tasks in
      let long : length l ≡ (read s).count = length-map (read s).tasks (last 0) ∙ length_below (read s).count (λ k. words (part s (task_stretch s (task k)))) in
      (says_distinct l).fact (accepted s ok).last_goals i j (omega arith) (omega arith)
      (get_or-map (last 0) (read s).tasks i [] ∙ e ∙ sym (get_or-map (last 0) (read s).tasks j []))

-- what the search asks for beyond an accepted sheet
pub search_accepted : (s : List ℕ) (work out : ℕ) → search_cause s work out ≡ None → (sheet_cause s ≡ None) × (workspace_of (read s) ≤ work) × (plan_words (read s) ≤ out)
unfolding search_cause
search_accepted s work out e =
    let c1 = first_none (sheet_cause s) e in
    let c2 = first_none (workspace_cause (read s) work) c1.1 in (
      c1.0,
      leb→le (workspace_of (read s)) work (passes_last (leb (workspace_of (read s)) work) _ c2.0),
      leb→le (plan_words (read s)) out (passes_last (leb (plan_words (read s)) out) _ c2.1),
    )

-- a call that is accepted has no cause, and one that declines has that cause
module _ {A : Type 0} where
  pub none_of_ok : (c : Option Cause) (a b : A) → Ok b ≡ answer_unless c a → c ≡ None
  none_of_ok None a b e = refl
  none_of_ok (Some c) a b e = absurd (MatchResult-at_ok {E = Cause} (λ _. ⊥) (λ _. ⊤) b (sym e) tt)

  pub cause_of_err : (c : Option Cause) (a : A) (d : Cause) → Err d ≡ answer_unless c a → c ≡ Some d
  cause_of_err None a d e = absurd (MatchResult-at_err {T = A} (λ _. ⊤) (λ _. ⊥) d (sym e) tt)
  cause_of_err (Some c) a d e = ap (λ x. Some x) (MatchResult-at_err {T = A} (λ _. ⊤) (λ x. c ≡ x) d (sym e) refl)
