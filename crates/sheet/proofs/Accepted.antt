-- What a sheet without causes gives, beyond the laws of the crate meaning: the ranges of the header, the grid's length, starts and goals
-- on free places of the grid, how many goals a task has, and the bound on the workspace. Assumes nothing.
use Rattle.std.proofs.Common.{ℕ, suc, ◌-◌, ◌%◌, ◌≤◌, ◌<◌, ◌≡◌, refl, ◌∙◌, Bool, List, [], map, mul-le-mul, arith, T, leb, leb→le, length, get_or, length-take, length-drop, None}
use Rattle.std.proofs.Math.Decide.{dec_le}
use Rattle.std.proofs.Math.Nat.{one-le-mul}
use Rattle.std.proofs.Math.ListN.{get_or-eq_default}
use Rattle.deck.specs.declared.Stretch.{Stretch}
use Rattle.deck.specs.Lists.{below, all, distinct}
use Rattle.deck.specs.Sheet.{Sheet, area, grid_byte, carrier, task, start_of, goals_of, last_goal, most_goals, count_of, part, grid_pair, task_pair, grid_stretch, task_stretch, read, free, goals_size, good_grid, good_starts, good_goals, cause}
use Rattle.deck.specs.Calls.{workspace_for}
use Rattle.deck.specs.declared.Carrier.{Carrier}
use Rattle.deck.specs.declared.Task.{Task}
use Rattle.meaning.proofs.Tests.{Says, says_itself, says_eqb, says_leb, says_and, says_not}
use Rattle.meaning.proofs.ListTests.{says_all_at, says_distinct}
use Rattle.meaning.proofs.Accepted.{Inside, accepted, accepted_count, accepted_horizon, accepted_inside, accepted_starts, header_says, directory_says}
use Rattle.sheet_parts.proofs.Words.{length_words}
use Rattle.sheet_parts.proofs.Tasks.{goals_there, each_task_at}
-- of any sheet: as many lists of goals as tasks; past the last task no goals; the last of the goals by its index
pub use Rattle.sheet_parts.proofs.Tasks.{tasks_length, no_goals}
pub use Rattle.sheet_parts.proofs.Words.{last_of}
use Rattle.sheet_parts.proofs.Scans.{below_at, length_below, greatest_at_most, at_most_greatest}

-- the test of all elements, at an index
all_at : {A : Type 0} (f : A → Bool) (l : List A) (d : A) → T (all f l) → (k : ℕ) → k < length l → T (f (get_or l k d))
all_at f l d t = (says_all_at f (λ x. T (f x)) (λ x. says_itself) d l).fact t

length_part : (s : List ℕ) (r : Stretch) → Inside s r → length (part s r) ≡ r.size
length_part s r h = simp (length-take, length-drop) (omega arith)

-- a free place is on the grid and not blocked
pub free_says : (d : Sheet) (v : ℕ) → T (free d v) → (v < area d) × (grid_byte d v ≡ 1 → ⊥)
free_says d v t = (says_and says_leb (says_not says_eqb)).fact t

starts_say : (d : Sheet) → Says (good_starts d) (T (all (free d) d.starts) × T (distinct d.starts))
unfolding good_starts
starts_say d = says_and {a = all (free d) d.starts} {b = distinct d.starts} says_itself says_itself

goals_size_says : (n : ℕ) → T (goals_size n) → ((2 ≤ n) × (n ≤ 16)) × (n % 2 ≡ 0)
unfolding goals_size
goals_size_says n t = (says_and (says_and says_leb says_leb) says_eqb).fact t

module _ (s : List ℕ) (ok : cause s ≡ None) where
  -- the header
  pub width_range : (1 ≤ (read s).width) × ((read s).width ≤ 32)
  width_range = ((header_says s).fact (accepted s ok).header).0.0.0.0.0.0

  pub height_range : (1 ≤ (read s).height) × ((read s).height ≤ 32)
  height_range = ((header_says s).fact (accepted s ok).header).0.0.0.0.0.1

  pub count_range : (1 ≤ (read s).count) × ((read s).count ≤ 12)
  count_range = accepted_count s ok

  pub limit_range : (1 ≤ (read s).limit) × ((read s).limit ≤ 4096)
  limit_range = ((header_says s).fact (accepted s ok).header).0.0.1

  pub horizon_range : (read s).horizon ≤ 255
  horizon_range = accepted_horizon s ok

  pub area_range : (1 ≤ area (read s)) × (area (read s) ≤ 1024)
  area_range = (
    one-le-mul width_range.0 height_range.0,
    omega (arith, mul-le-mul width_range.1 height_range.1),
  )

  -- the grid
  pub grid_length : length (read s).grid ≡ area (read s)
  grid_length =
      length_part s (grid_stretch s) (accepted_inside s ok grid_pair (omega (arith, count_range)))
      ∙ ((directory_says s).fact (accepted s ok).directory).0.0.1

  pub grid_byte_lem : (v : ℕ) → grid_byte (read s) v ≤ 5
  unfolding good_grid
  grid_byte_lem v = go (dec_le (length (read s).grid) v)
    where
      go : Dec (length (read s).grid ≤ v) → grid_byte (read s) v ≤ 5
      go (yes h) = omega (arith, get_or-eq_default (read s).grid 0 h)
      go (no h) = leb→le (grid_byte (read s) v) 5 (all_at (λ b. leb b 5) (read s).grid 0 (accepted s ok).grid v (omega arith))

  -- the starts
  pub starts_length : length (read s).starts ≡ (read s).count
  starts_length = accepted_starts s ok

  pub start_free : (i : ℕ) → i < (read s).count → T (free (read s) (start_of (read s) (carrier i)))
  start_free i h =
      all_at (free (read s)) (read s).starts 0 ((starts_say (read s)).fact (accepted s ok).starts).0 i (omega (arith, starts_length))

  pub starts_differ : (i k : ℕ) → i < (read s).count → k < (read s).count → start_of (read s) (carrier i) ≡ start_of (read s) (carrier k) → i ≡ k
  starts_differ i k a b e =
      (says_distinct (read s).starts).fact ((starts_say (read s)).fact (accepted s ok).starts).1 i k
      (omega (arith, starts_length)) (omega (arith, starts_length)) e

  -- of any number: past the last carrier the start reads 0
  pub start_on_grid : (i : Carrier) → start_of (read s) i < area (read s)
  start_on_grid i = go (dec_le (read s).count i.0)
    where
      go : Dec ((read s).count ≤ i.0) → start_of (read s) i < area (read s)
      go (yes h) = omega (arith, area_range, get_or-eq_default (read s).starts 0 {n = i.0} (omega (arith, starts_length)))
      go (no h) = (free_says (read s) (start_of (read s) i) (start_free i.0 (omega arith))).0

  -- the goals
  pub goals_range : (j : ℕ) → j < (read s).count → (1 ≤ length (goals_of (read s) (task j))) × (length (goals_of (read s) (task j)) ≤ 8)
  goals_range j h =
      let sizes = ((directory_says s).fact (accepted s ok).directory).1 in
      let ok_at : ℕ → Bool = λ i. goals_size (task_stretch s (task i)).size in
      let at : T (ok_at (get_or (below (count_of s)) j 0)) = all_at ok_at (below (count_of s)) 0 sizes j (omega (arith, length_below (count_of s))) in
      let size = goals_size_says (task_stretch s (task j)).size (rw (below_at (count_of s) j h) at at) in
      let long = length_part s (task_stretch s (task j)) (accepted_inside s ok (task_pair j) (omega arith)) in
      let few = length_words (part s (task_stretch s (task j))) in
      rw (goals_there s (task j) h) (omega arith)

  -- past the last task there are none
  pub goals_at_most : (j : Task) → length (goals_of (read s) j) ≤ 8
  goals_at_most j = go (dec_le (read s).count j.0)
    where
      go : Dec ((read s).count ≤ j.0) → length (goals_of (read s) j) ≤ 8
      go (yes h) = rw (no_goals s j h) (omega arith)
      go (no h) = (goals_range j.0 (omega arith)).1

  pub goal_free : (j k : ℕ) → j < (read s).count → k < length (goals_of (read s) (task j)) → T (free (read s) (get_or (goals_of (read s) (task j)) k 0))
  unfolding good_goals
  goal_free j k h l =
      all_at (free (read s)) (goals_of (read s) (task j)) 0
      (all_at (all (free (read s))) (read s).tasks [] (accepted s ok).goals j (omega (arith, tasks_length s))) k l

  -- of any numbers: what is no goal reads 0
  pub goal_on_grid : (j : Task) (k : ℕ) → get_or (goals_of (read s) j) k 0 < area (read s)
  goal_on_grid j k = go (dec_le (read s).count j.0) (dec_le (length (goals_of (read s) j)) k)
    where
      go : Dec ((read s).count ≤ j.0) → Dec (length (goals_of (read s) j) ≤ k) → get_or (goals_of (read s) j) k 0 < area (read s)
      go b (yes h) = omega (arith, area_range, get_or-eq_default (goals_of (read s) j) 0 h)
      go (yes a) (no h) = rw (no_goals s j a) area_range.0
      go (no a) (no h) = (free_says (read s) (get_or (goals_of (read s) j) k 0) (goal_free j.0 k (omega arith) (omega arith))).0

  pub last_goal_on_grid : (j : Task) → last_goal (read s) j < area (read s)
  last_goal_on_grid j = rw (last_of (goals_of (read s) j)) (goal_on_grid j (length (goals_of (read s) j) - 1))

  pub last_goal_free : (j : ℕ) → j < (read s).count → T (free (read s) (last_goal (read s) (task j)))
  last_goal_free j h =
      rw (last_of (goals_of (read s) (task j))) (goal_free j (length (goals_of (read s) (task j)) - 1) h (omega (arith, goals_range j h)))

  -- the most goals of any task
  pub most_goals_lem : most_goals (read s) ≤ 8
  most_goals_lem =
      greatest_at_most 8 (map length (read s).tasks) (λ k. rw (each_task_at length s k refl) (goals_at_most (task k)))

  pub workspace_bound : workspace_for (read s) < 8388608
  unfolding workspace_for
  workspace_bound =
      let h : suc (read s).horizon ≤ 256 = omega (arith, horizon_range) in
      let k : suc (most_goals (read s)) ≤ 9 = omega (arith, most_goals_lem) in
      omega (arith, limit_range, mul-le-mul (mul-le-mul h area_range.1) k)

-- of any sheet: no task has more goals than the most
pub within_most : (s : List ℕ) (j : Task) → length (goals_of (read s) j) ≤ most_goals (read s)
within_most s j = rw (← each_task_at length s j.0 refl) (at_most_greatest (map length (read s).tasks) j.0)
