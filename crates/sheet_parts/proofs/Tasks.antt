-- Laws of a task's goals: those of the task's stretch, and none where there is no such task. Assumes nothing.
use Rattle.std.proofs.Common.{ℕ, ◌≤◌, ◌<◌, ◌≡◌, refl, ◌∙◌, subst, List, [], map, zero-add, arith, length, get_or, lt-ltb, le-ltb, None, Some}
use Rattle.std.proofs.Math.Decide.{dec_le}
use Rattle.std.proofs.lemmas.List.{length-map}
use Rattle.std.proofs.Math.ListN.{get_or-eq_default, get_or-map}
use Rattle.deck.specs.declared.cause.Cause.{Cause}
use Rattle.deck.specs.Lists.{below}
use Rattle.deck.specs.Sheet.{count_of, task, task_pair, task_stretch, part, words, read, goals_of, sheet_cause}
use Rattle.deck.specs.Calls.{nowhere, goals_cause, goals_call}
use Rattle.deck.specs.declared.Task.{Task}
use Rattle.meaning.proofs.Lists.{get_or_tabulate, length_count_from}
use Rattle.meaning.proofs.Accepted.{accepted_inside}
use Rattle.meaning.proofs.Dark.{with_carriers}
use Rattle.sheet_parts.specs.Part.{task_part}

pub tasks_length : (s : List ℕ) → length (read s).tasks ≡ count_of s
tasks_length s =
    length-map (below (count_of s)) (λ (i : ℕ). words (part s (task_stretch s (task i)))) ∙ length_count_from 0 (count_of s)

module _ (s : List ℕ) (j : Task) where
  pub task_there : j.0 < count_of s → task_part s j ≡ task_stretch s j
  task_there h = rw (lt-ltb j.0 (count_of s) h) refl

  pub no_task : count_of s ≤ j.0 → task_part s j ≡ nowhere
  no_task h = rw (le-ltb j.0 (count_of s) h) refl

  pub goals_there : j.0 < count_of s → goals_of (read s) j ≡ words (part s (task_stretch s j))
  goals_there h =
      get_or_tabulate (λ (i : ℕ). words (part s (task_stretch s (task i)))) 0 (count_of s) j.0 [] h ∙ rw (zero-add j.0) refl

  pub no_goals : count_of s ≤ j.0 → goals_of (read s) j ≡ []
  no_goals h =
      get_or-eq_default (read s).tasks [] {n = j.0} (omega (arith, tasks_length s))

-- a number of each task: how many there are, and that of the task j
module _ (f : List ℕ → ℕ) (s : List ℕ) where
  pub each_task_length : length (map f (read s).tasks) ≡ count_of s
  each_task_length = length-map (read s).tasks f ∙ tasks_length s

  pub each_task_at : (j : ℕ) → f [] ≡ 0 → get_or (map f (read s).tasks) j 0 ≡ f (goals_of (read s) (task j))
  each_task_at j e = subst (λ (d : ℕ). get_or (map f (read s).tasks) j d ≡ f (goals_of (read s) (task j))) e (get_or-map f (read s).tasks j [])

-- the part that the call for a task's goals hands back
module _ (s : List ℕ) (j : Task) where
  pub goals_accepted : sheet_cause s ≡ None → goals_call s j ≡ task_part s j
  unfolding goals_call goals_cause
  goals_accepted e = rw e refl

  pub goals_refused : (c : Cause) → sheet_cause s ≡ Some c → goals_call s j ≡ nowhere
  unfolding goals_call goals_cause
  goals_refused c e = rw e refl

  pub part_begins : sheet_cause s ≡ None → (task_part s j).offset ≤ length s
  part_begins ok = go (dec_le (count_of s) j.0)
    where
      go : Dec (count_of s ≤ j.0) → (task_part s j).offset ≤ length s
      go (yes h) = rw (no_task s j h) (omega arith)
      go (no h) =
          let l : j.0 < count_of s = omega arith in
          rw (task_there s j l) (omega (arith, accepted_inside s (with_carriers s ok (omega arith)) (task_pair j.0) (omega arith)))
