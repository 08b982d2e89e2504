-- The entries of the table as one backward pass for each task finds them. Assumes nothing.
use Rattle.std.specs.Prelude.{ℕ, ◌≤◌, ◌<◌, ◌≡◌, cond, List, [], length, get_or, map, ltb, Option, None, Some}
use Rattle.std.specs.Option.{unwrap_or}
use Rattle.deck.specs.Sheet.{Sheet, read, count_of, carrier, start_of}
use Rattle.deck.specs.Paths.{least_path}
use Rattle.deck.specs.Assignments.{barred, entry_of}
use Rattle.deck.specs.declared.Task.{Task}
use Rattle.kernel.specs.Labels.{all_goals}
use Rattle.kernel.specs.Kernel.{hind}
use Rattle.bars.specs.Padded.{pad_of, Holds}
use Rattle.layers.specs.Step.{Margin}
use Rattle.finishes.specs.declared.entry.Entry.{Entry}

-- the entry for the carrier i and the task j
abbrev pub entry_for : Sheet → ℕ → Task → ℕ
entry_for d i j = entry_of d j (least_path d (carrier i) j [])

-- the carriers' starts, and their numbers of steps, where these are known
abbrev pub starts_in : List Entry → List ℕ
starts_in = map (λ (e : Entry). e.start)

abbrev pub steps_in : List Entry → List (Option ℕ)
steps_in = map (λ (e : Entry). e.steps)

-- no number is known
abbrev pub Unknown : List (Option ℕ) → Type 0
Unknown column = (i : ℕ) → i < length column → get_or column i None ≡ None

-- the starts on the padded grid
abbrev pub Starts : List ℕ → List ℕ → Type 0
Starts s starts = (i : ℕ) → i < count_of s → get_or starts i 0 ≡ pad_of (read s).width (start_of (read s) (carrier i))

-- the numbers of a layer without constraints, n steps before the last goal: those of any carrier at any time
abbrev pub steps : Sheet → Task → ℕ → ℕ → ℕ
steps d j n = hind d (carrier 0) j [] n 0

-- n steps before the last goal the start of carrier i has every goal
abbrev pub Reaches : Sheet → ℕ → Task → ℕ → Type 0
Reaches d i j n = all_goals d j < steps d j n (start_of d (carrier i))

-- a number of steps once the layer of k steps is there, which has this label at the carrier's start
abbrev pub marked : ℕ → ℕ → ℕ → Option ℕ → Option ℕ
marked n label k None = cond (ltb n label) (Some k) None
marked n label k (Some e) = Some e

-- the same of each carrier
pub record Marks (layer : List ℕ) (n k : ℕ) (starts : List ℕ) (before after : List (Option ℕ)) : Type 0 where
  pub size : length after ≡ length before
  pub at : (i : ℕ) → i < length before → get_or after i None ≡ marked n (get_or layer (get_or starts i 0) 0) k (get_or before i None)

-- of the layers of less than k steps, e is the first that reaches the start of carrier i, and unknown for none
pub record Marked (d : Sheet) (i : ℕ) (j : Task) (k : ℕ) (e : Option ℕ) : Type 0 where
  pub found : (n : ℕ) → e ≡ Some n → (n < k) × Reaches d i j n
  pub earlier : (n : ℕ) → n < k → Reaches d i j n → (m : ℕ) × (e ≡ Some m) × (m ≤ n)

-- the same of each carrier
abbrev pub Column : Sheet → Task → ℕ → List (Option ℕ) → Type 0
Column d j k column = (i : ℕ) → i < d.count → Marked d i j k (get_or column i None)

-- a number of steps as the table has it
abbrev pub number_of : Option ℕ → ℕ
number_of e = unwrap_or e barred

-- the column of the table
abbrev pub Whole : Sheet → Task → List (Option ℕ) → Type 0
Whole d j column = (i : ℕ) → i < d.count → number_of (get_or column i None) ≡ entry_for d i j

-- where the pass is before the layer of k steps is marked: that layer, one to write the next to, and the column so far
pub record Passing (s : List ℕ) (j : Task) (k : ℕ) (layer spare : List ℕ) (column : List (Option ℕ)) : Type 0 where
  pub in_time : k ≤ (read s).horizon
  pub here : Holds (read s) layer (steps (read s) j k)
  pub room : Margin (read s).width (read s).height spare
  pub so_far : Column (read s) j k column
