-- The assignments that remain, as the slots of the roots' records: each slot is one of Murty's parts with its first assignment.
-- Assumes nothing.
use Rattle.std.specs.Prelude.{ℕ, ◌-◌, ◌<◌, ◌≤◌, ◌≡◌, cond, get_or, set, take, eqb, Option, None, Some, List, [], ◌∷◌}
use mathlib.Core.List.{Memᴰ as Mem}
use Rattle.deck.specs.Lists.{count_from, each}
use Rattle.deck.specs.Assignments.{sum_of}
use Rattle.deck.specs.Calls.{task_list}
use Rattle.meaning.specs.Meaning.{◌at◌}
use Rattle.partition.specs.Parts.{slot_part, Slot, candidate, Holds}
use Rattle.records.specs.Record.{fields_at, tasks_in, row_in, closed_in, flag_in, sum_in, slot_tasks_in, root_fields, Wrote}

-- slot j of a root with the fields fs
abbrev pub slot_of : ℕ → List (List ℕ) → ℕ → Slot
slot_of m fs j = record { part = slot_part (take m (tasks_in fs)) (row_in fs) (closed_in fs) j; first = take m (slot_tasks_in fs j) }

-- where its flag is 1
unfoldable pub slot_here : ℕ → List (List ℕ) → ℕ → List Slot
slot_here m fs j = cond (eqb (flag_in fs j) 1) (slot_of m fs j ∷ []) []

-- the slots of a root: one for each carrier from its row on
unfoldable pub root_slots : ℕ → List (List ℕ) → List Slot
root_slots m fs = each (slot_here m fs) (count_from (row_in fs) (m - row_in fs))

-- the slots of some roots, by their numbers
unfoldable pub slots_at : ℕ → List ℕ → List ℕ → List Slot
slots_at m work roots = each (λ n. root_slots m (fields_at work n)) roots

-- the words of a slot with the first assignment of its part, or of a slot whose part is empty
abbrev pub SlotFor : ℕ → List ℕ → List (List ℕ) → ℕ → Option (List ℕ) → Type 0
SlotFor m table fs j None = flag_in fs j ≡ 1 → ⊥
SlotFor m table fs j (Some a) = (flag_in fs j ≡ 1) × (sum_in fs j ≡ sum_of m table a) × (slot_tasks_in fs j ≡ task_list a)

-- the tasks and the closed tasks of a root are bytes, and the tasks of its carriers index twelve words
pub record PartKept (m : ℕ) (tasks closed : List ℕ) : Type 0 where
  pub low : (i : ℕ) → i < m → tasks at i < 12
  pub tasks_small : (i : ℕ) → tasks at i < 256
  pub closed_small : (i : ℕ) → closed at i < 256

-- what holds of the fields of a root; a slot that is not empty has its assignment's sum and its list of 12
pub record Rooted (m : ℕ) (table : List ℕ) (fs : List (List ℕ)) : Type 0 where
  pub part : PartKept m (tasks_in fs) (closed_in fs)
  pub slots : (j : ℕ) → row_in fs ≤ j → j < m → flag_in fs j ≡ 1 → SlotFor m table fs j (Some (take m (slot_tasks_in fs j)))

-- the slots of the roots hold the assignments that remain
pub record PartsHold (m : ℕ) (table work roots : List ℕ) (rest : List (List ℕ)) : Type 0 where
  pub rooted : (n : ℕ) → Mem n roots → Rooted m table (fields_at work n)
  pub holds : Holds m table (slots_at m work roots) rest

-- the slots of root n are filled: each has the first assignment of its part; nothing but slots of root n is written
pub record Filled (m : ℕ) (table before after : List ℕ) (n : ℕ) : Type 0 where
  pub same : Wrote before after n (set (fields_at before n) 6 (get_or (fields_at after n) 6 []))
  pub slots : (j : ℕ) → row_in (fields_at before n) ≤ j → j < m
      → SlotFor m table (fields_at after n) j
      (candidate m table (slot_part (take m (tasks_in (fields_at before n))) (row_in (fields_at before n)) (closed_in (fields_at before n)) j))

-- the record of root n is made, without its paths, and its slots are filled
pub record RootMade (m : ℕ) (table before after : List ℕ) (n : ℕ) (tasks : List ℕ) (row : ℕ) (closed : List ℕ) : Type 0 where
  pub same : Wrote before after n (set (root_fields tasks row closed) 6 (get_or (fields_at after n) 6 []))
  pub slots : (j : ℕ) → row ≤ j → j < m → SlotFor m table (fields_at after n) j (candidate m table (slot_part (take m tasks) row closed j))
