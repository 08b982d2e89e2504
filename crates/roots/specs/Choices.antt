-- The choice of the slot whose assignment comes first, and what its root is made of. Assumes nothing.
use Rattle.std.specs.Prelude.{ℕ, ◌+◌, ◌*◌, ◌<◌, ◌≤◌, ◌≡◌, Bool, true, false, cond, set, eqb, ltb, Option, None, Some, List, [], ◌∷◌}
use mathlib.Core.List.{Memᴰ as Mem}
use Rattle.partition.specs.Parts.{slot_part, Slot, Best}
use Rattle.candidates.specs.Candidates.{less_from}
use Rattle.tables.specs.declared.Part.{Part}
use Rattle.deck.specs.Sheet.{carrier}
use Rattle.records.specs.Record.{fields_at, tasks_in, row_in, closed_in, slot_in, flag_in, sum_in, slot_tasks_in, bytes, with_slot, Wrote}
use Rattle.roots.specs.Slots.{slot_of, PartsHold}
use Rattle.roots.specs.declared.Choice.{Choice}

-- slot j of root n
abbrev pub Chosen : ℕ → ℕ → Option Choice
Chosen n j = Some (record { n = n; j = j })

-- slot j of the fields fs comes before slot q of the fields gs: by the words of their sums, then by their tasks
abbrev pub slot_before : List (List ℕ) → ℕ → List (List ℕ) → ℕ → Bool
slot_before fs j gs q =
    cond (ltb (sum_in fs j) (sum_in gs q)) true
    (cond (ltb (sum_in gs q) (sum_in fs j)) false (less_from 12 0 (bytes (slot_tasks_in fs j)) (bytes (slot_tasks_in gs q))))

-- the first of a choice and a slot
abbrev pub first_of : List ℕ → ℕ → ℕ → Option Choice → Option Choice
first_of work n j None = Chosen n j
first_of work n j (Some c) = cond (slot_before (fields_at work n) j (fields_at work c.n) c.j) (Chosen n j) (Chosen c.n c.j)

-- the choice after slot j of root n
unfoldable pub better_of : List ℕ → ℕ → ℕ → Option Choice → Option Choice
better_of work n j b = cond (eqb (flag_in (fields_at work n) j) 1) (first_of work n j b) b

-- the choice after some slots of root n
abbrev pub over_slots : List ℕ → ℕ → List ℕ → Option Choice → Option Choice
over_slots work n [] b = b
over_slots work n (j ∷ js) b = over_slots work n js (better_of work n j b)

-- the record of a chosen slot is in the workspace
abbrev pub Inside : ℕ → Option Choice → Type 0
Inside size None = Unit {0}
Inside size (Some c) = (512 * c.n + 512 ≤ size) × (c.j < 12)

-- slot j of root n is one of the slots
pub record Live (m : ℕ) (work roots : List ℕ) (n j : ℕ) : Type 0 where
  pub root : Mem n roots
  pub low : row_in (fields_at work n) ≤ j
  pub high : j < m
  pub flag : flag_in (fields_at work n) j ≡ 1

-- of some slots there is none; or the chosen one's assignment is no later than those of the others
abbrev pub ChosenOf : ℕ → List ℕ → List ℕ → List Slot → Option Choice → Type 0
ChosenOf m work roots slots None = slots ≡ []
ChosenOf m work roots slots (Some c) =
    Live m work roots c.n c.j
    × ((table : List ℕ) (rest : List (List ℕ)) → m ≤ 12 → PartsHold m table work roots rest → Best m table slots (slot_of m (fields_at work c.n) c.j))

-- the part of a root with the fields fs
abbrev pub part_in : List (List ℕ) → Part
part_in fs = record { tasks = bytes (tasks_in fs); row = carrier (row_in fs); closed = bytes (closed_in fs) }

-- the part and the first assignment of slot j of the root
abbrev pub part_of : List (List ℕ) → ℕ → Part
part_of fs j =
    record {
      tasks = bytes (slot_tasks_in fs j);
      row = carrier j;
      closed = (slot_part (bytes (tasks_in fs)) (row_in fs) (bytes (closed_in fs)) j).closed;
    }

-- the flag of slot j of root n is cleared
abbrev pub Cleared : List ℕ → List ℕ → ℕ → ℕ → Type 0
Cleared before after n j = Wrote before after n (with_slot (fields_at before n) j (set (slot_in (fields_at before n) j) 0 0))
