-- Murty's partition: the assignments that are not handed out yet, in parts that have none in common, each with its first assignment
-- in order. The next assignment in order is the least of these; its part without it is split by the first carrier whose task is
-- another. Assumes nothing.
use Rattle.std.specs.Prelude.{ℕ, ◌-◌, ◌<◌, ◌≡◌, ◌⊎◌, Bool, cond, not, ◌&&◌, length, set, replicate, eqb, ltb, List, [], ◌∷◌, ◌++◌, Option, None, Some}
use mathlib.Core.List.{Memᴰ as Mem}
use Rattle.deck.specs.Lists.{below, count_from, all, select, each, head_of}
use Rattle.deck.specs.Assignments.{barred, entry_at, assignments_in_order}
use Rattle.meaning.specs.Meaning.{◌at◌, Unbarred, Less}
use Rattle.meaning.specs.Sorted.{Sorted}
use Rattle.prices.specs.Square.{square}

-- A part: the carriers before carrier `row` have these tasks; carrier `row` has no task whose word in `closed` is not 0
pub record Part : Type 0 where
  pub row : ℕ
  pub tasks : List ℕ
  pub closed : List ℕ

abbrev pub in_part : Part → List ℕ → Bool
in_part q a = all (λ i. eqb (a at i) (q.tasks at i)) (below q.row) && eqb (q.closed at (a at q.row)) 0

-- the first assignment in order that is in the part
unfoldable pub candidate : ℕ → List ℕ → Part → Option (List ℕ)
candidate m table q = head_of (select (in_part q) (assignments_in_order m table))

-- the entry for carrier i and task j, barred where no assignment of the part uses it
unfoldable pub part_entry : Part → ℕ → ℕ → ℕ → ℕ
part_entry q i j e =
    cond (ltb i q.row) (cond (eqb j (q.tasks at i)) e barred) (cond (eqb i q.row && not (eqb (q.closed at j) 0)) barred e)

-- the working copy of the table for a part
abbrev pub part_table : ℕ → List ℕ → Part → List ℕ
part_table m table q = square m (λ i j. part_entry q i j (entry_at m table i j))

-- no task
abbrev pub none_closed : List ℕ
none_closed = replicate 12 0

-- the part of all assignments
abbrev pub whole_part : Part
whole_part = record { row = 0; tasks = []; closed = none_closed }

-- Of a part that begins at carrier k, with closed tasks ts, and from which the assignment a is taken: the part of slot j, in which
-- carrier j is the first whose task is not that of a
abbrev pub slot_part : List ℕ → ℕ → List ℕ → ℕ → Part
slot_part a k ts j = record { row = j; tasks = a; closed = set (cond (eqb j k) ts none_closed) (a at j) 1 }

-- A part that is not empty, with its first assignment
pub record Slot : Type 0 where
  pub part : Part
  pub first : List ℕ

abbrev pub slot_with : Part → Option (List ℕ) → List Slot
slot_with q None = []
slot_with q (Some a) = record { part = q; first = a } ∷ []

-- the slots of a part, one for each carrier from k on, of which some may be empty
unfoldable pub slots_of : ℕ → List ℕ → List ℕ → ℕ → List ℕ → List Slot
slots_of m table a k ts = each (λ j. slot_with (slot_part a k ts j) (candidate m table (slot_part a k ts j))) (count_from k (m - k))

-- the assignment a is in the part
pub record InPart (q : Part) (a : List ℕ) : Type 0 where
  pub same : (i : ℕ) → i < q.row → a at i ≡ q.tasks at i
  pub another : q.closed at (a at q.row) ≡ 0

-- no assignment is in both
abbrev pub Apart : Slot → Slot → Type 0
Apart s t = (a : List ℕ) → InPart s.part a → InPart t.part a → ⊥

-- THE SLOTS HOLD WHAT REMAINS of the assignments in order: each of these is in the part of a slot, each assignment of a slot's part
-- remains, and no two slots have one in common; each slot has the first of its part
pub record Holds (m : ℕ) (table : List ℕ) (slots : List Slot) (rest : List (List ℕ)) : Type 0 where
  pub sorted : Sorted (Less m table) rest
  pub unbarred : (a : List ℕ) → Mem a rest → Unbarred m table a
  pub covered : (a : List ℕ) → Mem a rest → (s : Slot) × Mem s slots × InPart s.part a
  pub held : (s : Slot) → Mem s slots → (a : List ℕ) → Unbarred m table a → InPart s.part a → Mem a rest
  pub proper : (s : Slot) → Mem s slots → (s.part.row < m) × (length s.part.closed ≡ 12)
  pub right : (s : Slot) → Mem s slots → candidate m table s.part ≡ Some s.first
  pub apart : Sorted Apart slots

-- the slot's first assignment is no later than those of the others
abbrev pub Best : ℕ → List ℕ → List Slot → Slot → Type 0
Best m table slots s = (t : Slot) → Mem t slots → (t.first ≡ s.first) ⊎ Less m table s.first t.first

-- taking the best slot again and again, until none is left, hands out these assignments
pub data HandsOut (m : ℕ) (table : List ℕ) : List Slot → List (List ℕ) → Type 0 where
  ends : HandsOut m table [] []
  takes : (l : List Slot) (s : Slot) (r : List Slot) (out : List (List ℕ)) → Best m table (l ++ s ∷ r) s
      → HandsOut m table ((l ++ r) ++ slots_of m table s.first s.part.row s.part.closed) out
      → HandsOut m table (l ++ s ∷ r) (s.first ∷ out)
