-- The record of a node, 512 words of the workspace, as a list of fields. Assumes nothing.
use Rattle.std.specs.Prelude.{ℕ, ◌+◌, ◌*◌, ◌<◌, ◌≤◌, ◌%◌, ◌≡◌, zero, suc, Bool, cond, Option, None, Some, List, [], ◌∷◌, map, get_or, set, replicate, eqb, length}
use Rattle.deck.specs.Sheet.{carrier}
use Rattle.deck.specs.Calls.{constraint_of}
use Rattle.deck.specs.declared.Constraint.{Constraint}
use Rattle.deck.specs.declared.Constraint.TheVariants.{Place, Move}
use Rattle.candidates.specs.declared.Candidate.{Candidate}
use Rattle.records.specs.Cut.{part, put, cut}
use Rattle.records.specs.declared.NodeHead.{NodeHead}
use Rattle.records.specs.declared.Origin.{Origin}

-- 0 the link: 0 for a root, else parent + 1; 1 to 5 the constraint; 6 to 17 the tasks; 18 to 29 the finishes; 30 of a root: the row
-- of its part of the assignments; 31 of a number up to the latest root: the word of the tournament of the slots; 32 to 199 of a
-- root: twelve slots of 14 words; 200 to 439 twelve packed paths of 20 words; 440 to 451 of a root: the closed tasks of its part;
-- the rest is free
abbrev pub layout : List ℕ
layout = 1 ∷ 5 ∷ 12 ∷ 12 ∷ 1 ∷ 1 ∷ 168 ∷ 240 ∷ 12 ∷ 60 ∷ []

unfoldable pub fields : List ℕ → List (List ℕ)
fields rec = cut layout rec

-- the fields of the record of node n
unfoldable pub fields_at : List ℕ → ℕ → List (List ℕ)
fields_at work n = fields (part (512 * n) 512 work)

-- the workspace has the record of node n
abbrev pub HasRecord : List ℕ → ℕ → Type 0
HasRecord work n = 512 * n + 512 ≤ length work

-- the workspace has the records and the keys of `limit` nodes
abbrev pub HasNodes : ℕ → List ℕ → Type 0
HasNodes limit work = (limit ≤ 4096) × (512 * limit + 4096 ≤ length work)

abbrev pub link_in : List (List ℕ) → ℕ
link_in fs = get_or (get_or fs 0 []) 0 0

abbrev pub root_in : List (List ℕ) → Bool
root_in fs = eqb (link_in fs) 0

-- "five 16-bit words: kind (0 place, 1 move), carrier, u, v (0 in kind 0), t"
abbrev pub constraint_in : List ℕ → Constraint
constraint_in ws = constraint_of (get_or ws 0 0) (carrier (get_or ws 1 0)) (get_or ws 2 0) (get_or ws 3 0) (get_or ws 4 0)

unfoldable pub words_of : Constraint → List ℕ
words_of (Place a u t) = 0 ∷ a.0 ∷ u ∷ 0 ∷ t ∷ []
words_of (Move a u v t) = 1 ∷ a.0 ∷ u ∷ v ∷ t ∷ []

-- each number of the constraint fits 16 bits
abbrev pub Small : Constraint → Type 0
Small (Place a u t) = (a.0 < 65536) × (u < 65536) × (t < 65536)
Small (Move a u v t) = (a.0 < 65536) × (u < 65536) × (v < 65536) × (t < 65536)

-- the node's own constraint; of a root it has no meaning
abbrev pub own_in : List (List ℕ) → Constraint
own_in fs = constraint_in (get_or fs 1 [])

abbrev pub head_in : List (List ℕ) → NodeHead
head_in fs = record { link = link_in fs; constraint = own_in fs }

-- a root, of link 0, has no parent
abbrev pub origin_of : ℕ → Constraint → Option Origin
origin_of zero c = None
origin_of (suc p) c = Some (record { parent = p; constraint = c })

abbrev pub origin_in : List (List ℕ) → Option Origin
origin_in fs = origin_of (link_in fs) (own_in fs)

abbrev pub tasks_in : List (List ℕ) → List ℕ
tasks_in fs = get_or fs 2 []

abbrev pub finishes_in : List (List ℕ) → List ℕ
finishes_in fs = get_or fs 3 []

abbrev pub row_in : List (List ℕ) → ℕ
row_in fs = get_or (get_or fs 4 []) 0 0

abbrev pub tournament_in : List (List ℕ) → ℕ
tournament_in fs = get_or (get_or fs 5 []) 0 0

-- slot j: a flag, a sum and twelve tasks
abbrev pub slot_in : List (List ℕ) → ℕ → List ℕ
slot_in fs j = part (14 * j) 14 (get_or fs 6 [])

abbrev pub flag_in : List (List ℕ) → ℕ → ℕ
flag_in fs j = get_or (slot_in fs j) 0 0

abbrev pub sum_in : List (List ℕ) → ℕ → ℕ
sum_in fs j = get_or (slot_in fs j) 1 0

abbrev pub slot_tasks_in : List (List ℕ) → ℕ → List ℕ
slot_tasks_in fs j = part 2 12 (slot_in fs j)

-- the packed path of carrier i
abbrev pub packed_in : List (List ℕ) → ℕ → List ℕ
packed_in fs i = part (20 * i) 20 (get_or fs 7 [])

-- a word for each task, 0 where it is not closed
abbrev pub closed_in : List (List ℕ) → List ℕ
closed_in fs = get_or fs 8 []

-- words as bytes
abbrev pub bytes : List ℕ → List ℕ
bytes l = map (λ x. x % 256) l

-- the assignment of slot j; one stands in it where its flag is 1
abbrev pub kept_at : List (List ℕ) → ℕ → Candidate
kept_at fs j = record { sum = sum_in fs j; tasks = bytes (slot_tasks_in fs j) }

abbrev pub slot_at : List (List ℕ) → ℕ → Option Candidate
slot_at fs j = cond (eqb (flag_in fs j) 1) (Some (kept_at fs j)) None

-- the words of a slot that is filled or emptied; `old` are its words before
abbrev pub slot_words : Option Candidate → List ℕ → List ℕ
slot_words None old = set old 0 0
slot_words (Some s) old = 1 ∷ s.sum ∷ s.tasks

-- the fields with another finish and another packed path of carrier i
abbrev pub with_path : List (List ℕ) → ℕ → ℕ → List ℕ → List (List ℕ)
with_path fs i finish packed = set (set fs 3 (set (get_or fs 3 []) i finish)) 7 (put (20 * i) 20 packed (get_or fs 7 []))

-- the fields of a child of node n, whose fields are fs
abbrev pub child_fields : List (List ℕ) → ℕ → Constraint → ℕ → ℕ → List ℕ → List (List ℕ)
child_fields fs n c i finish packed = with_path (set (set fs 0 ((n + 1) ∷ [])) 1 (words_of c)) i finish packed

-- the fields with another slot j
abbrev pub with_slot : List (List ℕ) → ℕ → List ℕ → List (List ℕ)
with_slot fs j slot = set fs 6 (put (14 * j) 14 slot (get_or fs 6 []))

-- the fields of a root whose paths are not written
unfoldable pub root_fields : List ℕ → ℕ → List ℕ → List (List ℕ)
root_fields tasks row closed =
    (0 ∷ []) ∷ replicate 5 0 ∷ tasks ∷ replicate 12 0 ∷ (row ∷ []) ∷ (0 ∷ []) ∷ replicate 168 0 ∷ replicate 240 0 ∷ closed
    ∷ replicate 60 0 ∷ []

-- the key of node n, past the records: its cost while it is open
unfoldable pub key_at : ℕ → List ℕ → ℕ → ℕ
key_at limit work n = get_or work (512 * limit + n) 0

-- the key of a closed node; no cost is as much
abbrev pub closed_key : ℕ
closed_key = 65535

-- the workspace with another key of node n
abbrev pub with_key : ℕ → ℕ → ℕ → List ℕ → List ℕ
with_key limit n key work = set work (512 * limit + n) key

-- the record of node n has the fields fs now; every other record and every key is as it was
pub record Wrote (before after : List ℕ) (n : ℕ) (fs : List (List ℕ)) : Type 0 where
  pub here : fields_at after n ≡ fs
  pub records : (k : ℕ) → (k ≡ n → ⊥) → fields_at after k ≡ fields_at before k
  pub keys : (limit k : ℕ) → n < limit → key_at limit after k ≡ key_at limit before k
