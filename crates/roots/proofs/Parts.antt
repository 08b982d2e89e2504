-- The part of a slot as it is read from the record, and the record's words as bytes. Assumes nothing.
use Rattle.std.proofs.Common.{ℕ, zero, suc, ◌<◌, ◌≡◌, refl, List, [], ◌∷◌, mod-eq_of_lt, arith, get_or}
use Rattle.meaning.specs.Meaning.{◌at◌}
use Rattle.partition.specs.Parts.{slot_part}
use Rattle.records.specs.Record.{slot_tasks_in, bytes}
use Rattle.deck.specs.Sheet.{carrier}
use Rattle.roots.specs.Choices.{part_in, part_of}
use Rattle.tables.specs.declared.Part.{Part}

pub byte_at : (l : List ℕ) (j : ℕ) → get_or l j 0 < 256 → bytes l at j ≡ l at j
byte_at [] zero h = refl
byte_at [] (suc j) h = refl
byte_at (x ∷ l) zero h = mod-eq_of_lt h
byte_at (x ∷ l) (suc j) h = byte_at l j h

pub byte_low : (l ts : List ℕ) (j : ℕ) → ts ≡ bytes l → get_or l j 0 < 12 → ts at j < 12
byte_low l ts j e h =
    let small : get_or l j 0 < 256 = omega arith in
    rw (e, byte_at l j small) h

pub part_read : (fs : List (List ℕ)) (j : ℕ) (first shut : List ℕ) (p : Part) → first ≡ bytes (slot_tasks_in fs j) → p ≡ part_in fs
    → shut ≡ (slot_part p.tasks p.row.0 p.closed j).closed → ◌≡◌ {A = Part} (record { tasks = first; row = carrier j; closed = shut }) (part_of fs j)
part_read fs j first shut p a h e = rw (e, a, h)
