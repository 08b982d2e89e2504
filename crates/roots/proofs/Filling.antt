-- Slots of a record put anew, and the slots of a root filled one after another. Assumes nothing.
use Rattle.std.proofs.Common.{ℕ, suc, ◌+◌, ◌*◌, ◌-◌, ◌<◌, ◌≤◌, ◌≡◌, refl, sym, ap, subst, ◌∙◌, ⊎_elim, ◌≢◌, List, [], ◌∷◌, arith, get_or, set, take, length, replicate, length-set, length-append, get_or-set_same, get_or-set_other, set-set, take_all, Option, None, Some}
use Rattle.std.proofs.lemmas.Bool.{cases_lt}
use Rattle.std.proofs.lemmas.List.{length-replicate, set-get_or}
use native.Mathlib.Decide.{ℕ_discrete}
use Rattle.deck.specs.Assignments.{sum_of}
use Rattle.deck.specs.Calls.{task_list}
use Rattle.partition.specs.Parts.{slot_part, candidate}
use Rattle.partition.proofs.Candidates.{Candidate as CandidateIs, candidate_meant}
use Rattle.candidates.specs.Candidates.{candidate_for}
use Rattle.candidates.specs.declared.Candidate.{Candidate}
use Rattle.records.specs.Cut.{part, put}
use Rattle.records.specs.Record.{slot_words, fields, fields_at, tasks_in, row_in, closed_in, slot_in, with_slot, root_fields, Wrote}
use Rattle.records.proofs.Cuts.{length_part, part_here, part_behind, part_before}
use Rattle.records.proofs.Frames.{length_field}
use Rattle.records.proofs.Words.{bytes_same}
use Rattle.roots.specs.Slots.{SlotFor, PartKept, Filled, RootMade}
use Rattle.roots.specs.Choices.{part_in}
use Rattle.tables.specs.declared.Part.{Part}

-- THE FIELDS OF A RECORD
pub fields_long : (work : List ℕ) (n : ℕ) → length (fields_at work n) ≡ 10
unfolding fields_at fields
fields_long work n = refl

-- the slots of a record put anew
module _ (fs : List (List ℕ)) (long : length fs ≡ 10) (all : length (get_or fs 6 []) ≡ 168) (j : ℕ) (low : j < 12) (ys : List ℕ) where
  slots_set : get_or (with_slot fs j ys) 6 [] ≡ put (14 * j) 14 ys (get_or fs 6 [])
  slots_set = get_or-set_same fs 6 (put (14 * j) 14 ys (get_or fs 6 [])) [] (omega arith)

  pub slot_same : length ys ≡ 14 → slot_in (with_slot fs j ys) j ≡ ys
  slot_same e = rw slots_set (part_here (14 * j) 14 ys (get_or fs 6 []) e (omega arith))

  pub slot_other : length ys ≡ 14 → (i : ℕ) → i ≢ j → slot_in (with_slot fs j ys) i ≡ slot_in fs i
  slot_other e i ne = rw slots_set (⊎_elim
      (λ l. part_behind (14 * i) 14 (14 * j) 14 ys (get_or fs 6 []) (omega arith) (omega arith))
      (λ l. part_before (14 * i) 14 (14 * j) 14 ys (get_or fs 6 []) e (omega (arith, ne)) (omega arith)) (cases_lt i j))

  pub field_other : (f : ℕ) → f ≢ 6 → get_or (with_slot fs j ys) f [] ≡ get_or fs f []
  field_other f ne = get_or-set_other fs 6 f (put (14 * j) 14 ys (get_or fs 6 [])) [] ne

  pub slot_long : length (slot_in fs j) ≡ 14
  slot_long = length_part (14 * j) 14 (get_or fs 6 []) (omega arith)

pub slots_long : (work : List ℕ) (n : ℕ) → 512 * n + 512 ≤ length work → length (get_or (fields_at work n) 6 []) ≡ 168
slots_long work n h = length_field work n 6 (omega arith) h

-- a slot whose words are those of another
pub same_slot : (m : ℕ) (table : List ℕ) (fs gs : List (List ℕ)) (j : ℕ) (o : Option (List ℕ)) → slot_in fs j ≡ slot_in gs j → SlotFor m table gs j o → SlotFor m table fs j o
same_slot m table fs gs j None e h = λ f. h (sym (ap (λ (l : List ℕ). get_or l 0 0) e) ∙ f)
same_slot m table fs gs j (Some a) e h = (
  ap (λ (l : List ℕ). get_or l 0 0) e ∙ h.0,
  ap (λ (l : List ℕ). get_or l 1 0) e ∙ h.1,
  ap (λ (l : List ℕ). part 2 12 l) e ∙ h.2,
)

pub list_long : (a : List ℕ) → length a ≤ 12 → length (task_list a) ≡ 12
list_long a h = length-append a (replicate (12 - length a) 255) ∙ rw (length-replicate {A = ℕ} (12 - length a) 255) (omega arith)

-- a candidate is stored
module _ (m : ℕ) (table : List ℕ) (fs : List (List ℕ)) (long : length fs ≡ 10) (all : length (get_or fs 6 []) ≡ 168) (j : ℕ) (low : j < 12) where
  pub words_long : (o : Option (List ℕ)) → ((a : List ℕ) → o ≡ Some a → length a ≤ 12) → length (slot_words (candidate_for m table o) (slot_in fs j)) ≡ 14
  unfolding candidate_for
  words_long None few = length-set (slot_in fs j) 0 0 ∙ slot_long fs long all j low []
  words_long (Some a) few = ap (λ (n : ℕ). suc (suc n)) (list_long a (few a refl))

  pub slot_stored : (o : Option (List ℕ)) → ((a : List ℕ) → o ≡ Some a → length a ≤ 12) → SlotFor m table (with_slot fs j (slot_words (candidate_for m table o) (slot_in fs j))) j o
  unfolding candidate_for
  slot_stored None few =
      let e : slot_in (with_slot fs j (set (slot_in fs j) 0 0)) j ≡ set (slot_in fs j) 0 0 = slot_same fs long all j low (set (slot_in fs j) 0 0) (words_long None few) in
      λ f. absurd (omega (arith, sym (ap (λ (l : List ℕ). get_or l 0 0) e) ∙ f, get_or-set_same (slot_in fs j) 0 0 0 (omega (arith, slot_long fs long all j low []))))
  slot_stored (Some a) few =
      let ys : List ℕ = 1 ∷ sum_of m table a ∷ task_list a in
      let e : slot_in (with_slot fs j ys) j ≡ ys = slot_same fs long all j low ys (words_long (Some a) few) in (
        ap (λ (l : List ℕ). get_or l 0 0) e,
        ap (λ (l : List ℕ). get_or l 1 0) e,
        ap (λ (l : List ℕ). part 2 12 l) e ∙ take_all 12 (task_list a) (omega (arith, list_long a (few a refl))),
      )

-- THE SLOTS OF A ROOT, one after another: those of carriers below j are filled
pub record Sofar (m : ℕ) (table before : List ℕ) (n : ℕ) (work : List ℕ) (j : ℕ) : Type 0 where
  pub same : Wrote before work n (set (fields_at before n) 6 (get_or (fields_at work n) 6 []))
  pub slots : (i : ℕ) → row_in (fields_at before n) ≤ i → i < j
      → SlotFor m table (fields_at work n) i
      (candidate m table (slot_part (take m (tasks_in (fields_at before n))) (row_in (fields_at before n)) (closed_in (fields_at before n)) i))

pub sofar_none : (m : ℕ) (table before : List ℕ) (n row : ℕ) → row ≡ row_in (fields_at before n) → Sofar m table before n before row
sofar_none m table before n row e =
    record {
      same = record { here = sym (set-get_or (fields_at before n) 6 []); records = λ k ne. refl; keys = λ limit k l. refl };
      slots = λ i a b. absurd (omega arith);
    }

-- slots put anew in slots that were
wrote_slots : (a b c : List ℕ) (n : ℕ) (ys : List ℕ) → Wrote a b n (set (fields_at a n) 6 (get_or (fields_at b n) 6 [])) → Wrote b c n (set (fields_at b n) 6 ys)
    → Wrote a c n (set (fields_at a n) 6 (get_or (fields_at c n) 6 []))
wrote_slots a b c n ys u v =
    record {
      here =
          let new : get_or (fields_at c n) 6 [] ≡ ys = ap (λ (l : List (List ℕ)). get_or l 6 []) v.here ∙ get_or-set_same (fields_at b n) 6 ys [] (omega (arith, fields_long b n)) in
          v.here ∙ ap (λ (l : List (List ℕ)). set l 6 ys) u.here ∙ set-set (fields_at a n) 6 (get_or (fields_at b n) 6 []) ys ∙ rw new;
      records = λ k ne. v.records k ne ∙ u.records k ne;
      keys = λ limit k l. v.keys limit k l ∙ u.keys limit k l;
    }

module _ (m : ℕ) (table before : List ℕ) (n : ℕ) (small : m ≤ 12) where
  abbrev first : ℕ → Option (List ℕ)
  first i = candidate m table (slot_part (take m (tasks_in (fields_at before n))) (row_in (fields_at before n)) (closed_in (fields_at before n)) i)

  few : (i : ℕ) (a : List ℕ) → first i ≡ Some a → length a ≤ 12
  few i a e =
      let q = slot_part (take m (tasks_in (fields_at before n))) (row_in (fields_at before n)) (closed_in (fields_at before n)) i in
      omega (arith, (subst (CandidateIs m table q) e (candidate_meant m table q)).0.0.as_many)

  pub sofar_more : (work after : List ℕ) (j : ℕ) (c : Option Candidate) → 512 * n + 512 ≤ length work → j < m → c ≡ candidate_for m table (first j)
      → Wrote work after n (with_slot (fields_at work n) j (slot_words c (slot_in (fields_at work n) j))) → Sofar m table before n work j → Sofar m table before n after (j + 1)
  sofar_more work after j c h l e u s =
      record {
        same = wrote_slots before work after n (put (14 * j) 14 ys (get_or fs 6 [])) s.same u;
        slots = λ i a b. go i a b (ℕ_discrete i j);
      }
    where
      fs : List (List ℕ)
      fs = fields_at work n

      ys : List ℕ
      ys = slot_words c (slot_in (fields_at work n) j)

      size : length ys ≡ 14
      size = rw e (words_long m table (fields_at work n) (fields_long work n) (slots_long work n h) j (omega arith) (first j) (few j))

      go : (i : ℕ) → row_in (fields_at before n) ≤ i → i < j + 1 → Dec (i ≡ j) → SlotFor m table (fields_at after n) i (first i)
      go i a b (yes z) = rw (z, u.here, e) (slot_stored m table (fields_at work n) (fields_long work n) (slots_long work n h) j (omega arith) (first j) (few j))
      go i a b (no z) =
          same_slot m table (fields_at after n) (fields_at work n) i (first i)
          (ap (λ (l : List (List ℕ)). slot_in l i) u.here ∙ slot_other (fields_at work n) (fields_long work n) (slots_long work n h) j (omega arith) ys size i z)
          (s.slots i a (omega (arith, z)))

  pub sofar_all : (work : List ℕ) (j : ℕ) → m ≤ j → Sofar m table before n work j → Filled m table before work n
  sofar_all work j h s = record { same = s.same; slots = λ i a b. s.slots i a (omega arith) }

-- a candidate computed from the root's part, whose numbers are the record's as bytes
pub candidate_read : (m : ℕ) (table : List ℕ) (fs : List (List ℕ)) (j : ℕ) (p : Part) (c : Option Candidate) → PartKept m (tasks_in fs) (closed_in fs) → p ≡ part_in fs
    → c ≡ candidate_for m table (candidate m table (slot_part (take m p.tasks) p.row.0 p.closed j)) → c ≡ candidate_for m table (candidate m table (slot_part (take m (tasks_in fs)) (row_in fs) (closed_in fs) j))
candidate_read m table fs j p c k h e =
    let t : p.tasks ≡ tasks_in fs = ap (λ (q : Part). q.tasks) h ∙ bytes_same (tasks_in fs) k.tasks_small in
    let r : p.row.0 ≡ row_in fs = ap (λ (q : Part). q.row.0) h in
    let s : p.closed ≡ closed_in fs = ap (λ (q : Part). q.closed) h ∙ bytes_same (closed_in fs) k.closed_small in
    rw (t, r, s) at e

-- the record of a root is begun, and its slots are filled
pub root_filled : (m : ℕ) (table before mid after : List ℕ) (n : ℕ) (tasks : List ℕ) (row : ℕ) (closed : List ℕ) → Wrote before mid n (root_fields tasks row closed)
    → Filled m table mid after n → RootMade m table before after n tasks row closed
root_filled m table before mid after n tasks row closed u f =
    record {
      same =
          record {
            here = f.same.here ∙ ap (λ (l : List (List ℕ)). set l 6 (get_or (fields_at after n) 6 [])) u.here;
            records = λ k ne. f.same.records k ne ∙ u.records k ne;
            keys = λ limit k l. f.same.keys limit k l ∙ u.keys limit k l;
          };
      slots = λ j a b. rw (begun_tasks, begun_row, begun_closed) at (f.slots j (rw begun_row a) b);
    }
  where
    begun_tasks : tasks_in (fields_at mid n) ≡ tasks
    begun_tasks = unfold root_fields in ap tasks_in u.here

    begun_row : row_in (fields_at mid n) ≡ row
    begun_row = unfold root_fields in ap row_in u.here

    begun_closed : closed_in (fields_at mid n) ≡ closed
    begun_closed = unfold root_fields in ap closed_in u.here

-- the part of a root that is begun
pub begun_kept : (m : ℕ) (before mid : List ℕ) (n : ℕ) (tasks : List ℕ) (row : ℕ) (closed : List ℕ) → Wrote before mid n (root_fields tasks row closed) → PartKept m tasks closed
    → PartKept m (tasks_in (fields_at mid n)) (closed_in (fields_at mid n))
unfolding root_fields
begun_kept m before mid n tasks row closed u k = rw u.here k
