-- A root made of the next assignment: its slots and those that were left hold what remains. Assumes nothing.
use Rattle.std.proofs.Common.{ℕ, ◌+◌, ◌*◌, ◌-◌, ◌<◌, ◌≤◌, ◌≡◌, refl, sym, ap, subst, ◌∙◌, ⊎_elim, Bool, true, false, cond, List, [], ◌∷◌, ◌++◌, arith, set, take, length, replicate, get_or-set_same, get_or-set_other, take_at, get_or-take, eqb, eq-eqb, ne_eqb, Option, None, Some}
use Rattle.std.proofs.lemmas.Bool.{cases_lt}
use native.Mathlib.Decide.{ℕ_discrete}
use Rattle.std.proofs.lemmas.List.{get_or_append_left}
use Rattle.std.proofs.Math.Seq.{set_out}
use Rattle.deck.proofs.Members.{Mem, not-nil, cases_cons, in_left, in_right, cases_append}
use Rattle.deck.specs.Lists.{count_from}
use Rattle.deck.specs.Assignments.{assignments_in_order, least_assignment}
use Rattle.deck.specs.Calls.{task_list}
use Rattle.meaning.specs.Meaning.{◌at◌, Assignment}
use Rattle.meaning.specs.Sorted.{Sorted}
use Rattle.meaning.proofs.Lists.{mem_count_from, sorted_append}
use Rattle.meaning.proofs.Assignments.{least_assignment_meant}
use Rattle.partition.specs.Parts.{none_closed, slot_part, Slot, slot_with, slots_of, candidate, Apart, Holds, Best}
use Rattle.partition.proofs.Candidates.{Candidate, candidate_meant}
use Rattle.partition.proofs.Splits.{none_closed_lem}
use Rattle.partition.proofs.Murty.{next_in_order, none_remains, first_in_order_lem}
use Rattle.records.specs.Record.{fields_at, tasks_in, row_in, closed_in, flag_in, slot_tasks_in, bytes, root_fields}
use Rattle.records.proofs.Words.{bytes_same}
use Rattle.roots.specs.Slots.{slot_of, slot_here, root_slots, slots_at, SlotFor, PartKept, Rooted, PartsHold, RootMade}
use Rattle.roots.specs.Choices.{Chosen, Live, part_of, Cleared}
use Rattle.roots.specs.Tournament.{SlotsHold, FirstSlot, NextTaken}
use Rattle.tables.specs.declared.Part.{Part}
use Rattle.roots.proofs.Chosen.{list_bytes, live_unbarred, live_list}
use Rattle.roots.proofs.Parts.{byte_at}
use Rattle.roots.proofs.Taken.{each_same, taken_slots, taken_rooted}

-- THE ORDER OF THE SLOTS is free
module _ {A : Type 0} (R : A → A → Type 0) where
  sorted_left : (xs ys : List A) → Sorted R (xs ++ ys) → Sorted R xs
  sorted_left [] ys h = tt
  sorted_left (x ∷ xs) ys h = (λ y m. h.0 y (in_left ys m), sorted_left xs ys h.1)

  sorted_right : (xs ys : List A) → Sorted R (xs ++ ys) → Sorted R ys
  sorted_right [] ys h = h
  sorted_right (x ∷ xs) ys h = sorted_right xs ys h.1

  sorted_across : (xs ys : List A) → Sorted R (xs ++ ys) → (x y : A) → Mem x xs → Mem y ys → R x y
  sorted_across [] ys h x y i j = absurd (not-nil i)
  sorted_across (z ∷ xs) ys h x y i j = ⊎_elim (λ e. rw e (h.0 y (in_right xs j))) (λ k. sorted_across xs ys h.1 x y k j) (cases_cons i)

swapped : {A : Type 0} (xs ys : List A) {x : A} → Mem x (xs ++ ys) → Mem x (ys ++ xs)
swapped xs ys m = ⊎_elim (λ i. in_right ys i) (λ i. in_left xs i) (cases_append xs m)

holds_turned : (m : ℕ) (table : List ℕ) (xs ys : List Slot) (rest : List (List ℕ)) → Holds m table (xs ++ ys) rest → Holds m table (ys ++ xs) rest
holds_turned m table xs ys rest H =
    record {
      sorted = H.sorted;
      unbarred = H.unbarred;
      covered = λ a n. let c = H.covered a n in (c.0, swapped xs ys c.1, c.2);
      held = λ s i. H.held s (swapped ys xs i);
      proper = λ s i. H.proper s (swapped ys xs i);
      right = λ s i. H.right s (swapped ys xs i);
      apart =
          sorted_append Apart ys xs (sorted_right Apart xs ys H.apart) (sorted_left Apart xs ys H.apart)
          (λ x y i j a p q. sorted_across Apart xs ys H.apart y x j i a q p);
    }

take_list : (m : ℕ) (a : List ℕ) → length a ≡ m → take m (task_list a) ≡ a
take_list m a e = take_at a (replicate (12 - length a) 255) m e

list_low : (m : ℕ) (a : List ℕ) → m ≤ 12 → Assignment m a → (i : ℕ) → i < m → task_list a at i < 12
list_low m a small h i l = omega (arith, get_or_append_left a (replicate (12 - length a) 255) 0 i (omega (arith, h.as_many)), h.tasks i l)

pub list_kept : (m : ℕ) (a closed : List ℕ) → m ≤ 12 → Assignment m a → ((i : ℕ) → closed at i < 256) → PartKept m (task_list a) closed
list_kept m a closed small h shut = record { low = list_low m a small h; tasks_small = list_bytes m a small h; closed_small = shut }

-- A ROOT IS MADE
module _ (m : ℕ) (table before after : List ℕ) (made : ℕ) (tasks : List ℕ) (row : ℕ) (closed : List ℕ) (u : RootMade m table before after made tasks row closed) where
  abbrev new : List (List ℕ)
  new = fields_at after made

  new_tasks : tasks_in new ≡ tasks
  unfolding root_fields
  new_tasks = ap tasks_in u.same.here

  new_row : row_in new ≡ row
  unfolding root_fields
  new_row = ap row_in u.same.here

  new_closed : closed_in new ≡ closed
  unfolding root_fields
  new_closed = ap closed_in u.same.here

  abbrev first : ℕ → Option (List ℕ)
  first j = candidate m table (slot_part (take m tasks) row closed j)

  -- each slot is that of its part
  slot_made : (j : ℕ) → row ≤ j → j < m → slot_here m new j ≡ slot_with (slot_part (take m tasks) row closed j) (first j)
  unfolding slot_here
  slot_made j l h = go (first j) (candidate_meant m table (slot_part (take m tasks) row closed j)) (u.slots j l h)
    where
      go : (o : Option (List ℕ)) → Candidate m table (slot_part (take m tasks) row closed j) o → SlotFor m table new j o
          → cond (eqb (flag_in new j) 1) (slot_of m new j ∷ []) [] ≡ slot_with (slot_part (take m tasks) row closed j) o
      go None k s = rw (ne_eqb (flag_in new j) 1 s)
      go (Some a) k s = rw (eq-eqb (flag_in new j) 1 s.0, new_tasks, new_row, new_closed, s.2, take_list m a k.0.0.as_many)

  slots_new : root_slots m new ≡ slots_of m table (take m tasks) row closed
  unfolding root_slots slots_of
  slots_new =
      rw new_row
      (each_same (slot_here m new) (λ j. slot_with (slot_part (take m tasks) row closed j) (first j)) (count_from row (m - row))
      (λ j i. let b = mem_count_from row (m - row) i in slot_made j b.0 (omega (arith, b.0, b.1))))

  -- and the other roots have smaller numbers
  module _ (roots : List ℕ) (low : (k : ℕ) → Mem k roots → k < made) where
    old_record : (k : ℕ) → Mem k roots → fields_at after k ≡ fields_at before k
    old_record k i = let l = low k i in u.same.records k (λ e. omega arith)

    slots_made : slots_at m after (made ∷ roots) ≡ slots_of m table (take m tasks) row closed ++ slots_at m before roots
    unfolding slots_at
    slots_made =
        rw slots_new
        (ap (λ (l : List Slot). slots_of m table (take m tasks) row closed ++ l)
        (each_same (λ n. root_slots m (fields_at after n)) (λ n. root_slots m (fields_at before n)) roots (λ n i. ap (root_slots m) (old_record n i))))

    module _ (kept : PartKept m tasks closed) where
      new_rooted : Rooted m table new
      new_rooted =
          record {
            part = rw (new_tasks, new_closed) kept;
            slots = λ j a b f. go j f (first j) (candidate_meant m table (slot_part (take m tasks) row closed j)) (u.slots j (rw new_row at a) b);
          }
        where
          go : (j : ℕ) → flag_in new j ≡ 1 → (o : Option (List ℕ)) → Candidate m table (slot_part (take m tasks) row closed j) o → SlotFor m table new j o
              → SlotFor m table new j (Some (take m (slot_tasks_in new j)))
          go j f None k s = absurd (s f)
          go j f (Some a) k s =
              let e : take m (slot_tasks_in new j) ≡ a = ap (take m) s.2 ∙ take_list m a k.0.0.as_many in
              subst (λ (b : List ℕ). SlotFor m table new j (Some b)) (sym e) s

      pub made_holds : (rest : List (List ℕ)) → ((n : ℕ) → Mem n roots → Rooted m table (fields_at before n)) → Holds m table (slots_at m before roots ++ slots_of m table (take m tasks) row closed) rest
          → PartsHold m table after (made ∷ roots) rest
      made_holds rest old H =
          record {
            rooted = λ n i. ⊎_elim
                (λ e. subst (λ (k : ℕ). Rooted m table (fields_at after k)) (sym e) new_rooted)
                (λ k. rw (old_record n k) (old n k)) (cases_cons i);
            holds = rw slots_made (holds_turned m table (slots_at m before roots) (slots_of m table (take m tasks) row closed) rest H);
          }

-- THE NEXT ROOT: the chosen slot is cleared, and the root of its assignment is made
module _ (m : ℕ) (table before mid : List ℕ) (latest made n j : ℕ) (rest : List (List ℕ)) (small : m ≤ 12) (size : 512 * latest ≤ length before) (le : latest ≤ made)
    (H : SlotsHold m table before latest rest) (chosen : FirstSlot m before latest (Chosen n j)) (cleared : Cleared before mid n j) where
  abbrev fs : List (List ℕ)
  fs = fields_at before n

  abbrev s : Slot
  s = slot_of m fs j

  pub live : Live m before H.roots n j
  live = (chosen table rest H).0

  kept : PartKept m (tasks_in fs) (closed_in fs)
  kept = (H.parts.rooted n live.root).part

  room : 512 * n + 512 ≤ length before
  room = omega (arith, H.low n live.root)

  -- the part as bytes is the slot's
  part_tasks : (part_of fs j).tasks ≡ task_list s.first
  part_tasks = live_list m table before H.roots rest small H.parts n j live

  part_closed : (part_of fs j).closed ≡ s.part.closed
  part_closed =
      let t : bytes (tasks_in fs) at j ≡ take m (tasks_in fs) at j = byte_at (tasks_in fs) j (kept.tasks_small j) ∙ sym (get_or-take m (tasks_in fs) j 0 live.high) in
      rw (bytes_same (closed_in fs) kept.closed_small, t)

  shut : (i : ℕ) → s.part.closed at i < 256
  shut i = go (ℕ_discrete i k)
    where
      k : ℕ
      k = take m (tasks_in fs) at j

      base : (b : Bool) (x : ℕ) → cond b (closed_in fs) none_closed at x < 256
      base true x = kept.closed_small x
      base false x = omega (arith, none_closed_lem x)

      one : (xs : List ℕ) → ((x : ℕ) → xs at x < 256) → Dec (i ≡ k) → set xs k 1 at i < 256
      one xs h (yes e) = ⊎_elim
          (λ l. rw (e, get_or-set_same xs k 1 0 l) (omega arith))
          (λ l. subst (λ (y : List ℕ). y at i < 256) (sym (set_out xs k 1 l)) (h i)) (cases_lt k (length xs))
      one xs h (no e) = rw (get_or-set_other xs k i 1 0 e) (h i)

      go : Dec (i ≡ k) → s.part.closed at i < 256
      go d = one (cond (eqb j (row_in fs)) (closed_in fs) none_closed) (base (eqb j (row_in fs))) d

  pub part_kept : PartKept m (part_of fs j).tasks (part_of fs j).closed
  part_kept = rw (part_tasks, part_closed) (list_kept m s.first s.part.closed small (live_unbarred m table before H.roots rest small H.parts n j live).0 shut)

  -- final is what the workspace is after the root has entered the tournament
  next_made : (after final : List ℕ) → ((others : List (List ℕ)) → PartsHold m table after (made ∷ H.roots) others → SlotsHold m table final (made + 1) others)
      → RootMade m table mid after made (part_of fs j).tasks (part_of fs j).row.0 (part_of fs j).closed → NextTaken m table final (made + 1) rest (part_of fs j).tasks
  next_made after final entered u =
      let a = live_unbarred m table before H.roots rest small H.parts n j live in
      let w = taken_slots m before mid H.roots n j small room live cleared H.falls in
      let next = next_in_order m small table w.left s w.right (subst (λ (l : List Slot). Best m table l s) w.whole ((chosen table rest H).1 table rest small H.parts)) rest
      (subst (λ (l : List Slot). Holds m table l rest) w.whole H.parts.holds) in
      let e : take m (part_of fs j).tasks ≡ s.first = ap (take m) part_tasks ∙ take_list m s.first a.0.as_many in
      record {
        next = s.first;
        others = next.0;
        first = next.1;
        unbarred = a;
        list = part_tasks;
        hold = entered next.0
            (made_holds m table mid after made (part_of fs j).tasks j (part_of fs j).closed u H.roots (λ k i. omega (arith, H.low k i)) part_kept next.0
            (λ k i. taken_rooted m before mid H.roots n j small room live cleared table k (H.parts.rooted k i))
            (rw (e, part_closed, w.rest) next.2));
      }

  -- with the part as it was handed back
  module _ (p : Part) (e : p ≡ part_of fs j) where
    pub handed_row : p.row.0 < 12
    handed_row = rw (ap (λ (q : Part). q.row.0) e) (omega (arith, live.high))

    pub handed_kept : PartKept m p.tasks p.closed
    handed_kept = subst (λ (q : Part). PartKept m q.tasks q.closed) (sym e) part_kept

    pub next_handed : (after final : List ℕ) → ((others : List (List ℕ)) → PartsHold m table after (made ∷ H.roots) others → SlotsHold m table final (made + 1) others)
        → RootMade m table mid after made p.tasks p.row.0 p.closed → NextTaken m table final (made + 1) rest p.tasks
    next_handed after final entered = subst (λ (q : Part). RootMade m table mid after made q.tasks q.row.0 q.closed → NextTaken m table final (made + 1) rest q.tasks) (sym e) (next_made after final entered)

-- a chosen slot is in the workspace
pub chosen_inside : (m : ℕ) (table work : List ℕ) (latest n j : ℕ) (rest : List (List ℕ)) → m ≤ 12 → SlotsHold m table work latest rest → FirstSlot m work latest (Chosen n j)
    → (n < latest) × (j < 12) × (tasks_in (fields_at work n) at j < 12)
chosen_inside m table work latest n j rest small H chosen =
    let v = (chosen table rest H).0 in (
      H.low n v.root,
      omega (arith, v.high),
      (H.parts.rooted n v.root).part.low j v.high,
    )

-- THE FIRST ROOT
pub first_made : (m : ℕ) (table before after final a : List ℕ) → 0 < m → m ≤ 12 → least_assignment m table ≡ Some a
    → ((others : List (List ℕ)) → PartsHold m table after (0 ∷ []) others → SlotsHold m table final 1 others)
    → RootMade m table before after 0 (task_list a) 0 none_closed → NextTaken m table final 1 (assignments_in_order m table) (task_list a)
unfolding slots_at
first_made m table before after final a pos small e entered u =
    let f = first_in_order_lem m small table pos a e in
    let h = (least_assignment_meant m table a e).0 in
    record {
      next = a;
      others = f.0;
      first = f.1;
      unbarred = h;
      list = refl;
      hold = entered f.0
          (made_holds m table before after 0 (task_list a) 0 none_closed u [] (λ k i. absurd (not-nil i)) (list_kept m a none_closed small h.0 (λ i. omega (arith, none_closed_lem i))) f.0 (λ n i. absurd (not-nil i))
          (rw (take_list m a h.0.as_many) f.2));
    }

-- without a slot none remains
pub nothing_left : (m : ℕ) (table work : List ℕ) (latest : ℕ) (rest : List (List ℕ)) → m ≤ 12 → SlotsHold m table work latest rest → FirstSlot m work latest None → rest ≡ []
nothing_left m table work latest rest small H chosen = none_remains m small table rest (subst (λ (l : List Slot). Holds m table l rest) (chosen table rest H) H.parts.holds)
