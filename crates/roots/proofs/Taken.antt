-- The slots after one of them is taken: the others. Assumes nothing.
use Rattle.std.proofs.Common.{ℕ, ◌+◌, ◌*◌, ◌-◌, ◌<◌, ◌≤◌, ◌≡◌, refl, sym, ap, subst, ◌∙◌, ⊎_elim, ◌≢◌, List, [], ◌∷◌, ◌++◌, append_assoc, arith, get_or, set, take, length, length-set, get_or-set_same, get_or-set_other, eq-eqb, ne_eqb, Some}
use native.Mathlib.Decide.{ℕ_discrete}
use Rattle.deck.proofs.Members.{Mem, here, there, not-nil, cases_cons}
use Rattle.deck.specs.Lists.{count_from, each}
use Rattle.meaning.specs.Sorted.{Sorted}
use Rattle.meaning.proofs.Lists.{count_from_mem, sorted_count_from}
use Rattle.records.specs.Cut.{part}
use Rattle.records.specs.Record.{fields_at, tasks_in, row_in, closed_in, slot_in, flag_in, sum_in, slot_tasks_in}
use Rattle.roots.specs.Slots.{slot_of, slot_here, root_slots, slots_at, SlotFor, Rooted}
use Rattle.roots.specs.Choices.{Live, Cleared}
use Rattle.roots.proofs.Filling.{fields_long, slots_long, slot_same, slot_other, field_other, slot_long}
use Rattle.roots.proofs.Playing.{SameOrder, order_slots}

-- A LIST WITHOUT ONE OF ITS ELEMENTS
pub record Without {A : Type 0} (all others : List A) (s : A) : Type 0 where
  pub left : List A
  pub right : List A
  pub whole : all ≡ left ++ s ∷ right
  pub rest : others ≡ left ++ right

module _ {A : Type 0} where
  pub each_same : (F G : ℕ → List A) (ns : List ℕ) → ((i : ℕ) → Mem i ns → F i ≡ G i) → each F ns ≡ each G ns
  each_same F G [] h = refl
  each_same F G (n ∷ ns) h = rw (h n (here refl), each_same F G ns (λ i m. h i (there m)))

  without_behind : (us xs ys : List A) (s : A) → Without xs ys s → Without (us ++ xs) (us ++ ys) s
  without_behind us xs ys s w =
      record {
        left = us ++ w.left;
        right = w.right;
        whole = ap (λ (l : List A). us ++ l) w.whole ∙ sym (append_assoc us w.left (s ∷ w.right));
        rest = ap (λ (l : List A). us ++ l) w.rest ∙ sym (append_assoc us w.left w.right);
      }

  without_before : (xs ys vs : List A) (s : A) → Without xs ys s → Without (xs ++ vs) (ys ++ vs) s
  without_before xs ys vs s w =
      record {
        left = w.left;
        right = w.right ++ vs;
        whole = ap (λ (l : List A). l ++ vs) w.whole ∙ append_assoc w.left (s ∷ w.right) vs;
        rest = ap (λ (l : List A). l ++ vs) w.rest ∙ append_assoc w.left w.right vs;
      }

  -- F and G differ at n alone, and there by one element
  without_each : (R : ℕ → ℕ → Type 0) → ((x y : ℕ) → R x y → x ≢ y) → (F G : ℕ → List A) (n : ℕ) (s : A) → ((i : ℕ) → i ≢ n → F i ≡ G i) → Without (F n) (G n) s
      → (ns : List ℕ) → Sorted R ns → Mem n ns → Without (each F ns) (each G ns) s
  without_each R apart F G n s same w [] h m = absurd (not-nil m)
  without_each R apart F G n s same w (x ∷ ns) h m = go (ℕ_discrete x n) (without_each R apart F G n s same w ns h.1)
    where
      go : Dec (x ≡ n) → (Mem n ns → Without (each F ns) (each G ns) s) → Without (F x ++ each F ns) (G x ++ each G ns) s
      go (yes e) again =
          rw (e, each_same F G ns (λ i k. same i (λ z. apart x i (h.0 i k) (e ∙ sym z))))
          (without_before (F n) (G n) (each G ns) s w)
      go (no e) again = rw (same x e) (without_behind (G x) (each F ns) (each G ns) s (again (⊎_elim (λ z. absurd (e (sym z))) (λ k. k) (cases_cons m))))

-- A SLOT IS CLEARED
module _ (m : ℕ) (work after roots : List ℕ) (n j : ℕ) (small : m ≤ 12) (room : 512 * n + 512 ≤ length work) (v : Live m work roots n j) (u : Cleared work after n j) where
  abbrev fs : List (List ℕ)
  fs = fields_at work n

  abbrev gs : List (List ℕ)
  gs = fields_at after n

  abbrev ys : List ℕ
  ys = set (slot_in (fields_at work n) j) 0 0

  low : j < 12
  low = omega (arith, v.high)

  words : length ys ≡ 14
  words = length-set (slot_in fs j) 0 0 ∙ slot_long fs (fields_long work n) (slots_long work n room) j low []

  same_field : (f : ℕ) → f ≢ 6 → get_or gs f [] ≡ get_or fs f []
  same_field f ne = ap (λ (l : List (List ℕ)). get_or l f []) u.here ∙ field_other fs (fields_long work n) (slots_long work n room) j low ys f ne

  other_slot : (i : ℕ) → i ≢ j → slot_in gs i ≡ slot_in fs i
  other_slot i ne = ap (λ (l : List (List ℕ)). slot_in l i) u.here ∙ slot_other fs (fields_long work n) (slots_long work n room) j low ys words i ne

  no_flag : flag_in gs j ≡ 0
  no_flag =
      ap (λ (l : List (List ℕ)). flag_in l j) u.here
      ∙ ap (λ (l : List ℕ). get_or l 0 0) (slot_same fs (fields_long work n) (slots_long work n room) j low ys words)
      ∙ get_or-set_same (slot_in fs j) 0 0 0 (omega (arith, slot_long fs (fields_long work n) (slots_long work n room) j low []))

  tasks_kept : tasks_in gs ≡ tasks_in fs
  tasks_kept = same_field 2 (λ e. omega arith)

  row_kept : row_in gs ≡ row_in fs
  row_kept = ap (λ (l : List ℕ). get_or l 0 0) (same_field 4 (λ e. omega arith))

  closed_kept : closed_in gs ≡ closed_in fs
  closed_kept = same_field 8 (λ e. omega arith)

  here_kept : (i : ℕ) → i ≢ j → slot_here m fs i ≡ slot_here m gs i
  unfolding slot_here
  here_kept i ne = rw (other_slot i ne, tasks_kept, row_kept, closed_kept)

  taken_here : Without (slot_here m fs j) (slot_here m gs j) (slot_of m fs j)
  unfolding slot_here
  taken_here =
      rw (eq-eqb (flag_in fs j) 1 v.flag, ne_eqb (flag_in gs j) 1 (λ e. omega (arith, no_flag)))
      (record { left = []; right = []; whole = refl; rest = refl })

  taken_root : Without (root_slots m fs) (root_slots m gs) (slot_of m fs j)
  unfolding root_slots
  taken_root =
      rw row_kept
      (without_each ◌<◌ (λ x y l e. omega arith) (slot_here m fs) (slot_here m gs) j (slot_of m fs j) here_kept taken_here (count_from (row_in fs) (m - row_in fs)) (sorted_count_from (row_in fs) (m - row_in fs))
      (count_from_mem (row_in fs) (m - row_in fs) j v.low (omega (arith, v.low, v.high))))

  -- no word of the tournament is written, and of the slots neither a sum nor a task is
  pub taken_tournament : (k : ℕ) → get_or (fields_at after k) 5 [] ≡ get_or (fields_at work k) 5 []
  taken_tournament k = go (ℕ_discrete k n)
    where
      go : Dec (k ≡ n) → get_or (fields_at after k) 5 [] ≡ get_or (fields_at work k) 5 []
      go (yes e) = rw e (same_field 5 (λ z. omega arith))
      go (no e) = ap (λ (l : List (List ℕ)). get_or l 5 []) (u.records k e)

  slot_order : (i : ℕ) → Dec (i ≡ j) → (sum_in gs i ≡ sum_in fs i) × (slot_tasks_in gs i ≡ slot_tasks_in fs i)
  slot_order i (yes e) =
      let s : slot_in gs j ≡ ys = ap (λ (l : List (List ℕ)). slot_in l j) u.here ∙ slot_same fs (fields_long work n) (slots_long work n room) j low ys words in
      rw e (
        ap (λ (l : List ℕ). get_or l 1 0) s ∙ get_or-set_other (slot_in fs j) 0 1 0 0 (λ z. omega arith),
        ap (λ (l : List ℕ). part 2 12 l) s ∙ behind (slot_in fs j),
      )
    where
      behind : (l : List ℕ) → part 2 12 (set l 0 0) ≡ part 2 12 l
      behind [] = refl
      behind (x ∷ l) = refl
  slot_order i (no e) = (ap (λ (l : List ℕ). get_or l 1 0) (other_slot i e), ap (λ (l : List ℕ). part 2 12 l) (other_slot i e))

  pub taken_order : (k : ℕ) → SameOrder (fields_at after k) (fields_at work k)
  taken_order k = go (ℕ_discrete k n)
    where
      go : Dec (k ≡ n) → SameOrder (fields_at after k) (fields_at work k)
      go (yes e) = rw e (record { sums = λ i l. (slot_order i (ℕ_discrete i j)).0; tasks = λ i l. (slot_order i (ℕ_discrete i j)).1 })
      go (no e) = order_slots (fields_at after k) (fields_at work k) (ap (λ (l : List (List ℕ)). get_or l 6 []) (u.records k e))

  -- the others remain
  pub taken_slots : Sorted (λ x y. y < x) roots → Without (slots_at m work roots) (slots_at m after roots) (slot_of m fs j)
  unfolding slots_at
  taken_slots falls =
      without_each (λ x y. y < x) (λ x y l e. omega arith) (λ k. root_slots m (fields_at work k)) (λ k. root_slots m (fields_at after k)) n (slot_of m fs j) (λ k ne. ap (root_slots m) (sym (u.records k ne))) taken_root
      roots falls v.root

  -- and their words are as they were
  pub taken_rooted : (table : List ℕ) (k : ℕ) → Rooted m table (fields_at work k) → Rooted m table (fields_at after k)
  taken_rooted table k r = go (ℕ_discrete k n)
    where
      kept : Rooted m table fs → Rooted m table gs
      kept q = record { part = rw (tasks_kept, closed_kept) q.part; slots = λ i a b f. one i a b f (ℕ_discrete i j) }
        where
          one : (i : ℕ) → row_in gs ≤ i → i < m → flag_in gs i ≡ 1 → Dec (i ≡ j) → SlotFor m table gs i (Some (take m (slot_tasks_in gs i)))
          one i a b f (yes e) = absurd (omega (arith, no_flag, sym (ap (flag_in gs) e) ∙ f))
          one i a b f (no e) =
              rw (other_slot i e)
              (q.slots i (rw row_kept at a) b (sym (ap (λ (l : List ℕ). get_or l 0 0) (other_slot i e)) ∙ f))

      go : Dec (k ≡ n) → Rooted m table (fields_at after k)
      go (yes e) = subst (λ (i : ℕ). Rooted m table (fields_at after i)) (sym e) (kept (subst (λ (i : ℕ). Rooted m table (fields_at work i)) e r))
      go (no e) = rw (u.records k e) r
