-- The least of the slots' first assignments is the next in order, and its part's slots then hold what remains of it. So taking the
-- best slot again and again hands out the assignments in order. Assumes nothing.
use Rattle.std.proofs.Common.{ℕ, zero, suc, ◌+◌, ◌-◌, ◌≤◌, ◌<◌, ◌≡◌, refl, sym, ap, subst, ◌∙◌, ◌⊎◌, inl, inr, ⊎_elim, ◌≢◌, List, [], ◌∷◌, ◌++◌, Option, None, Some, arith, length}
use Rattle.deck.proofs.Members.{Mem, here, there, not-nil, cases_cons, only, in_left, in_right, cases_append}
use Rattle.deck.specs.Lists.{count_from, each}
use Rattle.deck.specs.Assignments.{assignments_in_order, least_assignment}
use Rattle.meaning.specs.Meaning.{◌at◌, Assignment, Unbarred, Less}
use Rattle.meaning.specs.Sorted.{Sorted}
use Rattle.meaning.proofs.Lists.{mem_each, each_mem, mem_count_from, count_from_mem, sorted_append}
use Rattle.meaning.proofs.Assignments.{in_order_meant, in_order_rising, least_assignment_meant}
use Rattle.prices.proofs.First.{less_asym, less_trans, is_least}
use Rattle.partition.specs.Parts.{Part, InPart, candidate, none_closed, whole_part, slot_part, Slot, slot_with, slots_of, Apart, Holds, Best, HandsOut, ends, takes}
use Rattle.partition.proofs.Candidates.{Candidate, candidate_meant}
use Rattle.partition.proofs.Splits.{none_closed_lem, split_rest, split_sub, split_apart, slot_long}

-- lists from which one element is taken
module _ {A : Type 0} where
  among_all : (l : List A) (s : A) (r : List A) {x : A} → Mem x (l ++ r) → Mem x (l ++ s ∷ r)
  among_all l s r m = ⊎_elim (λ n. in_left (s ∷ r) n) (λ n. in_right l (there n)) (cases_append l m)

  one_or_other : (l : List A) (s : A) (r : List A) {x : A} → Mem x (l ++ s ∷ r) → (x ≡ s) ⊎ Mem x (l ++ r)
  one_or_other l s r m =
      ⊎_elim (λ n. inr (in_left r n)) (λ n. ⊎_elim (λ e. inl e) (λ k. inr (in_right l k)) (cases_cons n)) (cases_append l m)

  the_one : (l : List A) (s : A) (r : List A) → Mem s (l ++ s ∷ r)
  the_one l s r = in_right l (here refl)

  sorted_others : (R : A → A → Type 0) (l : List A) (s : A) (r : List A) → Sorted R (l ++ s ∷ r) → Sorted R (l ++ r)
  sorted_others R [] s r h = h.1
  sorted_others R (x ∷ l) s r h = (λ y m. h.0 y (among_all l s r m), sorted_others R l s r h.1)

  one_and_others : (R : A → A → Type 0) → ((x y : A) → R x y → R y x) → (l : List A) (s : A) (r : List A) → Sorted R (l ++ s ∷ r)
      → (x : A) → Mem x (l ++ r) → R s x
  one_and_others R turn [] s r h x m = h.0 x m
  one_and_others R turn (y ∷ l) s r h x m = ⊎_elim
      (λ e. rw e (turn y s (h.0 s (the_one l s r)))) (one_and_others R turn l s r h.1 x) (cases_cons m)

module _ (m : ℕ) (small : m ≤ 12) (table : List ℕ) where
  -- the slot of a part: it has the part's candidate
  in_slot_with : (q : Part) (s : Slot) → Mem s (slot_with q (candidate m table q)) → (s.part ≡ q) × (candidate m table q ≡ Some s.first)
  in_slot_with q s n = go (candidate m table q) n
    where
      go : (o : Option (List ℕ)) → Mem s (slot_with q o) → (s.part ≡ q) × (o ≡ Some s.first)
      go None k = absurd (not-nil k)
      go (Some a) k = (ap (λ (t : Slot). t.part) (only k), ap (λ (t : Slot). Some t.first) (sym (only k)))

  -- and it is there where the part is not empty
  slot_with_in : (q : Part) (x : List ℕ) → Unbarred m table x → InPart q x → (s : Slot) × Mem s (slot_with q (candidate m table q)) × (s.part ≡ q)
  slot_with_in q x u p = go (candidate m table q) (candidate_meant m table q)
    where
      go : (o : Option (List ℕ)) → Candidate m table q o → (s : Slot) × Mem s (slot_with q o) × (s.part ≡ q)
      go None c = absurd (c x u p)
      go (Some a) c = (record { part = q; first = a }, here refl, refl)

  slot_first : (s : Slot) → candidate m table s.part ≡ Some s.first → Candidate m table s.part (Some s.first)
  slot_first s e = subst (Candidate m table s.part) e (candidate_meant m table s.part)

  module _ (a : List ℕ) (k : ℕ) (ts : List ℕ) where
    -- the slots of a part are those of carriers from k on
    of_slots : (s : Slot) → Mem s (slots_of m table a k ts)
        → (j : ℕ) × (k ≤ j) × (j < m) × (s.part ≡ slot_part a k ts j) × (candidate m table s.part ≡ Some s.first)
    unfolding slots_of
    of_slots s n =
        let e = mem_each (λ j. slot_with (slot_part a k ts j) (candidate m table (slot_part a k ts j))) (count_from k (m - k)) n in
        let b = mem_count_from k (m - k) e.1 in
        let f = in_slot_with (slot_part a k ts e.0) s e.2 in
        (e.0, b.0, omega (arith, b.0, b.1), f.0, ap (candidate m table) f.0 ∙ f.1)

    to_slots : (j : ℕ) → k ≤ j → j < m → (x : List ℕ) → Unbarred m table x → InPart (slot_part a k ts j) x
        → (s : Slot) × Mem s (slots_of m table a k ts) × InPart s.part x
    unfolding slots_of
    to_slots j le l x u p =
        let f = slot_with_in (slot_part a k ts j) x u p in
        (f.0, each_mem (λ j. slot_with (slot_part a k ts j) (candidate m table (slot_part a k ts j))) (count_from_mem k (m - k) j le (omega arith)) f.1, rw f.2 p)

  module _ (q : Part) (low : q.row < m) (long : length q.closed ≡ 12) (a : List ℕ) (h : Assignment m a) (p : InPart q a) where
    slots_apart : Sorted Apart (slots_of m table a q.row q.closed)
    unfolding slots_of
    slots_apart = go q.row (m - q.row) (omega arith)
      where
        fill : ℕ → List Slot
        fill j = slot_with (slot_part a q.row q.closed j) (candidate m table (slot_part a q.row q.closed j))

        one : (q : Part) (o : Option (List ℕ)) → Sorted Apart (slot_with q o)
        one q None = tt
        one q (Some b) = (λ t n. absurd (not-nil n), tt)

        -- carriers in order, so that the two of a pair are told apart
        go : (k n : ℕ) → k + n ≤ m → Sorted Apart (each fill (count_from k n))
        go k zero l = tt
        go k (suc n) l =
            sorted_append Apart (fill k) (each fill (count_from (suc k) n)) (one (slot_part a q.row q.closed k) (candidate m table (slot_part a q.row q.closed k))) (go (suc k) n (omega arith))
            (λ s t i j x y z.
            let e = mem_each fill (count_from (suc k) n) j in
            let b = mem_count_from (suc k) n e.1 in
            split_apart m small q long low a h p k e.0 b.0 (omega (arith, b.1)) x
            (subst (λ (g : Part). InPart g x) (in_slot_with (slot_part a q.row q.closed k) s i).0 y)
            (subst (λ (g : Part). InPart g x) (in_slot_with (slot_part a q.row q.closed e.0) t e.2).0 z))

  -- at the beginning all assignments are in one part
  in_whole : (x : List ℕ) → InPart whole_part x
  in_whole x = record { same = λ i l. absurd (omega arith); another = none_closed_lem (x at 0) }

  -- ONE STEP
  module _ (l : List Slot) (s : Slot) (r : List Slot) (best : Best m table (l ++ s ∷ r) s) where
    mine : (rest : List (List ℕ)) → Holds m table (l ++ s ∷ r) rest → Candidate m table s.part (Some s.first)
    mine rest H = slot_first s (H.right s (the_one l s r))

    stays : (rest : List (List ℕ)) → Holds m table (l ++ s ∷ r) rest → Mem s.first rest
    stays rest H = let c = mine rest H in H.held s (the_one l s r) s.first c.0 c.1

    no_later : (x y : List ℕ) → (y ≡ x) ⊎ Less m table x y → Less m table y x → ⊥
    no_later x y (inl e) g = less_asym m table y x g (subst (λ (z : List ℕ). Less m table x z) (sym e) (subst (λ (z : List ℕ). Less m table z x) e g))
    no_later x y (inr f) g = less_asym m table x y f g

    no_later_than : (x y z : List ℕ) → (y ≡ x) ⊎ Less m table x y → (z ≡ y) ⊎ Less m table y z → (z ≡ x) ⊎ Less m table x z
    no_later_than x y z (inl e) (inl f) = inl (f ∙ e)
    no_later_than x y z (inl e) (inr g) = inr (subst (λ (w : List ℕ). Less m table w z) e g)
    no_later_than x y z (inr g) (inl f) = inr (subst (λ (w : List ℕ). Less m table x w) (sym f) g)
    no_later_than x y z (inr f) (inr g) = inr (less_trans m table x y z f g)

    head_is : (b : List ℕ) (rest : List (List ℕ)) → Holds m table (l ++ s ∷ r) (b ∷ rest) → b ≡ s.first
    head_is b rest H =
        let c = H.covered b (here refl) in
        let t = c.0 in
        let first = (slot_first t (H.right t c.1)).2 b (H.unbarred b (here refl)) c.2 in
        let le = no_later_than s.first t.first b (best t c.1) first in
        ⊎_elim (λ e. sym e) (λ n. absurd (no_later s.first b le (H.sorted.0 s.first n))) (cases_cons (stays (b ∷ rest) H))

    abbrev next : List Slot
    next = slots_of m table s.first s.part.row s.part.closed

    remaining : (b : List ℕ) (rest : List (List ℕ)) → Holds m table (l ++ s ∷ r) (b ∷ rest) → Holds m table ((l ++ r) ++ next) rest
    remaining b rest H = record {
      sorted = H.sorted.1;
      unbarred = λ x n. H.unbarred x (there n);
      covered = λ x n. let c = H.covered x (there n) in
          ⊎_elim (λ e. new_covered x n (subst (λ (t : Slot). InPart t.part x) e c.2)) (λ k. (c.0, in_left next k, c.2)) (one_or_other l s r c.1);
      held = λ t n x u p. ⊎_elim (λ k. old_held t k x u p) (λ k. new_held t k x u p) (cases_append (l ++ r) n);
      proper = λ t n. ⊎_elim (λ k. H.proper t (among_all l s r k)) (λ k. new_proper t k) (cases_append (l ++ r) n);
      right = λ t n. ⊎_elim (λ k. H.right t (among_all l s r k)) (λ k. (of_slots s.first s.part.row s.part.closed t k).4) (cases_append (l ++ r) n);
      apart = sorted_append Apart (l ++ r) next (sorted_others Apart l s r H.apart) (slots_apart s.part low long s.first c.0.0 c.1) cross;
    }
      where
        c : Candidate m table s.part (Some s.first)
        c = mine (b ∷ rest) H

        low : s.part.row < m
        low = (H.proper s (the_one l s r)).0

        long : length s.part.closed ≡ 12
        long = (H.proper s (the_one l s r)).1

        -- what remains is another than the one handed out
        not_first : (x : List ℕ) → Mem x rest → x ≢ s.first
        not_first x n e = no_later x s.first (inl (sym e)) (rw (head_is b rest H) at (H.sorted.0 x n))

        left_over : (x : List ℕ) → x ≢ s.first → Mem x (b ∷ rest) → Mem x rest
        left_over x ne n = ⊎_elim (λ e. absurd (ne (e ∙ head_is b rest H))) (λ k. k) (cases_cons n)

        new_covered : (x : List ℕ) → Mem x rest → InPart s.part x → (t : Slot) × Mem t ((l ++ r) ++ next) × InPart t.part x
        new_covered x n p = ⊎_elim (λ e. absurd (not_first x n e)) (λ j. found j) (split_rest m small s.part long low s.first c.0.0 c.1 x u.0.as_many p)
          where
            u : Unbarred m table x
            u = H.unbarred x (there n)

            found : (j : ℕ) × (s.part.row ≤ j) × (j < m) × InPart (slot_part s.first s.part.row s.part.closed j) x
                → (t : Slot) × Mem t ((l ++ r) ++ next) × InPart t.part x
            found (j, le, lj, g) = let f = to_slots s.first s.part.row s.part.closed j le lj x u g in (f.0, in_right (l ++ r) f.1, f.2)

        symmetric : (x y : Slot) → Apart x y → Apart y x
        symmetric x y h z i j = h z j i

        old_held : (t : Slot) → Mem t (l ++ r) → (x : List ℕ) → Unbarred m table x → InPart t.part x → Mem x rest
        old_held t n x u p =
            left_over x
            (λ e. one_and_others Apart symmetric l s r H.apart t n s.first c.1 (rw e at p))
            (H.held t (among_all l s r n) x u p)

        sub : (t : Slot) → Mem t next → (x : List ℕ) → InPart t.part x → InPart s.part x × (x ≢ s.first)
        sub t n x p =
            let o = of_slots s.first s.part.row s.part.closed t n in
            split_sub m small s.part long low s.first c.0.0 c.1 o.0 o.1 o.2 x (subst (λ (g : Part). InPart g x) o.3 p)

        new_held : (t : Slot) → Mem t next → (x : List ℕ) → Unbarred m table x → InPart t.part x → Mem x rest
        new_held t n x u p = let v = sub t n x p in left_over x v.1 (H.held s (the_one l s r) x u v.0)

        new_proper : (t : Slot) → Mem t next → (t.part.row < m) × (length t.part.closed ≡ 12)
        new_proper t n =
            let o = of_slots s.first s.part.row s.part.closed t n in
            rw o.3 (o.2, slot_long s.first s.part.row s.part.closed o.0 long)

        cross : (x y : Slot) → Mem x (l ++ r) → Mem y next → Apart x y
        cross x y i j z p g = one_and_others Apart symmetric l s r H.apart x i z (sub y j z g).0 p

    -- the best slot's first assignment is the next in order, and the slots after it hold the others
    pub next_in_order : (rest : List (List ℕ)) → Holds m table (l ++ s ∷ r) rest
        → (others : List (List ℕ)) × (rest ≡ s.first ∷ others) × Holds m table ((l ++ r) ++ next) others
    next_in_order [] H = absurd (not-nil (stays [] H))
    next_in_order (b ∷ rest) H = (rest, ap (λ (x : List ℕ). x ∷ rest) (head_is b rest H), remaining b rest H)

  -- without a slot none remains
  pub none_remains : (rest : List (List ℕ)) → Holds m table [] rest → rest ≡ []
  none_remains [] H = refl
  none_remains (b ∷ rest) H = absurd (not-nil (H.covered b (here refl)).1)

  -- THE FIRST: the least assignment; the slots of the whole then hold the others
  pub first_in_order_lem : 0 < m → (a : List ℕ) → least_assignment m table ≡ Some a
      → (others : List (List ℕ)) × (assignments_in_order m table ≡ a ∷ others) × Holds m table (slots_of m table a 0 none_closed) others
  first_in_order_lem pos a e = next_in_order [] whole [] (λ t n. inl (ap (λ (t : Slot). t.first) (only n))) (assignments_in_order m table) start
    where
      whole : Slot
      whole = record { part = whole_part; first = a }

      is_first : candidate m table whole_part ≡ Some a
      is_first = go (candidate m table whole_part) (candidate_meant m table whole_part)
        where
          go : (o : Option (List ℕ)) → Candidate m table whole_part o → o ≡ Some a
          go None c = absurd (c a (least_assignment_meant m table a e).0 (in_whole a))
          go (Some b) c = sym (is_least m table b c.0 (λ x u. c.2 x u (in_whole x))) ∙ e

      start : Holds m table (whole ∷ []) (assignments_in_order m table)
      start = record {
        sorted = in_order_rising m table;
        unbarred = λ x n. (in_order_meant m table x).0 n;
        covered = λ x n. (whole, here refl, in_whole x);
        held = λ t n x u p. (in_order_meant m table x).1 u;
        proper = λ t n. rw (only n) (pos, refl);
        right = λ t n. rw (only n) is_first;
        apart = (λ t n. absurd (not-nil n), tt);
      }

  -- MURTY: however the best slot is found, the slots hand out the assignments in order
  handed_out : (slots : List Slot) (out rest : List (List ℕ)) → HandsOut m table slots out → Holds m table slots rest → rest ≡ out
  handed_out slots out rest ends H = none_remains rest H
  handed_out slots out rest (takes l s r more best again) H =
      let n = next_in_order l s r best rest H in
      n.1 ∙ ap (λ (x : List (List ℕ)). s.first ∷ x) (handed_out ((l ++ r) ++ slots_of m table s.first s.part.row s.part.closed) more n.0 again n.2)

  pub murty_in_order : 0 < m → (a : List ℕ) → least_assignment m table ≡ Some a → (out : List (List ℕ))
      → HandsOut m table (slots_of m table a 0 none_closed) out → assignments_in_order m table ≡ a ∷ out
  murty_in_order pos a e out h =
      let n = first_in_order_lem pos a e in
      n.1 ∙ ap (λ (x : List (List ℕ)). a ∷ x) (handed_out (slots_of m table a 0 none_closed) out n.0 h n.2)
