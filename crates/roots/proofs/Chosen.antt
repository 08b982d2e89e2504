-- The chosen slot is one whose assignment is no later than those of the others. Assumes nothing.
use Rattle.std.proofs.Common.{Some, None, Option, ℕ, ◌+◌, ◌-◌, ◌<◌, ◌≤◌, ◌≡◌, refl, sym, ap, subst, ◌∙◌, ◌⊎◌, inl, inr, ⊎_elim, Bool, true, false, cond, List, [], ◌∷◌, ◌++◌, append_assoc, append-nil, arith, length, take, replicate, length-append, get_or-append-add, eqb, eq-eqb, eqb-true}
use Rattle.std.proofs.lemmas.List.{get_or-replicate, length-replicate, get_or_append_left}
use Rattle.std.proofs.lemmas.Bool.{false≢true, cases_lt}
use native.Mathlib.Nat.{suc_inj}
use Rattle.std.proofs.Math.ListN.{get_or-eq_default}
use Rattle.deck.proofs.Members.{Mem, here, there, only, cases_append}
use Rattle.deck.specs.Lists.{each}
use Rattle.deck.specs.Assignments.{sum_of}
use Rattle.deck.specs.Calls.{task_list}
use Rattle.meaning.specs.Meaning.{◌at◌, Assignment, Unbarred, StrictlyBefore, Less}
use Rattle.meaning.proofs.Tests.{Says, is_true}
use Rattle.meaning.proofs.Lists.{count_from_mem, each_mem}
use Rattle.prices.proofs.First.{less_trans}
use Rattle.partition.specs.Parts.{Slot}
use Rattle.partition.proofs.Candidates.{Candidate, candidate_meant}
use Rattle.candidates.specs.Candidates.{candidate_for}
use Rattle.candidates.proofs.Orders.{says_earlier}
use Rattle.records.specs.Record.{fields_at, row_in, flag_in, slot_tasks_in, bytes}
use Rattle.records.proofs.Words.{bytes_same}
use Rattle.roots.specs.Slots.{slot_of, slot_here, root_slots, slots_at, PartsHold}
use Rattle.roots.specs.Choices.{Chosen, slot_before, first_of, better_of, over_slots, Live, ChosenOf}
use Rattle.roots.specs.declared.Choice.{Choice}

-- of two lists of one length, one comes before the other, or they are the same
list_lower : (a b : List ℕ) → length a ≡ length b → (a ≡ b) ⊎ (StrictlyBefore a b ⊎ StrictlyBefore b a)
list_lower [] [] e = inl refl
list_lower [] (y ∷ b) e = absurd (omega (arith, e))
list_lower (x ∷ a) [] e = absurd (omega (arith, e))
list_lower (x ∷ a) (y ∷ b) e = ⊎_elim
    (λ l. inr (inl (inl l)))
    (λ g. ⊎_elim (λ l. inr (inr (inl l))) (λ h. same (omega arith) (list_lower a b (suc_inj e))) (cases_lt y x))
    (cases_lt x y)
  where
    same : x ≡ y → (a ≡ b) ⊎ (StrictlyBefore a b ⊎ StrictlyBefore b a) → (x ∷ a ≡ y ∷ b) ⊎ (StrictlyBefore (x ∷ a) (y ∷ b) ⊎ StrictlyBefore (y ∷ b) (x ∷ a))
    same z (inl s) = inl (rw (z, s))
    same z (inr (inl s)) = inr (inl (inr (z, s)))
    same z (inr (inr s)) = inr (inr (inr (sym z, s)))

not_less : (m : ℕ) (table a b : List ℕ) → length a ≡ length b → (Less m table a b → ⊥) → (a ≡ b) ⊎ Less m table b a
not_less m table a b e never = ⊎_elim
    (λ l. absurd (never (inl l)))
    (λ g. ⊎_elim (λ l. inr (inl l)) (λ h. same (omega arith) (list_lower a b e)) (cases_lt (sum_of m table b) (sum_of m table a)))
    (cases_lt (sum_of m table a) (sum_of m table b))
  where
    same : sum_of m table a ≡ sum_of m table b → (a ≡ b) ⊎ (StrictlyBefore a b ⊎ StrictlyBefore b a) → (a ≡ b) ⊎ Less m table b a
    same z (inl s) = inl s
    same z (inr (inl s)) = absurd (never (inr (z, s)))
    same z (inr (inr s)) = inr (inr (sym z, s))

-- a list of 12 is of bytes
pub list_bytes : (m : ℕ) (a : List ℕ) → m ≤ 12 → Assignment m a → (i : ℕ) → task_list a at i < 256
list_bytes m a small h i = ⊎_elim
    (λ l. omega (arith, get_or_append_left a (replicate (12 - length a) 255) 0 i l, h.tasks i (omega (arith, h.as_many))))
    (λ l. past (cases_lt i 12) l) (cases_lt i (length a))
  where
    past : (i < 12) ⊎ (12 ≤ i) → length a ≤ i → task_list a at i < 256
    past (inl g) l =
        let z : i ≡ length a + (i - length a) = omega arith in
        let e : task_list a at i ≡ 255 = ap (◌at◌ (task_list a)) z ∙ get_or-append-add a (replicate (12 - length a) 255) (i - length a) 0 ∙ get_or-replicate (12 - length a) (i - length a) 255 0 (omega arith) in
        omega (arith, e)
    past (inr g) l =
        let n : length (task_list a) ≤ i = rw (length-append a (replicate (12 - length a) 255), length-replicate {A = ℕ} (12 - length a) 255) (omega (arith, h.as_many)) in
        omega (arith, get_or-eq_default (task_list a) 0 {n = i} n)

-- a slot of a root is one of the slots
pub live_slot : (m : ℕ) (work roots : List ℕ) (n j : ℕ) → Live m work roots n j → Mem (slot_of m (fields_at work n) j) (slots_at m work roots)
unfolding slots_at root_slots slot_here
live_slot m work roots n j v =
    each_mem (λ k. root_slots m (fields_at work k)) v.root
    (each_mem (slot_here m (fields_at work n)) (count_from_mem (row_in (fields_at work n)) (m - row_in (fields_at work n)) j v.low (omega (arith, v.low, v.high)))
    (rw (eq-eqb (flag_in (fields_at work n) j) 1 v.flag) (here refl)))

module _ (m : ℕ) (table work roots : List ℕ) (rest : List (List ℕ)) (small : m ≤ 12) (H : PartsHold m table work roots rest) where
  pub live_unbarred : (n j : ℕ) → Live m work roots n j → Unbarred m table (take m (slot_tasks_in (fields_at work n) j))
  live_unbarred n j v =
      (subst (Candidate m table s.part) (H.holds.right s (live_slot m work roots n j v)) (candidate_meant m table s.part)).0
    where
      s : Slot
      s = slot_of m (fields_at work n) j

  -- the words of a slot, as they are compared
  pub live_list : (n j : ℕ) → Live m work roots n j → bytes (slot_tasks_in (fields_at work n) j) ≡ task_list (take m (slot_tasks_in (fields_at work n) j))
  live_list n j v =
      let e = ((H.rooted n v.root).slots j v.low v.high v.flag).2 in
      ap bytes e ∙ bytes_same (task_list (take m (slot_tasks_in (fields_at work n) j))) (list_bytes m (take m (slot_tasks_in (fields_at work n) j)) small (live_unbarred n j v).0)

  says_before : (n j p q : ℕ) → Live m work roots n j → Live m work roots p q
      → Says (slot_before (fields_at work n) j (fields_at work p) q) (Less m table (take m (slot_tasks_in (fields_at work n) j)) (take m (slot_tasks_in (fields_at work p) q)))
  unfolding candidate_for
  says_before n j p q v w =
      rw (((H.rooted n v.root).slots j v.low v.high v.flag).1, ((H.rooted p w.root).slots q w.low w.high w.flag).1, live_list n j v, live_list p q w)
      (says_earlier m table (take m (slot_tasks_in (fields_at work n) j)) (take m (slot_tasks_in (fields_at work p) q)) small (live_unbarred n j v).0.as_many (live_unbarred p q w).0.as_many)

-- ONE SLOT MORE
module _ (m : ℕ) (work roots : List ℕ) where
  module _ (n j : ℕ) (seen : List Slot) (root : Mem n roots) (low : row_in (fields_at work n) ≤ j) (high : j < m) where
    abbrev s : Slot
    s = slot_of m (fields_at work n) j

    -- against the chosen slot, in the order of the assignments
    pub first_of_two : (p q : ℕ) → Live m work roots n j → ChosenOf m work roots seen (Chosen p q) → (r : Bool) → slot_before (fields_at work n) j (fields_at work p) q ≡ r
        → ChosenOf m work roots (seen ++ s ∷ []) (cond r (Chosen n j) (Chosen p q))
    first_of_two p q live h true e = (
      live,
      λ table rest small H t i. ⊎_elim
          (λ k. no_later table t.first ((says_before m table work roots rest small H n j p q live h.0).fact (rw e tt)) (h.1 table rest small H t k))
          (λ k. inl (ap (λ (x : Slot). x.first) (only k))) (cases_append seen i),
    )
      where
        no_later : (table x : List ℕ) → Less m table s.first (take m (slot_tasks_in (fields_at work p) q))
            → (x ≡ take m (slot_tasks_in (fields_at work p) q)) ⊎ Less m table (take m (slot_tasks_in (fields_at work p) q)) x → (x ≡ s.first) ⊎ Less m table s.first x
        no_later table x l (inl z) = inr (subst (λ (y : List ℕ). Less m table s.first y) (sym z) l)
        no_later table x l (inr g) = inr (less_trans m table s.first (take m (slot_tasks_in (fields_at work p) q)) x l g)
    first_of_two p q live h false e = (
      h.0,
      λ table rest small H t i. ⊎_elim
          (h.1 table rest small H t)
          (λ k. subst (λ (x : List ℕ). (x ≡ take m (slot_tasks_in (fields_at work p) q)) ⊎ Less m table (take m (slot_tasks_in (fields_at work p) q)) x) (sym (ap (λ (y : Slot). y.first) (only k)))
          (not_less m table s.first (take m (slot_tasks_in (fields_at work p) q))
          ((live_unbarred m table work roots rest small H n j live).0.as_many ∙ sym (live_unbarred m table work roots rest small H p q h.0).0.as_many)
          (λ l. absurd (false≢true (sym e ∙ is_true (slot_before (fields_at work n) j (fields_at work p) q) ((says_before m table work roots rest small H n j p q live h.0).test l)))))) (cases_append seen i),
    )

    one_more : (b : Option Choice) → ChosenOf m work roots seen b → ChosenOf m work roots (seen ++ slot_here m (fields_at work n) j) (better_of work n j b)
    unfolding slot_here better_of
    one_more b h = go (eqb (flag_in (fields_at work n) j) 1) refl b h
      where
        live : eqb (flag_in (fields_at work n) j) 1 ≡ true → Live m work roots n j
        live e = record { root = root; low = low; high = high; flag = eqb-true (flag_in (fields_at work n) j) 1 e }

        go : (t : Bool) → eqb (flag_in (fields_at work n) j) 1 ≡ t → (b : Option Choice) → ChosenOf m work roots seen b
            → ChosenOf m work roots (seen ++ cond t (s ∷ []) []) (cond t (first_of work n j b) b)
        go false e b h = subst (λ (l : List Slot). ChosenOf m work roots l b) (sym (append-nil seen)) h
        go true e None h = (live e, λ table rest small H. rw h (λ t i. inl (ap (λ (x : Slot). x.first) (only i))))
        go true e (Some c) h = first_of_two c.n c.j (live e) h (slot_before (fields_at work n) j (fields_at work c.n) c.j) refl

  pub over_slots_lem : (n : ℕ) → Mem n roots → (js : List ℕ) (seen : List Slot) (b : Option Choice) → ((j : ℕ) → Mem j js → (row_in (fields_at work n) ≤ j) × (j < m))
      → ChosenOf m work roots seen b → ChosenOf m work roots (seen ++ each (slot_here m (fields_at work n)) js) (over_slots work n js b)
  over_slots_lem n root [] seen b g h = subst (λ (l : List Slot). ChosenOf m work roots l b) (sym (append-nil seen)) h
  over_slots_lem n root (j ∷ js) seen b g h =
      let k = g j (here refl) in
      subst (λ (l : List Slot). ChosenOf m work roots l (over_slots work n js (better_of work n j b))) (append_assoc seen (slot_here m (fields_at work n) j) (each (slot_here m (fields_at work n)) js))
      (over_slots_lem n root js (seen ++ slot_here m (fields_at work n) j) (better_of work n j b) (λ i x. g i (there x)) (one_more n j seen root k.0 k.1 b h))
