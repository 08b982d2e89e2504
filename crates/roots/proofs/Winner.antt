-- The choice at number 0 of the tournament is one whose assignment is no later than those of the other slots. Assumes nothing.
use Rattle.std.proofs.Common.{Some, None, Option, ℕ, zero, suc, ◌+◌, ◌*◌, ◌-◌, ◌<◌, ◌≤◌, ◌/◌, ◌≡◌, refl, sym, ap, subst, ◌∙◌, ◌⊎◌, inl, inr, ⊎_elim, List, [], ◌∷◌, arith, take}
use Rattle.std.proofs.lemmas.Bool.{cases_lt}
use native.Mathlib.Decide.{ℕ_discrete}
use Rattle.deck.proofs.Members.{Mem, here, there, not-nil, only, cases_append}
use Rattle.deck.specs.Lists.{count_from, each}
use Rattle.meaning.specs.Meaning.{Less}
use Rattle.meaning.proofs.Lists.{mem_count_from}
use Rattle.prices.proofs.First.{less_trans}
use Rattle.partition.specs.Parts.{Slot}
use Rattle.records.specs.Record.{fields_at, row_in, slot_tasks_in}
use Rattle.roots.specs.Slots.{slot_of, root_slots, slots_at, PartsHold}
use Rattle.roots.specs.Choices.{Chosen, slot_before, Live, ChosenOf}
use Rattle.roots.specs.Tournament.{own_at, win_below, first_choice, first_here, best_own, Tournament}
use Rattle.roots.specs.declared.Choice.{Choice}
use Rattle.roots.proofs.Chosen.{over_slots_lem, first_of_two}
use Rattle.roots.proofs.Codes.{below_yes, below_no}

module _ (m : ℕ) (work roots : List ℕ) where
  -- a choice is none, or one of the slots
  abbrev LiveChoice : Option Choice → Type 0
  LiveChoice None = Unit {0}
  LiveChoice (Some c) = Live m work roots c.n c.j

  chosen_live : (slots : List Slot) (b : Option Choice) → ChosenOf m work roots slots b → LiveChoice b
  chosen_live slots None h = tt
  chosen_live slots (Some c) h = h.0

  -- a slot alone
  alone : (n j : ℕ) → Live m work roots n j → ChosenOf m work roots (slot_of m (fields_at work n) j ∷ []) (Chosen n j)
  alone n j v = (v, λ table rest small H t i. inl (ap (λ (s : Slot). s.first) (only i)))

  none_before : (slots : List Slot) (b : Option Choice) → slots ≡ [] → LiveChoice b → ChosenOf m work roots slots b
  none_before slots None e v = e
  none_before slots (Some c) e v = (v, λ table rest small H t i. absurd (not-nil (subst (Mem t) e i)))

  -- what is chosen of some slots is so of one of them
  of_one : (slots : List Slot) (s : Slot) (b : Option Choice) → Mem s slots → ChosenOf m work roots slots b → ChosenOf m work roots (s ∷ []) b
  of_one slots s None i h = absurd (not-nil (subst (Mem s) h i))
  of_one slots s (Some c) i h = (h.0, λ table rest small H t k. subst (λ (x : Slot). (x.first ≡ take m (slot_tasks_in (fields_at work c.n) c.j)) ⊎ Less m table (take m (slot_tasks_in (fields_at work c.n) c.j)) x.first) (sym (only k)) (h.1 table rest small H s i))

  -- a choice that is no later than the chosen one
  no_later : (slots : List Slot) (n j : ℕ) (b : Option Choice) → ChosenOf m work roots slots (Chosen n j) → ChosenOf m work roots (slot_of m (fields_at work n) j ∷ []) b → ChosenOf m work roots slots b
  no_later slots n j None h g = absurd (not-nil (subst (Mem (slot_of m (fields_at work n) j)) g (here refl)))
  no_later slots n j (Some c) h g = (g.0, λ table rest small H t i. join table t.first (g.1 table rest small H (slot_of m (fields_at work n) j) (here refl)) (h.1 table rest small H t i))
    where
      a : List ℕ
      a = take m (slot_tasks_in (fields_at work n) j)

      b : List ℕ
      b = take m (slot_tasks_in (fields_at work c.n) c.j)

      join : (table x : List ℕ) → (a ≡ b) ⊎ Less m table b a → (x ≡ a) ⊎ Less m table a x → (x ≡ b) ⊎ Less m table b x
      join table x (inl e) (inl f) = inl (f ∙ e)
      join table x (inl e) (inr g) = inr (subst (λ (y : List ℕ). Less m table y x) e g)
      join table x (inr l) (inl f) = inr (subst (λ (y : List ℕ). Less m table b y) (sym f) l)
      join table x (inr l) (inr g) = inr (less_trans m table b a x l g)

  -- THE FIRST OF TWO CHOICES is no later than either
  both : (n j p q : ℕ) → Live m work roots n j → Live m work roots p q
      → ChosenOf m work roots (slot_of m (fields_at work p) q ∷ slot_of m (fields_at work n) j ∷ []) (first_choice work (Chosen n j) (Chosen p q))
  both n j p q v w =
      first_of_two m work roots n j (slot_of m (fields_at work p) q ∷ []) v.root v.low v.high p q v (alone p q w) (slot_before (fields_at work n) j (fields_at work p) q) refl

  first_live : (a b : Option Choice) → LiveChoice a → LiveChoice b → LiveChoice (first_choice work a b)
  first_live None b x y = y
  first_live (Some c) None x y = x
  first_live (Some c) (Some d) x y =
      chosen_live (slot_of m (fields_at work d.n) d.j ∷ slot_of m (fields_at work c.n) c.j ∷ []) (first_choice work (Chosen c.n c.j) (Chosen d.n d.j)) (both c.n c.j d.n d.j x y)

  over_second : (slots : List Slot) (a b : Option Choice) → LiveChoice a → ChosenOf m work roots slots b → ChosenOf m work roots slots (first_choice work a b)
  over_second slots None b v h = h
  over_second slots (Some c) None v h = none_before slots (Chosen c.n c.j) h v
  over_second slots (Some c) (Some d) v h =
      no_later slots d.n d.j (first_choice work (Chosen c.n c.j) (Chosen d.n d.j)) h
      (of_one (slot_of m (fields_at work d.n) d.j ∷ slot_of m (fields_at work c.n) c.j ∷ []) (slot_of m (fields_at work d.n) d.j) (first_choice work (Chosen c.n c.j) (Chosen d.n d.j)) (here refl) (both c.n c.j d.n d.j v h.0))

  over_first : (slots : List Slot) (a b : Option Choice) → ChosenOf m work roots slots a → LiveChoice b → ChosenOf m work roots slots (first_choice work a b)
  over_first slots None b h v = none_before slots b h v
  over_first slots (Some c) None h v = h
  over_first slots (Some c) (Some d) h v =
      no_later slots c.n c.j (first_choice work (Chosen c.n c.j) (Chosen d.n d.j)) h
      (of_one (slot_of m (fields_at work d.n) d.j ∷ slot_of m (fields_at work c.n) c.j ∷ []) (slot_of m (fields_at work c.n) c.j) (first_choice work (Chosen c.n c.j) (Chosen d.n d.j)) (there (here refl)) (both c.n c.j d.n d.j h.0 v))

  -- what is chosen of each of some lists
  of_each : (F : ℕ → List Slot) (ns : List ℕ) (b : Option Choice) → LiveChoice b → ((n : ℕ) → Mem n ns → ChosenOf m work roots (F n) b) → ChosenOf m work roots (each F ns) b
  of_each F ns None v h = none ns h
    where
      none : (ns : List ℕ) → ((n : ℕ) → Mem n ns → F n ≡ []) → each F ns ≡ []
      none [] h = refl
      none (n ∷ ns) h = rw (h n (here refl)) (none ns (λ i k. h i (there k)))
  of_each F ns (Some c) v h = (v, λ table rest small H t i. one table rest small H t ns h i)
    where
      one : (table : List ℕ) (rest : List (List ℕ)) → m ≤ 12 → PartsHold m table work roots rest → (t : Slot) (ns : List ℕ) → ((n : ℕ) → Mem n ns → ChosenOf m work roots (F n) (Chosen c.n c.j)) → Mem t (each F ns)
          → (t.first ≡ take m (slot_tasks_in (fields_at work c.n) c.j)) ⊎ Less m table (take m (slot_tasks_in (fields_at work c.n) c.j)) t.first
      one table rest small H t [] h i = absurd (not-nil i)
      one table rest small H t (n ∷ ns) h i = ⊎_elim
          (λ k. (h n (here refl)).1 table rest small H t k)
          (λ k. one table rest small H t ns (λ x y. h x (there y)) k) (cases_append (F n) i)

  -- THE TOURNAMENT
  module _ (latest : ℕ) (low : (n : ℕ) → Mem n roots → n < latest) (T : Tournament m work latest roots) where
    root_chosen : (n : ℕ) → Mem n roots → ChosenOf m work roots (root_slots m (fields_at work n)) (own_at work n)
    unfolding root_slots best_own
    root_chosen n i =
        let k : ℕ = row_in (fields_at work n) in
        subst (ChosenOf m work roots (root_slots m (fields_at work n))) (sym (T.own n i))
        (over_slots_lem m work roots n i (count_from k (m - k)) [] None (λ j x. let y = mem_count_from k (m - k) x in (y.0, omega (arith, y.0, y.1))) refl)

    own_live : (k : ℕ) → k < latest → LiveChoice (own_at work k)
    own_live k l = ⊎_elim
        (λ e. subst LiveChoice (sym e) tt)
        (λ i. chosen_live (root_slots m (fields_at work k)) (own_at work k) (root_chosen k i)) (T.others k l)

    -- each choice is one of the slots, from the last number down
    win_live : (d k : ℕ) → latest ≤ k + d → LiveChoice (win_below work latest k)
    win_live zero k h = subst LiveChoice (sym (below_no work k latest (omega arith))) tt
    win_live (suc d) k h = go (cases_lt k latest) (win_live d (2 * k + 1) (omega arith)) (win_live d (2 * k + 2) (omega arith))
      where
        here_live : k < latest → LiveChoice (win_below work latest (2 * k + 1)) → LiveChoice (win_below work latest (2 * k + 2)) → LiveChoice (first_here work latest k)
        here_live l a b = unfold first_here in
            first_live (win_below work latest (2 * k + 2)) (first_choice work (win_below work latest (2 * k + 1)) (own_at work k)) b (first_live (win_below work latest (2 * k + 1)) (own_at work k) a (own_live k l))

        go : (k < latest) ⊎ (latest ≤ k) → LiveChoice (win_below work latest (2 * k + 1)) → LiveChoice (win_below work latest (2 * k + 2)) → LiveChoice (win_below work latest k)
        go (inl l) a b = subst LiveChoice (sym (below_yes work k latest l ∙ T.played.first k l)) (here_live l a b)
        go (inr l) a b = subst LiveChoice (sym (below_no work k latest l)) tt

    every_live : (k : ℕ) → LiveChoice (win_below work latest k)
    every_live k = win_live latest k (omega arith)

    -- the choice at a number is no later than its own, and than those under it
    over_own : (slots : List Slot) (k : ℕ) → k < latest → ChosenOf m work roots slots (own_at work k) → ChosenOf m work roots slots (win_below work latest k)
    unfolding first_here
    over_own slots k l h =
        subst (ChosenOf m work roots slots) (sym (below_yes work k latest l ∙ T.played.first k l))
        (over_second slots (win_below work latest (2 * k + 2)) (first_choice work (win_below work latest (2 * k + 1)) (own_at work k)) (every_live (2 * k + 2))
        (over_second slots (win_below work latest (2 * k + 1)) (own_at work k) (every_live (2 * k + 1)) h))

    over_left : (slots : List Slot) (k : ℕ) → k < latest → ChosenOf m work roots slots (win_below work latest (2 * k + 1)) → ChosenOf m work roots slots (win_below work latest k)
    unfolding first_here
    over_left slots k l h =
        subst (ChosenOf m work roots slots) (sym (below_yes work k latest l ∙ T.played.first k l))
        (over_second slots (win_below work latest (2 * k + 2)) (first_choice work (win_below work latest (2 * k + 1)) (own_at work k)) (every_live (2 * k + 2))
        (over_first slots (win_below work latest (2 * k + 1)) (own_at work k) h (own_live k l)))

    over_right : (slots : List Slot) (k : ℕ) → k < latest → ChosenOf m work roots slots (win_below work latest (2 * k + 2)) → ChosenOf m work roots slots (win_below work latest k)
    unfolding first_here
    over_right slots k l h =
        subst (ChosenOf m work roots slots) (sym (below_yes work k latest l ∙ T.played.first k l))
        (over_first slots (win_below work latest (2 * k + 2)) (first_choice work (win_below work latest (2 * k + 1)) (own_at work k)) h
        (first_live (win_below work latest (2 * k + 1)) (own_at work k) (every_live (2 * k + 1)) (own_live k l)))

    -- so that the choice at number 0 is no later than any, from each number up
    up : (slots : List Slot) (d k : ℕ) → k ≤ d → k < latest → ChosenOf m work roots slots (win_below work latest k) → ChosenOf m work roots slots (win_below work latest 0)
    up slots zero k h l c =
        let e : k ≡ 0 = omega arith in
        subst (λ (i : ℕ). ChosenOf m work roots slots (win_below work latest i)) e c
    up slots (suc d) k h l c = go (ℕ_discrete k 0) (ℕ_discrete k (2 * p + 1)) (up slots d p)
      where
        p : ℕ
        p = (k - 1) / 2

        at : (i : ℕ) → k ≡ i → ChosenOf m work roots slots (win_below work latest i)
        at i e = subst (λ (x : ℕ). ChosenOf m work roots slots (win_below work latest x)) e c

        go : Dec (k ≡ 0) → Dec (k ≡ 2 * p + 1) → (p ≤ d → p < latest → ChosenOf m work roots slots (win_below work latest p) → ChosenOf m work roots slots (win_below work latest 0))
            → ChosenOf m work roots slots (win_below work latest 0)
        go (yes e) f again = at 0 e
        go (no e) (yes f) again = again (omega (arith, e)) (omega (arith, e)) (over_left slots p (omega (arith, e)) (at (2 * p + 1) f))
        go (no e) (no f) again = again (omega (arith, e)) (omega (arith, e)) (over_right slots p (omega (arith, e)) (at (2 * p + 2) (omega (arith, e, f))))

    -- THE CHOICE
    pub winner_right : ChosenOf m work roots (slots_at m work roots) (win_below work latest 0)
    unfolding slots_at
    winner_right = of_each (λ n. root_slots m (fields_at work n)) roots (win_below work latest 0) (every_live 0) (λ n i. one n i (low n i))
      where
        one : (n : ℕ) → Mem n roots → n < latest → ChosenOf m work roots (root_slots m (fields_at work n)) (win_below work latest 0)
        one n i l = up (root_slots m (fields_at work n)) n n (omega arith) l (over_own (root_slots m (fields_at work n)) n l (root_chosen n i))
