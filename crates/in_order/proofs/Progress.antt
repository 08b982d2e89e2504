-- What is listed so far, and what the loop comes to. Assumes nothing.
use Rattle.std.proofs.Common.{length-take, ℕ, zero, suc, ◌+◌, ◌*◌, ◌-◌, ◌≤◌, ◌≡◌, refl, sym, ap, subst, ◌∙◌, ◌≢◌, List, [], ◌∷◌, ◌++◌, append_assoc, append-nil, le-leb, eq-eqb, ne_eqb, ◌<◌, add-one, arith, length, take, drop, length-append, take_at, drop_at, drop-drop, take_all}
use Rattle.std.specs.Prelude.{Option, None, Some, Ok, Err}
use Rattle.std.proofs.lemmas.Bool.{lt-leb}
use Rattle.deck.specs.Lists.{head_of}
use Rattle.deck.specs.Assignments.{assignments_in_order, least_assignment}
use Rattle.deck.specs.Calls.{task_list, overwrite, assignment_cause}
use Rattle.records.specs.Cut.{put}
use Rattle.roots.specs.Tournament.{SlotsHold, NextTaken}
use Rattle.roots.proofs.Filling.{list_long}
use Rattle.deck.specs.declared.cause.Cause.{Cause}
use Rattle.deck.specs.declared.cause.Cause.TheVariants.{BadCount}
use Rattle.in_order.specs.Listed.{lists_of, room_for, listed_for, Remaining, Taken, Listing, InOrderCall}

-- LISTS
lists_snoc : (l : List (List ℕ)) (a : List ℕ) → lists_of (l ++ (a ∷ [])) ≡ lists_of l ++ task_list a
lists_snoc [] a = append-nil (task_list a)
lists_snoc (b ∷ l) a = ap (λ (x : List ℕ). task_list b ++ x) (lists_snoc l a) ∙ sym (append_assoc (task_list b) (lists_of l) (task_list a))

-- the assignments that come first, listed; the others remain
pub record Progress (m : ℕ) (table work : List ℕ) (made : ℕ) (lists lists' : List ℕ) : Type 0 where
  pub done : List (List ℕ)
  pub rest : List (List ℕ)
  pub order : assignments_in_order m table ≡ done ++ rest
  pub many : length done ≡ made
  pub long : length (lists_of done) ≡ 12 * made
  pub written : lists' ≡ overwrite (lists_of done) lists
  pub remain : Remaining m table work made rest

pub progress_none : (m : ℕ) (table work lists : List ℕ) → Progress m table work 0 lists lists
progress_none m table work lists = record {
  done = [];
  rest = assignments_in_order m table;
  order = refl;
  many = refl;
  long = refl;
  written = refl;
  remain = refl;
}

module _ (m : ℕ) (small : m ≤ 12) (table work : List ℕ) (made : ℕ) (lists lists' : List ℕ) (P : Progress m table work made lists lists') where
  -- one more
  pub progress_more : (after ys : List ℕ) → NextTaken m table after (made + 1) P.rest ys
      → Progress m table after (made + 1) lists (put (12 * made) (12 * made + 12 - 12 * made) ys lists')
  progress_more after ys N = record {
    done = P.done ++ (N.next ∷ []);
    rest = N.others;
    order = P.order ∙ ap (λ (l : List (List ℕ)). P.done ++ l) N.first ∙ sym (append_assoc P.done (N.next ∷ []) N.others);
    many = omega (arith, length-append P.done (N.next ∷ []), P.many);
    long = longer ∙ size;
    written = wrote;
    remain = subst (λ (k : ℕ). Remaining m table after k N.others) (sym (add-one made)) (subst (λ (k : ℕ). SlotsHold m table after k N.others) (add-one made) N.hold);
  }
    where
      twelve : length (task_list N.next) ≡ 12
      twelve = list_long N.next (omega (arith, N.unbarred.0.as_many))

      longer : length (lists_of (P.done ++ (N.next ∷ []))) ≡ 12 * made + 12
      longer = ap length (lists_snoc P.done N.next) ∙ omega (arith, length-append (lists_of P.done) (task_list N.next), P.long, twelve)

      size : 12 * made + 12 ≡ 12 * (made + 1)
      size = omega arith

      gap : 12 * made + 12 - 12 * made ≡ 12
      gap = omega arith

      left : List ℕ
      left = drop (length (lists_of P.done)) lists

      wrote : put (12 * made) (12 * made + 12 - 12 * made) ys lists' ≡ overwrite (lists_of (P.done ++ (N.next ∷ []))) lists
      wrote =
          ap (λ (l : List ℕ). put (12 * made) (12 * made + 12 - 12 * made) ys l) P.written
          ∙ ap (λ (k : ℕ). put (12 * made) k ys (lists_of P.done ++ left)) gap
          ∙ ap (λ (l : List ℕ). put (12 * made) 12 l (lists_of P.done ++ left)) N.list
          ∙ ap (λ (l : List ℕ). l ++ (task_list N.next ++ drop 12 (drop (12 * made) (lists_of P.done ++ left)))) (take_at (lists_of P.done) left (12 * made) P.long)
          ∙ ap (λ (l : List ℕ). lists_of P.done ++ (task_list N.next ++ drop 12 l)) (drop_at (lists_of P.done) left (12 * made) P.long)
          ∙ ap (λ (k : ℕ). lists_of P.done ++ (task_list N.next ++ drop 12 (drop k lists))) P.long
          ∙ ap (λ (l : List ℕ). lists_of P.done ++ (task_list N.next ++ l)) (drop-drop 12 (12 * made) lists)
          ∙ ap (λ (k : ℕ). lists_of P.done ++ (task_list N.next ++ drop k lists)) (sym longer)
          ∙ sym (append_assoc (lists_of P.done) (task_list N.next) (drop (length (lists_of (P.done ++ (N.next ∷ [])))) lists))
          ∙ ap (λ (l : List ℕ). l ++ drop (length (lists_of (P.done ++ (N.next ∷ [])))) lists) (sym (lists_snoc P.done N.next))

  -- as many as are wanted, or all
  listing : (most : ℕ) → take most (assignments_in_order m table) ≡ P.done → Listing m table most made lists lists'
  listing most e = record {
    count = sym P.many ∙ ap length (sym e);
    written = P.written ∙ ap (λ (l : List (List ℕ)). overwrite (lists_of l) lists) (sym e);
  }

  pub listed_most : (most : ℕ) → made ≡ most → Listing m table most made lists lists'
  listed_most most e = listing most (ap (take most) P.order ∙ take_at P.done P.rest most (P.many ∙ e))

  pub listed_all : (most : ℕ) → made ≤ most → P.rest ≡ [] → Listing m table most made lists lists'
  listed_all most h e =
      listing most (ap (take most) (P.order ∙ ap (λ (l : List (List ℕ)). P.done ++ l) e ∙ append-nil P.done) ∙ take_all most P.done (omega (arith, P.many)))

-- no first assignment: none at all
pub none_first : (m : ℕ) (table : List ℕ) → least_assignment m table ≡ None → assignments_in_order m table ≡ []
unfolding least_assignment
none_first m table e = go (assignments_in_order m table) e
  where
    is : Option (List ℕ) → ℕ
    is None = 1
    is (Some a) = 0

    go : (l : List (List ℕ)) → head_of l ≡ None → l ≡ []
    go [] e = refl
    go (a ∷ l) e = let z : ◌≡◌ {A = ℕ} 0 1 = ap is e in absurd (omega arith)

-- WHAT REMAINS, by whether the first is taken
pub taken_first : (m : ℕ) (table work after : List ℕ) (made : ℕ) (rest : List (List ℕ)) (r : Option (List ℕ)) → made ≡ 0 → Remaining m table work made rest
    → Taken m table after 0 (assignments_in_order m table) r → Taken m table after made rest r
taken_first m table work after zero rest r e R T = subst (λ (l : List (List ℕ)). Taken m table after 0 l r) (sym R) T
taken_first m table work after (suc k) rest r e R T = absurd (omega (arith, e))

pub slots_remain : (m : ℕ) (table work : List ℕ) (made : ℕ) (rest : List (List ℕ)) → made ≢ 0 → Remaining m table work made rest → SlotsHold m table work made rest
slots_remain m table work zero rest n R = absurd (n refl)
slots_remain m table work (suc k) rest n R = R

-- THE CALL
module _ (m : ℕ) (table : List ℕ) where
  pub count_low : m < 1 → assignment_cause m table ≡ Some BadCount
  unfolding assignment_cause
  count_low h = rw (lt-leb 1 m h) refl

  pub count_high : 12 < m → assignment_cause m table ≡ Some BadCount
  unfolding assignment_cause
  count_high h = rw (le-leb 1 m (omega arith), lt-leb m 12 h) refl

  pub wrong_size : 1 ≤ m → m ≤ 12 → length table ≢ m * m → assignment_cause m table ≡ Some BadCount
  unfolding assignment_cause
  wrong_size h k n = rw (le-leb 1 m h, le-leb m 12 k, ne_eqb (length table) (m * m) n) refl

  pub right_size : 1 ≤ m → m ≤ 12 → length table ≡ m * m → assignment_cause m table ≡ None
  unfolding assignment_cause
  right_size h k e = rw (le-leb 1 m h, le-leb m 12 k, eq-eqb (length table) (m * m) e) refl

module _ (m : ℕ) (table work lists : List ℕ) where
  pub refused : (c : Cause) → assignment_cause m table ≡ Some c → InOrderCall m table work lists (Err c) work lists
  unfolding listed_for
  refused c e = record { answer = rw e refl; written = rw e refl; unwritten = λ n. refl; low = tt }

  pub accepted : (work' lists' : List ℕ) (most k : ℕ) → assignment_cause m table ≡ None → most ≡ room_for (length work) (length lists) → most ≤ 4096
      → Listing m table most k lists lists' → InOrderCall m table work lists (Ok k) work' lists'
  unfolding listed_for
  accepted work' lists' most k e f h L = record {
    answer = rw (e, ← f) (ap (λ (n : ℕ). Ok n) L.count);
    written = L.written ∙ rw (e, f);
    unwritten = λ n. absurd (n e);
    low = omega (arith, L.count, length-take most (assignments_in_order m table));
  }
