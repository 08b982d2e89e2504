-- A part's candidate is its first assignment in order, and the least assignment of the part's table. Assumes nothing.
use Rattle.std.proofs.Common.{ℕ, ◌≤◌, ◌<◌, ◌≡◌, refl, sym, ◌∙◌, ◌⊎◌, inl, inr, ⊎_elim, cond, not, List, Option, None, Some, le_refl, arith, eqb, lt-ltb, le-ltb, eq-eqb, ne_eqb}
use Rattle.std.proofs.lemmas.Bool.{cases_lt}
use Rattle.deck.proofs.Members.{Mem, not-nil}
use Rattle.std.proofs.Math.Decide.{ℕ_discrete}
use Rattle.deck.specs.Lists.{below, select, head_of}
use Rattle.deck.specs.Assignments.{barred, entry_at, sum_of, assignments_in_order, least_assignment}
use Rattle.meaning.specs.Meaning.{◌at◌, Assignment, Unbarred, Less}
use Rattle.meaning.proofs.Tests.{Says, says_eqb, says_and, says_iff}
use Rattle.meaning.proofs.Lists.{sum_same, mem_select, select_mem, mem_below, sorted_select, Head, head_first}
use Rattle.meaning.proofs.ListTests.{says_all}
use Rattle.meaning.proofs.Assignments.{in_order_meant, in_order_rising, sum_at}
use Rattle.prices.proofs.Squares.{square_at}
use Rattle.prices.proofs.First.{is_none, is_least}
use Rattle.partition.specs.Parts.{Part, in_part, InPart, candidate, part_entry, part_table}

pub says_in_part : (q : Part) (a : List ℕ) → Says (in_part q a) (InPart q a)
says_in_part q a =
    says_iff (says_and (says_all (λ i. eqb (a at i) (q.tasks at i)) (λ i. a at i ≡ q.tasks at i) (λ i. says_eqb) (below q.row)) says_eqb) (
      λ h. record { same = λ i l. h.0 i ((mem_below q.row).1 l); another = h.1 },
      λ h. (λ i n. h.same i ((mem_below q.row).0 n), h.another),
    )

-- what a candidate is
abbrev pub Candidate : ℕ → List ℕ → Part → Option (List ℕ) → Type 0
Candidate m table q None = (b : List ℕ) → Unbarred m table b → ¬ InPart q b
Candidate m table q (Some a) = Unbarred m table a × InPart q a × ((b : List ℕ) → Unbarred m table b → InPart q b → (b ≡ a) ⊎ Less m table a b)

pub candidate_meant : (m : ℕ) (table : List ℕ) (q : Part) → Candidate m table q (candidate m table q)
unfolding candidate
candidate_meant m table q =
    go (head_of part) (head_first (Less m table) part (sorted_select (Less m table) (in_part q) (assignments_in_order m table) (in_order_rising m table)))
  where
    part : List (List ℕ)
    part = select (in_part q) (assignments_in_order m table)

    in_part_lem : (b : List ℕ) → Unbarred m table b → InPart q b → Mem b part
    in_part_lem b u i = select_mem (in_part q) ((in_order_meant m table b).1 u) ((says_in_part q b).test i)

    go : (o : Option (List ℕ)) → Head (Less m table) part o → Candidate m table q o
    go None e = λ b u i. not-nil (rw e at (in_part_lem b u i))
    go (Some a) (n, first) =
        let s = mem_select (in_part q) (assignments_in_order m table) n in
        ((in_order_meant m table a).0 s.0, (says_in_part q a).fact s.1, λ b u i. first b (in_part_lem b u i))

module _ (m : ℕ) (table : List ℕ) (q : Part) (low : q.row < m) where
  -- before the part's row: barred but for the part's task
  entry_before : (i j : ℕ) → i < q.row → j < m → entry_at m (part_table m table q) i j ≡ cond (eqb j (q.tasks at i)) (entry_at m table i j) barred
  unfolding part_entry
  entry_before i j l lj = square_at m _ i j (omega arith) lj ∙ rw (lt-ltb i q.row l)

  -- at the row: barred where closed
  entry_at_lem : (j : ℕ) → j < m
      → entry_at m (part_table m table q) q.row j ≡ cond (not (eqb (q.closed at j) 0)) barred (entry_at m table q.row j)
  unfolding part_entry
  entry_at_lem j lj = square_at m _ q.row j low lj ∙ rw (le-ltb q.row q.row (le_refl q.row), eq-eqb q.row q.row refl)

  entry_after : (i j : ℕ) → q.row < i → i < m → j < m → entry_at m (part_table m table q) i j ≡ entry_at m table i j
  unfolding part_entry
  entry_after i j l li lj =
      square_at m _ i j li lj ∙ rw (le-ltb i q.row (omega arith), ne_eqb i q.row (λ e. absurd (omega arith)))

  -- an assignment of the part uses the table's entries
  in_part_entry : (b : List ℕ) → Assignment m b → InPart q b → (i : ℕ) → i < m → entry_at m (part_table m table q) i (b at i) ≡ entry_at m table i (b at i)
  in_part_entry b h p i li = ⊎_elim
      (λ l. entry_before i (b at i) l (h.tasks i li) ∙ rw (eq-eqb (b at i) (q.tasks at i) (p.same i l)))
      (λ l. go l (ℕ_discrete i q.row)) (cases_lt i q.row)
    where
      go : q.row ≤ i → Dec (i ≡ q.row) → entry_at m (part_table m table q) i (b at i) ≡ entry_at m table i (b at i)
      go l (yes e) = rw e (entry_at_lem (b at q.row) (h.tasks q.row low) ∙ rw (eq-eqb (q.closed at (b at q.row)) 0 p.another))
      go l (no e) = entry_after i (b at i) (omega arith) li (h.tasks i li)

  part_unbarred : (b : List ℕ) → Unbarred m table b → InPart q b → Unbarred m (part_table m table q) b
  part_unbarred b (h, o) p = (h, λ i li e. o i li (sym (in_part_entry b h p i li) ∙ e))

  -- and only those use no barred entry of the part's table
  unbarred_part : (b : List ℕ) → Unbarred m (part_table m table q) b → Unbarred m table b × InPart q b
  unbarred_part b (h, o) = ((h, λ i li e. o i li (in_part_entry b h p i li ∙ e)), p)
    where
      p : InPart q b
      p = record {
        same = λ i l. before i l (ℕ_discrete (b at i) (q.tasks at i));
        another = at_row (ℕ_discrete (q.closed at (b at q.row)) 0);
      }
        where
          before : (i : ℕ) → i < q.row → Dec (b at i ≡ q.tasks at i) → b at i ≡ q.tasks at i
          before i l (yes e) = e
          before i l (no e) =
              let li : i < m = omega arith in
              absurd (o i li (entry_before i (b at i) l (h.tasks i li) ∙ rw (ne_eqb (b at i) (q.tasks at i) e)))

          at_row : Dec (q.closed at (b at q.row) ≡ 0) → q.closed at (b at q.row) ≡ 0
          at_row (yes e) = e
          at_row (no e) = absurd (o q.row low (entry_at_lem (b at q.row) (h.tasks q.row low) ∙ rw (ne_eqb (q.closed at (b at q.row)) 0 e)))

  -- at the same sum
  pub part_sum : (b : List ℕ) → Assignment m b → InPart q b → sum_of m (part_table m table q) b ≡ sum_of m table b
  part_sum b h p =
      sum_at m (part_table m table q) b h.as_many
      ∙ sum_same _ _ (below m) (λ i n. in_part_entry b h p i ((mem_below m).0 n))
      ∙ sym (sum_at m table b h.as_many)

  pub candidate_table : least_assignment m (part_table m table q) ≡ candidate m table q
  candidate_table = go (candidate m table q) (candidate_meant m table q)
    where
      same_order : (a b : List ℕ) → Assignment m a → InPart q a → Assignment m b → InPart q b → Less m table a b → Less m (part_table m table q) a b
      same_order a b h p k r (inl l) = inl (rw (part_sum a h p, part_sum b k r) l)
      same_order a b h p k r (inr (e, l)) = inr (part_sum a h p ∙ e ∙ sym (part_sum b k r), l)

      go : (o : Option (List ℕ)) → Candidate m table q o → least_assignment m (part_table m table q) ≡ o
      go None h = is_none m (part_table m table q) (λ b u. let v = unbarred_part b u in h b v.0 v.1)
      go (Some a) (u, p, first) =
          is_least m (part_table m table q) a (part_unbarred a u p)
          (λ b u'. let v = unbarred_part b u' in
          ⊎_elim (λ e. inl e) (λ l. inr (same_order a b u.0 p v.0.0 v.1 l)) (first b v.0 v.1))
