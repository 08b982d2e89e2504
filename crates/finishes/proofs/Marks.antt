-- Entries found layer by layer: the first layer that reaches a carrier's start. Assumes nothing.
use Rattle.std.proofs.Common.{ℕ, ◌+◌, ◌≤◌, ◌<◌, ◌≡◌, ◌≢◌, refl, sym, ◌∙◌, subst, Bool, true, false, cond, List, [], ◌∷◌, length, get_or, take, set, ltb, T, Option, None, Some, ⊎_elim, arith, add-one, eq-or-lt_of_le, le_of_suc-le-suc, not-suc-le-zero, length-set, get_or-set_same, get_or-set_other, get_or-take, length-take}
use Rattle.std.proofs.lemmas.Bool.{ltb-true, ltb-false, cases_lt}
use Rattle.std.proofs.lemmas.Option.{none-some, same_Some}
use Rattle.std.proofs.lemmas.List.{map-set, length-map, get_or-map, take-map}
use Rattle.std.proofs.Math.Seq.{map-set_same}
use Rattle.std.proofs.Math.Decide.{ℕ_discrete}
use Rattle.deck.specs.Sheet.{Sheet, read, count_of, carrier, start_of, last_goal, free, cause}
use Rattle.deck.specs.declared.Task.{Task}
use Rattle.sheet.proofs.Accepted.{start_free, last_goal_free}
use Rattle.kernel.specs.Labels.{all_goals}
use Rattle.kernel.specs.Kernel.{hind}
use Rattle.kernel.proofs.Table.{hind_timeless, entry_found, entry_barred}
use Rattle.finishes.specs.Entries.{entry_for, starts_in, steps_in, Unknown, Starts, steps, Reaches, marked, Marks, Marked, Column, number_of, Whole}
use Rattle.finishes.specs.declared.entry.Entry.{Entry}

module _ (d : Sheet) (i : ℕ) (j : Task) where
  -- before the first layer
  pub marked_none : Marked d i j 0 None
  marked_none = record { found = λ n e. absurd (none-some n e); earlier = λ n l. absurd (not-suc-le-zero l) }

  -- after one layer more
  pub marked_more : (k label : ℕ) (e : Option ℕ) → label ≡ steps d j k (start_of d (carrier i)) → Marked d i j k e
      → Marked d i j (k + 1) (marked (all_goals d j) label k e)
  marked_more k label (Some m) q h = record {
    found = λ n z. (omega (arith, (h.found n z).0), (h.found n z).1);
    earlier = λ n l r. ⊎_elim
        (λ z. (m, refl, omega (arith, (h.found m refl).0)))
        (λ z. h.earlier n z r) (eq-or-lt_of_le (le_of_suc-le-suc (rw add-one at l)));
  }
  marked_more k label None q h = go (ltb (all_goals d j) label) refl
    where
      go : (b : Bool) → ltb (all_goals d j) label ≡ b → Marked d i j (k + 1) (cond b (Some k) None)
      go true e = record {
        found = λ n z.
            let y : k ≡ n = same_Some k n z in
            let reaches : Reaches d i j k = omega (arith, ltb-true (all_goals d j) label e) in
            (omega arith, subst (Reaches d i j) y reaches);
        earlier = λ n l r. ⊎_elim
            (λ z. (k, refl, omega arith))
            (λ z. let f = h.earlier n z r in absurd (none-some f.0 f.1)) (eq-or-lt_of_le (le_of_suc-le-suc (rw add-one at l)));
      }
      go false e = record {
        found = λ n z. absurd (none-some n z);
        earlier = λ n l r. ⊎_elim
            (λ z. let y : Reaches d i j k = subst (Reaches d i j) z r in absurd (omega (arith, ltb-false (all_goals d j) label e)))
            (λ z. h.earlier n z r) (eq-or-lt_of_le (le_of_suc-le-suc (rw add-one at l)));
      }

module _ (s : List ℕ) (ok : cause s ≡ None) (i : ℕ) (j : Task) (a : i < count_of s) (b : j.0 < count_of s) where
  abbrev d : Sheet
  d = read s

  -- the layer of any carrier
  own_steps : (n : ℕ) → hind d (carrier i) j [] n 0 (start_of d (carrier i)) ≡ steps d j n (start_of d (carrier i))
  own_steps n = hind_timeless d (carrier i) (carrier 0) j n 0 0 (start_of d (carrier i))

  starts_free : T (free d (start_of d (carrier i)))
  starts_free = start_free s ok i a

  ends_free : T (free d (last_goal d j))
  ends_free = last_goal_free s ok j.0 b

  -- where every layer is marked, or the entry is found, it is the table's
  pub marked_all : (k : ℕ) (e : Option ℕ) → k ≤ d.horizon + 1 → Marked d i j k e → (e ≡ None → k ≡ d.horizon + 1) → number_of e ≡ entry_for d i j
  marked_all k None l m whole =
      let y = whole refl in
      sym (entry_barred d (carrier i) j starts_free ends_free (d.horizon + 1) (record {
        has = λ h. absurd (omega arith);
        first = λ n h r. let q = m.earlier n (omega arith) (rw (own_steps n) at r) in absurd (none-some q.0 q.1);
      }) (omega arith))
  marked_all k (Some e) l m whole =
      let f = m.found e refl in
      sym (entry_found d (carrier i) j starts_free ends_free e (record {
        has = λ h. rw (own_steps e) f.1;
        first = λ n h r. ⊎_elim
            (λ g. let q = m.earlier n g (rw (own_steps n) at r) in let z : e ≡ q.0 = same_Some e q.0 q.1 in omega (arith, q.2))
            (λ g. omega (arith, f.0)) (cases_lt n k);
      }) (omega (arith, f.0)))

-- the column after its last layer
module _ (s : List ℕ) (ok : cause s ≡ None) (j : Task) (b : j.0 < count_of s) (column : List (Option ℕ)) where
  pub column_full : (k : ℕ) → k ≤ (read s).horizon + 1 → Column (read s) j k column → ((i : ℕ) → i < count_of s → get_or column i None ≢ None) → Whole (read s) j column
  column_full k l c full i h = marked_all s ok i j h b k (get_or column i None) l (c i h) (λ e. absurd (full i h e))

  pub column_last : Column (read s) j ((read s).horizon + 1) column → Whole (read s) j column
  column_last c i h = marked_all s ok i j h b ((read s).horizon + 1) (get_or column i None) (omega arith) (c i h) (λ e. refl)

-- The entries that a loop has marked: the first i
pub record MarksTo (layer : List ℕ) (n k i : ℕ) (starts : List ℕ) (before after : List (Option ℕ)) : Type 0 where
  pub size : length after ≡ length before
  pub done : (m : ℕ) → m < i → get_or after m None ≡ marked n (get_or layer (get_or starts m 0) 0) k (get_or before m None)
  pub rest : (m : ℕ) → i ≤ m → get_or after m None ≡ get_or before m None

-- an element of the list of entries, in the lists of starts and numbers of steps
module _ (entries : List Entry) (i : ℕ) (e : Entry) (l : i < length entries) where
  start_at : get_or (starts_in entries) i 0 ≡ (get_or entries i e).start
  start_at = get_or-map (λ (x : Entry). x.start) entries i e 0 l

  pub steps_at : get_or (steps_in entries) i None ≡ (get_or entries i e).steps
  steps_at = get_or-map (λ (x : Entry). x.steps) entries i e None l

  -- another number of steps in its place
  module _ (new : Entry) (same : new.start ≡ (get_or entries i e).start) where
    pub starts_kept : starts_in (set entries i new) ≡ starts_in entries
    starts_kept = map-set_same (λ (x : Entry). x.start) entries i new e same

    -- one entry more is marked
    pub marks_more : (layer : List ℕ) (n k : ℕ) (starts : List ℕ) (before : List (Option ℕ)) → starts_in entries ≡ starts
        → new.steps ≡ marked n (get_or layer (get_or entries i e).start 0) k (get_or entries i e).steps → MarksTo layer n k i starts before (steps_in entries)
        → MarksTo layer n k (i + 1) starts before (steps_in (set entries i new))
    marks_more layer n k starts before from q m = rw (map-set (λ (x : Entry). x.steps) entries i new) (record {
      size = length-set (steps_in entries) i new.steps ∙ m.size;
      done = λ x b. ⊎_elim
          (λ z. rw z (get_or-set_same (steps_in entries) i new.steps None inside ∙ here))
          (λ z. get_or-set_other (steps_in entries) i x new.steps None (omega arith) ∙ m.done x z)
          (eq-or-lt_of_le (le_of_suc-le-suc (rw add-one at b)));
      rest = λ x b. get_or-set_other (steps_in entries) i x new.steps None (omega arith) ∙ m.rest x (omega arith);
    })
      where
        inside : i < length (steps_in entries)
        inside = rw (length-map entries (λ (x : Entry). x.steps)) l

        here : new.steps ≡ marked n (get_or layer (get_or starts i 0) 0) k (get_or before i None)
        here = rw (← from, start_at, ← (m.rest i (omega arith)), steps_at) q

-- all of them
pub marks_all : (layer : List ℕ) (n k : ℕ) (starts : List ℕ) (entries : List Entry) (after : List (Option ℕ)) {i : ℕ} → length entries ≤ i
    → MarksTo layer n k i starts (steps_in entries) after → Marks layer n k starts (steps_in entries) after
marks_all layer n k starts entries after {i} l m = record { size = m.size; at = λ x b. m.done x (omega (arith, length-map entries (λ (e : Entry). e.steps))) }

-- An entry put into the list of entries, whose numbers of steps are not known
module _ (entries : List Entry) (i : ℕ) (new : Entry) where
  pub starts_set : (f : ℕ → ℕ) → i < length entries → new.start ≡ f i → ((x : ℕ) → x < i → get_or (starts_in entries) x 0 ≡ f x)
      → (x : ℕ) → x < i + 1 → get_or (starts_in (set entries i new)) x 0 ≡ f x
  starts_set f l e h x b = rw (map-set (λ (y : Entry). y.start) entries i new) (⊎_elim
      (λ z. rw z (get_or-set_same (starts_in entries) i new.start 0 inside ∙ e))
      (λ z. get_or-set_other (starts_in entries) i x new.start 0 (omega arith) ∙ h x z) (eq-or-lt_of_le (le_of_suc-le-suc (rw add-one at b))))
    where
      inside : i < length (starts_in entries)
      inside = rw (length-map entries (λ (y : Entry). y.start)) l

  pub steps_set : {n : ℕ} → new.steps ≡ None → length entries ≡ n → ((x : ℕ) → x < n → get_or (steps_in entries) x None ≡ None)
      → (x : ℕ) → x < n → get_or (steps_in (set entries i new)) x None ≡ None
  steps_set {n} e long h x b = rw (map-set (λ (y : Entry). y.steps) entries i new) (go (ℕ_discrete x i))
    where
      go : Dec (x ≡ i) → get_or (set (steps_in entries) i new.steps) x None ≡ None
      go (yes z) = rw z (get_or-set_same (steps_in entries) i new.steps None (rw (length-map entries (λ (y : Entry). y.steps)) (omega arith)) ∙ e)
      go (no z) = get_or-set_other (steps_in entries) i x new.steps None z ∙ h x b

-- no number is unknown
pub all_some : (entries : List Entry) → ((i : ℕ) (e : Entry) → i < length entries → (get_or entries i e).steps ≢ None) → (i : ℕ) → i < length entries → get_or (steps_in entries) i None ≢ None
all_some [] h i l = absurd (not-suc-le-zero l)
all_some (e ∷ entries) h i l = λ n. h i e l (sym (steps_at (e ∷ entries) i e l) ∙ n)

-- the entries of the first m carriers
module _ (entries : List Entry) (m : ℕ) where
  pub starts_taken : (s : List ℕ) → m ≡ count_of s → Starts s (starts_in entries) → Starts s (starts_in (take m entries))
  starts_taken s e h i l = rw (← (take-map (λ (x : Entry). x.start) m entries)) (get_or-take m (starts_in entries) i 0 (omega arith) ∙ h i l)

  pub unknown_taken : Unknown (steps_in entries) → Unknown (steps_in (take m entries))
  unknown_taken h = rw (← (take-map (λ (x : Entry). x.steps) m entries)) (λ i l.
      let short = length-take m (steps_in entries) in get_or-take m (steps_in entries) i None (omega arith) ∙ h i (omega arith))
