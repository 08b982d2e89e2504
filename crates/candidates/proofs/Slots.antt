-- What a candidate says, and a slot's candidate. Assumes nothing.
use Rattle.std.proofs.Common.{Option, None, Some, ℕ, ◌<◌, ◌≡◌, refl, sym, ap, ◌∙◌, ⊎_elim, List, arith, take, get_or-take, lt-ltb, le-ltb}
use Rattle.std.proofs.lemmas.Bool.{cases_lt}
use Rattle.std.proofs.lemmas.Option.{none-some, same_Some}
use Rattle.deck.specs.Assignments.{least_assignment}
use Rattle.meaning.specs.Meaning.{◌at◌}
use Rattle.prices.specs.Square.{copied}
use Rattle.prices.proofs.Squares.{square_same}
use Rattle.partition.specs.Parts.{Part, part_entry, part_table, candidate, slot_part}
use Rattle.partition.proofs.Candidates.{Candidate, candidate_meant, candidate_table, part_sum}
use Rattle.candidates.specs.declared.Candidate.{Candidate as Found}
use Rattle.candidates.specs.Candidates.{candidate_of, candidate_for}

-- WHAT A CANDIDATE SAYS
pub not_found : (m : ℕ) (table : List ℕ) (o : Option (List ℕ)) (c : Option Found) → c ≡ candidate_for m table o → c ≡ None → o ≡ None
unfolding candidate_for
not_found m table None c e f = refl
not_found m table (Some a) c e f = absurd (none-some (candidate_of m table a) (sym f ∙ e))

pub found : (m : ℕ) (table : List ℕ) (o : Option (List ℕ)) (c : Option Found) (x : Found) → c ≡ candidate_for m table o → c ≡ Some x
    → (a : List ℕ) × (o ≡ Some a) × (x ≡ candidate_of m table a)
unfolding candidate_for
found m table None c x e f = absurd (none-some x (sym e ∙ f))
found m table (Some a) c x e f = (a, refl, same_Some x (candidate_of m table a) (sym f ∙ e))

-- A SLOT: its part's candidate is the least assignment of the part's working copy
module _ (m : ℕ) (table tasks closed : List ℕ) (row j : ℕ) (low : j < m) where
  abbrev q : Part
  q = slot_part (take m tasks) row closed j

  own_task : take m tasks at j ≡ tasks at j
  own_task = get_or-take m tasks j 0 low

  -- the tasks past m do not count
  same_entry : (i k e : ℕ) → part_entry (slot_part tasks row closed j) i k e ≡ part_entry q i k e
  unfolding part_entry
  same_entry i k e = ⊎_elim
      (λ l. rw (lt-ltb i j l, get_or-take m tasks i 0 (omega arith)))
      (λ l. rw (le-ltb i j l, own_task)) (cases_lt i j)

  abbrev table' : List ℕ
  table' = part_table m table q

  -- at the same sum
  same_candidate : (o : Option (List ℕ)) → Candidate m table q o → candidate_for m table' o ≡ candidate_for m table o
  unfolding candidate_for
  same_candidate None c = refl
  same_candidate (Some a) c = rw (part_sum m table q low a c.0.0 c.1) refl

  pub slot_first : (s : Part) (p : List ℕ) (r : Option Found) → s ≡ slot_part tasks row closed j → copied m p ≡ part_table m table s
      → r ≡ candidate_for m (copied m p) (least_assignment m (copied m p)) → r ≡ candidate_for m table (candidate m table q)
  slot_first s p r e f g =
      let t : copied m p ≡ table' = f ∙ rw e (square_same m _ _ (λ i k li lk. same_entry i k _)) in
      g ∙ ap (λ (l : List ℕ). candidate_for m l (least_assignment m l)) t ∙ ap (candidate_for m table') (candidate_table m table q low)
      ∙ same_candidate (candidate m table q) (candidate_meant m table q)
