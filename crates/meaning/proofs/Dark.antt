-- Document 02, "A dark house": an accepted sheet has no bytes or none of the causes, what follows of workspace and round, and that the
-- empty plan is the only plan of a round with no carriers. Assumes nothing.
use Rattle.std.proofs.Common.{ℕ, ◌≤◌, ◌<◌, zero-le, ◌≡◌, refl, sym, ◌∙◌, ◌≢◌, ◌⊎◌, inl, inr, ◌↔◌, List, [], ◌∷◌, arith, length, eq-eqb, ne_eqb, None}
use Rattle.deck.specs.Sheet.{Sheet, read, count_of, horizon_of, cause, sheet_cause}
use Rattle.deck.specs.Search.{Answer, plan}
use Rattle.deck.specs.Planner.{plan_for, or_dark, round_of}
use Rattle.deck.specs.Calls.{workspace_for, workspace_of}
use Rattle.meaning.specs.Meaning.{Plan, Right}
use Rattle.meaning.proofs.Accepted.{accepted_count, accepted_horizon}

-- THE SHEET, without bytes and with
pub sheet_cases : (s : List ℕ) → sheet_cause s ≡ None → (s ≡ []) ⊎ (cause s ≡ None)
unfolding sheet_cause
sheet_cases [] e = inl refl
sheet_cases (b ∷ s) e = inr e

pub cause_without : (s : List ℕ) → length s ≡ 0 → sheet_cause s ≡ None
unfolding sheet_cause
cause_without [] e = refl
cause_without (b ∷ s) e = absurd (omega arith)

pub cause_with : (s : List ℕ) → length s ≢ 0 → sheet_cause s ≡ cause s
unfolding sheet_cause
cause_with [] n = absurd (n refl)
cause_with (b ∷ s) n = refl

-- what holds of an accepted sheet either way
module _ (s : List ℕ) (ok : sheet_cause s ≡ None) where
  pub most_carriers : count_of s ≤ 12
  most_carriers = go (sheet_cases s ok)
    where
      go : (s ≡ []) ⊎ (cause s ≡ None) → count_of s ≤ 12
      go (inl e) = rw e (omega arith)
      go (inr e) = (accepted_count s e).1

  pub short_horizon : horizon_of s ≤ 255
  short_horizon = go (sheet_cases s ok)
    where
      go : (s ≡ []) ⊎ (cause s ≡ None) → horizon_of s ≤ 255
      go (inl e) = rw e (omega arith)
      go (inr e) = accepted_horizon s e

  -- with a carrier it has bytes
  pub with_carriers : 0 < count_of s → cause s ≡ None
  with_carriers h = go (sheet_cases s ok)
    where
      go : (s ≡ []) ⊎ (cause s ≡ None) → cause s ≡ None
      go (inl e) = let z : 0 < count_of [] = rw e at h in absurd (omega arith)
      go (inr e) = e

-- WORKSPACE AND ROUND with carriers
module _ (d : Sheet) (h : 0 < d.count) where
  pub workspace_with : workspace_of d ≡ workspace_for d
  unfolding workspace_of
  workspace_with = rw (ne_eqb d.count 0 (λ e. omega arith)) refl

  pub search_with : (x : Answer (List ℕ)) → or_dark d x ≡ x
  unfolding or_dark
  search_with x = rw (ne_eqb d.count 0 (λ e. omega arith)) refl

  pub round_with : round_of d ≡ plan_for d
  unfolding round_of
  round_with = search_with (plan_for d)

-- and without
pub workspace_without : (d : Sheet) → d.count ≡ 0 → workspace_of d ≡ 0
unfolding workspace_of
workspace_without d e = rw (eq-eqb d.count 0 e) refl

pub search_without : (d : Sheet) (x : Answer (List ℕ)) → d.count ≡ 0 → or_dark d x ≡ plan [] [] 0 0 0
unfolding or_dark
search_without d x e = rw (eq-eqb d.count 0 e) refl

-- what holds of the empty round, and of a search's answer where the sheet has none of the causes, holds of the round of an accepted sheet
pub round_has : (P : Answer (List ℕ) → Type 0) (s : List ℕ) (x : Answer (List ℕ)) → sheet_cause s ≡ None
    → (count_of s ≡ 0 → P (plan [] [] 0 0 0)) → (cause s ≡ None → P x) → P (or_dark (read s) x)
round_has P s x ok dark search = go (sheet_cases s ok)
  where
    go : (s ≡ []) ⊎ (cause s ≡ None) → P (or_dark (read s) x)
    go (inl e) = let z : count_of s ≡ 0 = rw e refl in rw (search_without (read s) x z) (dark z)
    go (inr e) = rw (search_with (read s) (accepted_count s e).0 x) (search e)

pub nil_of : {A : Type 0} (l : List A) → length l ≡ 0 → l ≡ []
nil_of [] e = refl
nil_of (x ∷ l) e = absurd (omega arith)

-- "The empty plan is its only plan"
module _ (d : Sheet) (none : d.count ≡ 0) where
  empty_plan : Plan d [] [] []
  empty_plan =
      record {
        assigned = record { as_many = sym none; tasks = λ i l. absurd (omega arith); once = λ i j k l q. absurd (omega arith) };
        a_path_each = sym none;
        a_finish_each = sym none;
        paths = λ i l. absurd (omega arith);
        apart = λ i j k l. absurd (omega arith);
      }

  pub only_plan : (a : List ℕ) (ps : List (List ℕ)) (fs : List ℕ) → Plan d a ps fs ↔ ((a ≡ []) × (ps ≡ []) × (fs ≡ []))
  only_plan a ps fs = (
    λ p. (nil_of a (p.assigned.as_many ∙ none), nil_of ps (p.a_path_each ∙ none), nil_of fs (p.a_finish_each ∙ none)),
    λ e. rw (e.0, e.1, e.2) empty_plan,
  )

  -- and demand 3 holds of it
  pub empty_right : Right d (plan [] [] 0 0 0)
  empty_right = (([], empty_plan, refl), refl, λ a ps fs p. zero-le)
