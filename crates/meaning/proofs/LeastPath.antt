-- The computed least path is the least path that is meant, and it is none exactly if there is no path under the constraints.
-- Assumes nothing.
use Rattle.std.proofs.Common.{ℕ, ◌<◌, ◌≡◌, refl, sym, ap, subst, ◌↔◌, ◌⊎◌, inl, inr, Bool, ◌&&◌, List, Option, None, Some, arith, T}
use Rattle.deck.proofs.Members.{Mem, not-nil}
use Rattle.deck.specs.Lists.{all, take_least}
use Rattle.deck.specs.Sheet.{Sheet, area, start_of}
use Rattle.deck.specs.Paths.{walks, finish_of, serves, keeps, paths_under, taken, least_path}
use Rattle.deck.specs.declared.Carrier.{Carrier}
use Rattle.deck.specs.declared.Task.{Task}
use Rattle.deck.specs.declared.Constraint.{Constraint}
use Rattle.meaning.specs.Meaning.{Before, Keeps, PathUnder, LeastPath}
use Rattle.meaning.proofs.Tests.{Says, says_and}
use Rattle.meaning.specs.Sorted.{Sorted}
use Rattle.meaning.proofs.Lists.{mem_select, select_mem, sorted_select, First, take_first}
use Rattle.meaning.proofs.Before.{before_refl, before_antisym}
use Rattle.meaning.proofs.Walks.{walks_sorted}
use Rattle.meaning.proofs.Paths.{path_finish, path_meant, keeps_all_meant}

module _ (d : Sheet) (i : Carrier) (j : Task) (cs : List Constraint) where
  -- what the answer of the least path has to mean
  abbrev pub LeastMeant : Option (List ℕ) → Type 0
  LeastMeant None = (p : List ℕ) (t : ℕ) → ¬ PathUnder d i j cs p t
  LeastMeant (Some p) = LeastPath d i j cs p (finish_of d j p)

  -- a path under the constraints has the finish that is computed
  computed : {p : List ℕ} {t : ℕ} → PathUnder d i j cs p t → PathUnder d i j cs p (finish_of d j p)
  computed {p} h = subst (PathUnder d i j cs p) (sym (path_finish h.path)) h

  -- there is one least path only
  least_one : {p q : List ℕ} {t u : ℕ} → LeastPath d i j cs p t → LeastPath d i j cs q u → p ≡ q
  least_one {p} {q} {t} {u} k l = go (k.first q u l.under) (l.first p t k.under)
    where
      go : (t < u) ⊎ ((t ≡ u) × Before p q) → (u < t) ⊎ ((u ≡ t) × Before q p) → p ≡ q
      go (inl a) (inl b) = absurd (omega arith)
      go (inl a) (inr b) = absurd (omega (arith, b.0))
      go (inr a) (inl b) = absurd (omega (arith, a.0))
      go (inr a) (inr b) = before_antisym p q a.1 b.1

  module _ (start : start_of d i < area d) where
    -- the paths under the constraints are those that are listed
    pub paths_under_meant : (p : List ℕ) → Mem p (paths_under d i j cs) ↔ PathUnder d i j cs p (finish_of d j p)
    unfolding paths_under
    paths_under_meant p = (
      λ m.
          let r = mem_select test (walks d d.horizon (start_of d i)) m in
          let s = says.fact r.1 in
          record { path = (path_meant d i j start p).0 (r.0, s.0); keeps = s.1 },
      λ h.
          let r = (path_meant d i j start p).1 h.path in
          select_mem test r.0 (says.test (r.1, h.keeps)),
    )
      where
        test : List ℕ → Bool
        test q = serves d j q && all (keeps i q) cs

        says : Says (serves d j p && all (keeps i p) cs) (T (serves d j p) × ((c : Constraint) → Mem c cs → Keeps i p c))
        says = says_and {a = serves d j p} (record { fact = λ t. t; test = λ t. t }) (keeps_all_meant i p cs)

    -- the computed least path finishes first and comes first place by place, and is none only where there is no path
    pub least_path_meant : LeastMeant (least_path d i j cs)
    unfolding least_path
    least_path_meant = go (take_least (finish_of d j) (paths_under d i j cs)) (take_first Before (finish_of d j) before_refl (paths_under d i j cs) sorted)
      where
        sorted : Sorted Before (paths_under d i j cs)
        sorted = unfold paths_under in sorted_select Before _ (walks d d.horizon (start_of d i)) (walks_sorted d d.horizon (start_of d i))

        go : (o : Option (List ℕ × List (List ℕ))) → First Before (finish_of d j) (paths_under d i j cs) o → LeastMeant (taken o)
        go None e = λ p t h. not-nil (rw e at ((paths_under_meant p).1 (computed h)))
        go (Some t) h =
            record {
              under = (paths_under_meant t.0).0 h.0;
              first = λ q u k.
                  subst (λ (n : ℕ). (finish_of d j t.0 < n) ⊎ ((finish_of d j t.0 ≡ n) × Before t.0 q)) (path_finish k.path)
                  (h.1 q ((paths_under_meant q).1 (computed k)));
            }

    -- the least path is computed
    pub least_path_is : {p : List ℕ} {t : ℕ} → LeastPath d i j cs p t → least_path d i j cs ≡ Some p
    least_path_is {p} {t} l = go (least_path d i j cs) least_path_meant
      where
        go : (o : Option (List ℕ)) → LeastMeant o → o ≡ Some p
        go None n = absurd (n p t l.under)
        go (Some q) k = ap Some (least_one k l)

    -- where there is no path, none is computed
    pub no_least_path : ((p : List ℕ) (t : ℕ) → ¬ PathUnder d i j cs p t) → least_path d i j cs ≡ None
    no_least_path n = go (least_path d i j cs) least_path_meant
      where
        go : (o : Option (List ℕ)) → LeastMeant o → o ≡ None
        go None m = refl
        go (Some p) l = absurd (n p (finish_of d j p) l.under)
