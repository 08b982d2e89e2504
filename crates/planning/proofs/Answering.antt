-- From an accepted sheet to the answer: the starts, the first root, and the answer of the search's end. Assumes nothing.
use Prim.Native.Nat.{ℕ, ◌+◌, ◌<◌, ◌≤◌}
use Rattle.std.proofs.Common.{◌≡◌, refl, sym, ap, ◌∙◌, List, [], ◌∷◌, arith, length, get_or, set, get_or-set_same, get_or-set_other}
use Rattle.std.specs.Prelude.{Option, None, Some}
use Rattle.std.proofs.Math.Decide.{ℕ_discrete, dec_le}
use Rattle.std.proofs.Math.ListN.{get_or-eq_default}
use Rattle.deck.specs.Lists.{flat, head_of}
use Rattle.deck.specs.Sheet.{Sheet, read, cause}
use Rattle.deck.specs.Assignments.{assignments_in_order, least_assignment, table_of}
use Rattle.deck.specs.Search.{Answer, no_plan, spent, search_from, searched, cheapest}
use Rattle.deck.specs.Planner.{problem, plan_for}
use Rattle.deck.specs.Calls.{task_list, overwrite, search_found, search_written}
use Rattle.deck.specs.declared.SearchAnswer.TheVariants.{Plan, NoPlan, Spent}
use Rattle.meaning.specs.Meaning.{◌at◌, Assignment}
use Rattle.meaning.proofs.Fuel.{plan_answers}
use Rattle.prices.specs.Square.{copied}
use Rattle.sheet.proofs.Accepted.{limit_range, count_range}
use Rattle.candidates.specs.Candidates.{candidate_for, candidate_of}
use Rattle.candidates.specs.declared.Candidate.{Candidate}
use Rattle.records.specs.Record.{fields_at, tasks_in, bytes}
use Rattle.nodes.specs.Nodes.{paths_in}
use Rattle.nodes.proofs.Kept.{stored_none}
use Rattle.nodes.proofs.Readers.{paths_read}
use Rattle.roots.specs.Tournament.{NextTaken}
use Rattle.roots.specs.Begun.{RootBegun}
use Rattle.expand.specs.Held.{Begun}
use Rattle.turns.specs.Turns.{StartsOf, PlanAt}

-- THE STARTS, one more
pub starts_more : (d : Sheet) (starts : List ℕ) (i x : ℕ) → i < length starts → ((k : ℕ) → k < i → get_or starts k 0 ≡ get_or d.starts k 0) → x ≡ get_or d.starts i 0
    → (k : ℕ) → k < i + 1 → get_or (set starts i x) k 0 ≡ get_or d.starts k 0
starts_more d starts i x l old new k h = go (ℕ_discrete k i)
  where
    go : Dec (k ≡ i) → get_or (set starts i x) k 0 ≡ get_or d.starts k 0
    go (yes e) = rw (e, get_or-set_same starts i x 0 l) new
    go (no e) = rw (get_or-set_other starts i k x 0 e) (old k (omega arith))

-- THE FIRST ROOT
module _ (s : List ℕ) (ok : cause s ≡ None) where
  small_tasks : (a : List ℕ) → Assignment (read s).count a → (k : ℕ) → a at k < 256
  small_tasks a h k = go (dec_le (length a) k)
    where
      go : Dec (length a ≤ k) → a at k < 256
      go (yes l) = omega (arith, get_or-eq_default a 0 l)
      go (no l) = omega (arith, h.tasks k (omega (arith, h.as_many)), count_range s ok)

  -- it is begun; what remains are the other assignments
  pub record FirstBegun (work : List ℕ) : Type 0 where
    pub first : List ℕ
    pub others : List (List ℕ)
    pub all : (problem (read s)).assignments ≡ first ∷ others
    pub begun : Begun (read s) work 0 first 0 (record { opened = []; made = 0; rest = others })

  first_begun_at : (before work tasks : List ℕ) → RootBegun before work 0 tasks → NextTaken (read s).count (table_of (read s)) work 1 (assignments_in_order (read s).count (table_of (read s))) tasks → FirstBegun work
  unfolding problem
  first_begun_at before work tasks root taken =
      record {
        first = taken.next;
        others = taken.others;
        all = taken.first;
        begun = record {
          stored = stored_none (read s) (read s).limit work;
          opened = refl;
          number = refl;
          slots = taken.hold;
          within = (limit_range s ok).0;
          unbarred = taken.unbarred;
          root = root.root (read s) taken.next taken.unbarred.0.as_many (small_tasks taken.next taken.unbarred.0) taken.list;
        };
      }

  pub first_begun : (m : ℕ) (t before work tasks : List ℕ) → m ≡ (read s).count → copied (read s).count t ≡ table_of (read s)
      → RootBegun before work 0 tasks → NextTaken m (copied m t) work 1 (assignments_in_order m (copied m t)) tasks → FirstBegun work
  first_begun m t before work tasks em et root taken = first_begun_at before work tasks root (rw (em, et) at taken)

-- WITH A FIRST ASSIGNMENT, AND WITHOUT
head_none : (l : List (List ℕ)) → head_of l ≡ None → l ≡ []
head_none [] e = refl
head_none (a ∷ l) e = cc

none_assigned : (d : Sheet) → least_assignment d.count (table_of d) ≡ None → (problem d).assignments ≡ []
unfolding problem least_assignment
none_assigned d e = head_none (assignments_in_order d.count (table_of d)) e

module _ (s : List ℕ) (ok : cause s ≡ None) where
  none_plan : (problem (read s)).assignments ≡ [] → plan_for (read s) ≡ no_plan 0
  unfolding searched
  none_plan e =
      let c : Some (no_plan 0) ≡ Some (plan_for (read s)) = sym (ap (search_from (problem (read s)) (read s).limit cheapest) e) ∙ plan_answers (read s) (limit_range s ok).0 in
      cc

  module _ (t : List ℕ) (table : copied (read s).count t ≡ table_of (read s)) (m : ℕ) (em : m ≡ (read s).count) where
    abbrev first : Option (List ℕ)
    first = least_assignment (read s).count (table_of (read s))

    -- what the call for the first assignment answers
    abbrev Answers : Option Candidate → Type 0
    Answers r = r ≡ candidate_for m (copied m t) (least_assignment m (copied m t))

    candidate_is : (r : Option Candidate) → Answers r → r ≡ candidate_for (read s).count (table_of (read s)) first
    candidate_is r e = e ∙ rw (em, table) refl

    pub none_answer : Answers None → plan_for (read s) ≡ no_plan 0
    unfolding candidate_for
    none_answer e = go first refl (candidate_is None e)
      where
        go : (o : Option (List ℕ)) → first ≡ o → None ≡ candidate_for (read s).count (table_of (read s)) o → plan_for (read s) ≡ no_plan 0
        go None z c = none_plan (none_assigned (read s) z)
        go (Some a) z c = cc

    pub some_tasks : (r : Candidate) → Answers (Some r) → (a : List ℕ) × (first ≡ Some a) × (r.tasks ≡ task_list a)
    unfolding candidate_for
    some_tasks r e = go first refl (candidate_is (Some r) e)
      where
        go : (o : Option (List ℕ)) → first ≡ o → Some r ≡ candidate_for (read s).count (table_of (read s)) o → (a : List ℕ) × (first ≡ Some a) × (r.tasks ≡ task_list a)
        go None z c = cc
        go (Some a) z c = let same : r ≡ candidate_of (read s).count (table_of (read s)) a = cc in (a, z, ap (λ (x : Candidate). x.tasks) same)

-- THE ANSWER
module _ (d : Sheet) (work : List ℕ) (made n cost : ℕ) (a : Answer (List ℕ)) (p : PlanAt d work made n cost a) where
  pub plan_found : (tasks : List ℕ) → tasks ≡ bytes (tasks_in (fields_at work n)) → Plan tasks cost made cost ≡ search_found a
  unfolding search_found
  plan_found tasks e = rw (p.answer, e, p.tasks) refl

  pub plan_written : (w last m : ℕ) (starts out words : List ℕ) → w ≡ d.width → last ≡ d.horizon → m ≡ d.count → StartsOf d starts
      → words ≡ overwrite (flat (paths_in w last starts m (fields_at work n))) out → words ≡ search_written a out
  unfolding search_written
  plan_written w last m starts out words ew el em es e = e ∙ ap (λ ps. overwrite (flat ps) out) (paths_read d work n w last m starts ew el em es) ∙ rw p.answer refl

pub none_found : (a : Answer (List ℕ)) (made : ℕ) → a ≡ no_plan made → NoPlan made ≡ search_found a
unfolding search_found
none_found a made e = rw e refl

pub none_written : (a : Answer (List ℕ)) (made : ℕ) (out : List ℕ) → a ≡ no_plan made → out ≡ search_written a out
unfolding search_written
none_written a made out e = rw e refl

pub spent_found : (a : Answer (List ℕ)) (nodes bound : ℕ) → a ≡ spent nodes bound → Spent nodes bound ≡ search_found a
unfolding search_found
spent_found a nodes bound e = rw e refl

pub spent_written : (a : Answer (List ℕ)) (nodes bound : ℕ) (out : List ℕ) → a ≡ spent nodes bound → out ≡ search_written a out
unfolding search_written
spent_written a nodes bound out e = rw e refl
