-- Demand 3: of each accepted sheet, the search's answer is right. Assumes nothing.
use Rattle.std.proofs.Common.{ℕ, ◌≤◌, ◌<◌, ◌≡◌, sym, subst, ◌∙◌, List, Some, None, arith}
use Rattle.deck.specs.Sheet.{Sheet, area, carrier, start_of, read, cause}
use Rattle.deck.specs.Assignments.{barred}
use Rattle.deck.specs.Search.{Answer, plan, no_plan, spent, searched, cheapest}
use Rattle.deck.specs.Planner.{problem, answer_or, plan_for}
use Rattle.meaning.specs.Meaning.{Plan, NoPlanBelow, Right}
use Rattle.meaning.proofs.Lists.{length_below}
use Rattle.meaning.proofs.Paths.{path_finish}
use Rattle.meaning.proofs.Flowtime.{finish_at, finishes, finishes_at, flowtime_sum, plan_flowtime}
use Rattle.optimal.specs.Plans.{IsPlan, Best, NoPlanBelow as NoneBelow}
use Rattle.optimal.proofs.Optimal.{exact_best}
use Rattle.optimal.specs.Deck.{rules}
use Rattle.optimal.proofs.Deck.{laws}
use Rattle.meaning.proofs.Accepted.{accepted_limit, accepted_horizon, accepted_start}

module _ (d : Sheet) where
  -- a plan by the rules of the search is a plan, with these finishes
  plan_meant : (a : List ℕ) (ps : List (List ℕ)) → IsPlan (problem d) (rules d) a ps → Plan d a ps (finishes d a ps)
  unfolding problem
  plan_meant a ps p = record {
    assigned = p.assigned;
    a_path_each = p.a_path_each;
    a_finish_each = length_below d.count (finish_at d a ps);
    paths = λ i h. rw (finishes_at d a ps i h) (p.legal i h);
    apart = p.apart;
  }

  -- and each plan is one by the rules of the search
  meant_plan : (a : List ℕ) (ps : List (List ℕ)) (fs : List ℕ) → Plan d a ps fs → IsPlan (problem d) (rules d) a ps
  unfolding problem
  meant_plan a ps fs p = record {
    assigned = p.assigned;
    a_path_each = p.a_path_each;
    legal = λ i h. rw (path_finish (p.paths i h)) (p.paths i h);
    apart = p.apart;
  }

  none_below : (b : ℕ) → NoneBelow (problem d) (rules d) b → NoPlanBelow d b
  none_below b h a ps fs p = rw (← plan_flowtime d a ps p) (h a ps (meant_plan a ps fs p))

  -- an answer that is best by the rules of the search is right
  best_right : (x : Answer (List ℕ)) → Best (problem d) (rules d) x → Right d x
  best_right (plan a ps f n b) h = ((finishes d a ps, plan_meant a ps h.0, sym (h.1 ∙ flowtime_sum d a ps)), h.2, none_below f h.3)
  best_right (no_plan n) h = λ a ps fs p. h a ps (meant_plan a ps fs p)
  best_right (spent n b) h = none_below b h

  -- The search answers, and its answer is right
  module _ (room : 1 ≤ d.limit) (on_grid : (i : ℕ) → i < d.count → start_of d (carrier i) < area d) (short : d.horizon < barred) where
    best_answer : (x : Answer (List ℕ)) × (searched (problem d) d.limit cheapest ≡ Some x) × Best (problem d) (rules d) x
    best_answer = exact_best (problem d) (rules d) (laws d on_grid short) d.limit room

    pub deck_right : Right d (plan_for d)
    unfolding plan_for
    deck_right = let (x, e, h) = best_answer in subst (λ o. Right d (answer_or o)) (sym e) (best_right x h)

-- Demand 3 of the search from sheet to answer, with no hypothesis beside acceptance
pub demand3 : (s : List ℕ) → cause s ≡ None → Right (read s) (plan_for (read s))
demand3 s ok = deck_right (read s) (accepted_limit s ok) (accepted_start s ok) (omega (arith, accepted_horizon s ok))
