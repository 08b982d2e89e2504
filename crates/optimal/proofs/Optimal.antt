-- Demand 3 of the exact search over abstract parts: it always answers, and its answer is the best. Assumes nothing.
use Rattle.std.proofs.Common.{ℕ, ◌≤◌, ◌≡◌, sym, Some}
use Rattle.deck.specs.Search.{Problem, Answer, plan, no_plan, spent, searched, cheapest}
use Rattle.optimal.specs.Plans.{Rules, Laws, Right, Best}
use Rattle.optimal.proofs.Invariant.{searched_right}
use Rattle.optimal.proofs.Select.{cheapest_picks}

module _ {Path Constraint : Type 0} (w : Problem Path Constraint) (r : Rules Path Constraint) where
  -- where the bound is the cost, a right answer is the best
  best : (a : Answer Path) → Right w r ◌≡◌ a → Best w r a
  best (plan a ps f n b) h = (h.0, h.1, sym h.2, λ c qs p. rw h.2 (h.3 c qs p))
  best (no_plan n) h = h
  best (spent n b) h = h

  -- The exact search answers: with a plan of least flowtime; with none, and there is no plan; or spent, with a bound that no plan's flowtime is below
  pub exact_best : Laws w r → (limit : ℕ) → 1 ≤ limit → (a : Answer Path) × (searched w limit cheapest ≡ Some a) × Best w r a
  exact_best L limit room = let u = searched_right w r L limit ◌≡◌ cheapest cheapest_picks room in (u.0, u.1, best u.0 u.2)
