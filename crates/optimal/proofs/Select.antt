-- The rule of the exact search, `cheapest`, keeps `Picked`, and its bound is the cost of the node taken. Assumes nothing.
use Rattle.std.proofs.Common.{◌≡◌, refl, List, Option, None, Some}
use Rattle.deck.specs.Lists.{take_least}
use Rattle.deck.specs.Search.{Node, selected, cheapest}
use Rattle.meaning.proofs.Lists.{Took, took}
use Rattle.optimal.proofs.Invariant.{Picked}

module _ {Path Constraint : Type 0} where
  selected_picks : (l : List (Node Path Constraint)) (o : Option (Node Path Constraint × List (Node Path Constraint)))
      → Took (λ (n : Node Path Constraint). n.cost) l o → Picked ◌≡◌ l (selected o)
  selected_picks l None e = e
  selected_picks l (Some t) h = record { out = h.0; below = h.1; near = refl }

  pub cheapest_picks : (l : List (Node Path Constraint)) → Picked ◌≡◌ l (cheapest l)
  cheapest_picks l = selected_picks l (take_least (λ n. n.cost) l) (took (λ n. n.cost) l)
