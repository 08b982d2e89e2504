-- Weak duality: an assignment on tight entries has the least cost, and then each assignment of that cost is on tight entries.
-- Assumes nothing.
use Rattle.std.proofs.Common.{ℕ, ◌+◌, ◌-◌, ◌≤◌, ◌<◌, ◌≡◌, List, map, arith}
use Rattle.deck.specs.Lists.{below, sum}
use Rattle.meaning.specs.Meaning.{◌at◌, Assignment}
use Rattle.meaning.proofs.Lists.{mem_below}
use Rattle.prices.specs.Matching.{cost, Feasible, Tight}
use Rattle.prices.proofs.Sums.{sum_plus, sum_above, sum_nothing, nothing_sum, assigned_sum}

module _ (m : ℕ) (c : ℕ → ℕ → ℕ) (u v : ℕ → ℕ) (fe : Feasible m c u v) where
  abbrev total : (ℕ → ℕ) → ℕ
  total f = sum (map f (below m))

  -- how far the entry that row i uses is above its prices
  abbrev slack : List ℕ → ℕ → ℕ
  slack a i = (c i (a at i) + v (a at i)) - u i

  -- cost and column prices come to row prices and slacks
  balance : (a : List ℕ) → Assignment m a → cost m c a + total v ≡ total u + total (slack a)
  balance a h =
      let used : ℕ → ℕ = λ i. c i (a at i) in
      let price : ℕ → ℕ = λ i. v (a at i) in
      omega (
        arith,
        sum_plus used price (below m),
        assigned_sum v m a h,
        sum_above u (λ i. used i + price i) (below m) (λ i n. let l = (mem_below m).0 n in fe i (a at i) l (h.tasks i l)),
      )

  abbrev pub OnTight : List ℕ → Type 0
  OnTight a = (i : ℕ) → i < m → Tight c u v i (a at i)

  no_slack : (a : List ℕ) → OnTight a → total (slack a) ≡ 0
  no_slack a t = nothing_sum (slack a) (below m) (λ i n. omega (arith, t i ((mem_below m).0 n)))

  pub tight_least : (a b : List ℕ) → Assignment m a → OnTight a → Assignment m b → cost m c a ≤ cost m c b
  tight_least a b h t k = omega (arith, balance a h, balance b k, no_slack a t)

  pub least_tight : (a b : List ℕ) → Assignment m a → OnTight a → Assignment m b → cost m c b ≤ cost m c a → OnTight b
  least_tight a b h t k le i l =
      let none : total (slack b) ≡ 0 = omega (arith, balance a h, balance b k, no_slack a t) in
      omega (arith, sum_nothing (slack b) (below m) none i ((mem_below m).1 l), fe i (b at i) l (k.tasks i l))
