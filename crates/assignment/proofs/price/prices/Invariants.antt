-- `assignment::price::prices` meets its contract. Assumes nothing.
use Rattle.assignment.proofs.Priced.{PricesTo}
use Rattle.assignment.proofs.price.prices.Given as goal

abbrev pub invariant-loop-k : goal.invariant-loop-k
invariant-loop-k g l = PricesTo (λ k y. goal.F-post g l.price k y) l.k l.own-items
