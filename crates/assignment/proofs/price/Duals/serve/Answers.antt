-- `assignment::price::Duals::serve` meets its contract. Assumes nothing.
use Rattle.std.proofs.Common.{arith, refl, get_or, pos, ◌+ℤ◌, ◌≤ℤ◌, ℕ, ◌<◌, rules}
use Rattle.std.specs.Prelude.{⊤}
use Rattle.std.proofs.lemmas.Iterator.{cases_from_all, YieldsList-from_range}
use Rattle.prices.specs.Weights.{weigh}
use Rattle.prices.specs.Square.{cell}
use Rattle.assignment.proofs.Priced.{all_below}
use Rattle.assignment.proofs.price.Duals.serve.Goals as goal

pub returns : goal.returns
returns c = λ t i j li lj.
    let m = c.args.m in
    let d = c.args.self.now in
    let Yes = λ (i : ℕ). (j : ℕ) → j < m → (get_or d.rows i (pos 0) +ℤ get_or d.columns j (pos 0)) ≤ℤ pos (weigh (cell c.args.t.now i j)) in
    all_below Yes _ m _ (cases_from_all _ _ _ Yes (λ _. ⊤) c.all.ensures.ran (YieldsList-from_range 0 m m refl (omega arith)) (λ x q k. search rules) (λ x q k. search rules)) t i li j lj
