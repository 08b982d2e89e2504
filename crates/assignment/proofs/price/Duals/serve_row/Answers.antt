-- `assignment::price::Duals::serve_row` meets its contract. Assumes nothing.
use Rattle.std.proofs.Common.{arith, refl, get_or, pos, ◌+ℤ◌, ◌≤ℤ◌, ℕ, rules}
use Rattle.std.specs.Prelude.{⊤}
use Rattle.std.proofs.lemmas.Grind.{common_steps}
use Rattle.std.proofs.lemmas.Option.{gets}
use Rattle.std.proofs.lemmas.Iterator.{cases_from_all, YieldsList-from_range}
use Rattle.prices.specs.Weights.{weigh}
use Rattle.prices.specs.Square.{cell}
use Rattle.assignment.proofs.Priced.{all_below}
use Rattle.assignment.proofs.price.Duals.serve_row.Goals as goal

pub returns : goal.returns
returns c =
    let m = c.args.m in
    let d = c.args.self.now in
    let Yes = λ (j : ℕ). (get_or d.rows c.args.carrier.0 (pos 0) +ℤ get_or d.columns j (pos 0)) ≤ℤ pos (weigh (cell c.args.t.now c.args.carrier.0 j)) in
    all_below _ _ m _ (cases_from_all _ _ _ Yes (λ _. ⊤) c.all.ensures.ran (YieldsList-from_range 0 m m refl (omega arith)) (λ x q k. grind (arith, common_steps, gets)) (λ x q k. search rules))
