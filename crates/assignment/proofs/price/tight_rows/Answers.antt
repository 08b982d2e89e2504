-- `assignment::price::tight_rows` meets its contract. Assumes nothing.
use Rattle.std.proofs.Common.{arith, get_or, pos, ◌+◌, ◌*◌}
use Rattle.std.proofs.lemmas.Grind.{common_steps}
use Rattle.std.proofs.lemmas.Option.{gets}
use Rattle.meaning.specs.Meaning.{◌at◌}
use Rattle.prices.specs.Square.{cell}
use Rattle.assignment.proofs.Priced.{mag_minus, prices_made}
use Rattle.assignment.proofs.price.tight_rows.Goals as goal

pub returns : goal.returns
returns c = prices_made _ _ _ _ (λ k l. let h = c.prices.ensures.each k l in grind (arith, common_steps, gets))
    (λ k l. let j = c.args.tasks.now at k in
    omega (arith, mag_minus (pos (cell c.args.t.now k j)) (get_or c.args.columns.now j (pos 0)), c.fits-t (k * 12 + j), c.requires.2 j (c.requires.1 k l))) c.prices.ensures.zero
