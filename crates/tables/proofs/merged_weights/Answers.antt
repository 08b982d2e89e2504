-- `tables::merged_weights` meets its contract. Assumes nothing.
use Rattle.std.proofs.Common.{arith, ◌+◌, ◌*◌}
use Rattle.std.proofs.lemmas.Grind.{common_steps}
use Rattle.std.proofs.lemmas.Option.{gets}
use Rattle.tables.proofs.merged_weights.Goals as goal

pub returns : goal.returns
returns c = record {
  each = λ i j li lj. let h = c.square.ensures i j li lj in let t = h.2 in grind (arith, common_steps, gets);
  words = λ i j li lj. omega (arith, c.fits-t (i * 12 + j));
}
