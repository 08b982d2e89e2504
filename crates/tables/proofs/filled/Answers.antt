-- `tables::filled` meets its contract. Assumes nothing.
use Rattle.std.proofs.Common.{arith}
use Rattle.std.proofs.lemmas.Grind.{common_steps}
use Rattle.std.proofs.lemmas.Option.{gets}
use Rattle.tables.proofs.Cells.{copied_table}
use Rattle.tables.proofs.filled.Goals as goal

pub returns : goal.returns
returns c = copied_table _ _ _ c.requires.0 c.requires.1 (λ i j li lj. let h = c.square.ensures i j li lj in let t = h.2 in grind (arith, common_steps, gets))
