-- `tables::Part::table` meets its contract. Assumes nothing.
use Rattle.std.proofs.Common.{arith}
use Rattle.std.proofs.lemmas.Grind.{common_steps}
use Rattle.std.proofs.lemmas.Option.{gets}
use Rattle.tables.specs.Copies.{part_of}
use Rattle.tables.proofs.Cells.{copied_part}
use Rattle.tables.proofs.Part.table.Goals as goal

pub returns : goal.returns
returns c = copied_part c.args.m c.args.table.now c.square.result (part_of c.args.self.now) c.requires.0
    (λ i j li lj. let h = c.square.ensures i j li lj in let t = h.2 in grind (arith, common_steps, gets))
