-- Word 31 of the record. Assumes nothing.
use Rattle.std.proofs.Common.{◌+◌, ◌*◌, refl, arith}
use Rattle.records.proofs.Writes.{wrote_one}
use Rattle.records.proofs.set_tournament.Goals as goal

pub returns : goal.returns
returns c = wrote_one c.args.work.now c.args.n 5 c.args.v (512 * c.args.n + 31) (omega arith) refl c.requires.0 (omega arith)
