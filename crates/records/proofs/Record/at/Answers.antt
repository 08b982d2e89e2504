-- The words that are lent are the record of node n. Assumes nothing.
use Rattle.std.proofs.Common.{◌*◌, ap}
use Rattle.records.specs.Record.{fields, fields_at}
use Rattle.records.proofs.Cuts.{part_lent}
use Rattle.records.proofs.Record.at.Goals as goal

pub returns : goal.returns
unfolding fields_at
returns c = ap fields (part_lent (512 * c.args.n) 512 c.args.work.now)
