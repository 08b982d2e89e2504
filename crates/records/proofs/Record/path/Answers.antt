-- Twenty words of the paths. Assumes nothing.
use Rattle.std.proofs.Common.{◌+◌, ◌*◌, arith}
use Rattle.records.proofs.Fields.{read_part}
use Rattle.records.proofs.Record.path.Goals as goal

pub returns-clause-words : goal.returns-clause-words
returns-clause-words c = read_part _ c.self.view_is 7 (20 * c.args.i.0) 20 (200 + 20 * c.args.i.0) (200 + 20 * c.args.i.0 + 20) (omega arith) (omega arith) (omega arith) (omega arith)
