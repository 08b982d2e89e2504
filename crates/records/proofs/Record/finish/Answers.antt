-- A word of field 3. Assumes nothing.
use Rattle.std.proofs.Common.{◌+◌, arith}
use Rattle.records.proofs.Fields.{read_word}
use Rattle.records.proofs.Record.finish.Goals as goal

pub returns : goal.returns
returns c = read_word _ c.self.view_is 3 c.args.i.0 (18 + c.args.i.0) (omega arith) (omega arith) (omega arith)
