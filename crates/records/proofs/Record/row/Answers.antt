-- A word of field 4. Assumes nothing.
use Rattle.std.proofs.Common.{arith}
use Rattle.records.proofs.Fields.{read_word}
use Rattle.records.proofs.Record.row.Goals as goal

pub returns : goal.returns
returns c = read_word _ c.self.view_is 4 0 30 (omega arith) (omega arith) (omega arith)
