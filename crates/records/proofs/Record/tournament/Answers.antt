-- A word of field 5. Assumes nothing.
use Rattle.std.proofs.Common.{arith}
use Rattle.records.proofs.Fields.{read_word}
use Rattle.records.proofs.Record.tournament.Goals as goal

pub returns : goal.returns
returns c = read_word _ c.self.view_is 5 0 31 (omega arith) (omega arith) (omega arith)
