-- A word of the tasks. Assumes nothing.
use Rattle.std.proofs.Common.{◌+◌, ap, arith}
use Rattle.deck.specs.Sheet.{task}
use Rattle.records.proofs.Fields.{read_word}
use Rattle.records.proofs.Record.task.Goals as goal

pub returns : goal.returns
returns c = ap task (read_word _ c.self.view_is 2 c.args.i.0 (6 + c.args.i.0) (omega arith) (omega arith) (omega arith))
