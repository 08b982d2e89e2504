-- The whole of field 2. Assumes nothing.
use Rattle.std.proofs.Common.{◌∙◌, ap, arith}
use Rattle.records.specs.Record.{bytes}
use Rattle.records.proofs.Fields.{read_field}
use Rattle.records.proofs.Record.tasks.Goals as goal

pub returns : goal.returns
returns c = c.bytes_of.ensures ∙ ap bytes (read_field _ c.self.view_is c.self.invariant 2 6 18 (omega arith) (omega arith) (omega arith))
