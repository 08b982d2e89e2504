-- The sum of the finishes. Assumes nothing.
use Rattle.std.proofs.Common.{sym, ◌∙◌, ap, arith}
use Rattle.deck.specs.Lists.{sum}
use Rattle.records.proofs.Fields.{read_field}
use Rattle.records.proofs.Words.{sum_is}
use Rattle.records.proofs.Record.cost.Goals as goal

pub returns : goal.returns
returns c = c.total.ensures ∙ sym (sum_is _) ∙ ap sum (read_field _ c.self.view_is c.self.invariant 3 18 30 (omega arith) (omega arith) (omega arith))
