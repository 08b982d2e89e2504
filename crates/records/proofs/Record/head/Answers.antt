-- The link and the constraint. Assumes nothing.
use Rattle.std.proofs.Common.{◌∙◌, ap, refl, arith}
use Rattle.records.specs.Record.{constraint_in}
use Rattle.records.proofs.Fields.{read_word, read_field}
use Rattle.records.proofs.Record.head.Goals as goal

pub returns : goal.returns
returns c =
    let link = read_word _ c.self.view_is 0 0 0 (omega arith) (omega arith) (omega arith) in
    let own = c.constraint_of.ensures ∙ ap constraint_in (read_field _ c.self.view_is c.self.invariant 1 1 6 (omega arith) (omega arith) (omega arith)) in
    rw (link, own) refl
