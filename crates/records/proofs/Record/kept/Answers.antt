-- The words of the slot. Assumes nothing.
use Rattle.std.proofs.Common.{◌+◌, ◌*◌, refl, ◌∙◌, ap, arith}
use Rattle.records.specs.Record.{bytes}
use Rattle.records.proofs.Fields.{read_word, read_part, slot_word, slot_part}
use Rattle.records.proofs.Record.kept.Goals as goal

pub returns : goal.returns
returns c =
    let fs = c.args.self.now in
    let j = c.args.j in
    let sum = read_word _ c.self.view_is 6 (14 * j + 1) (32 + 14 * j + 1) (omega arith) (omega arith) (omega arith) ∙ slot_word fs j 1 (omega arith) in
    let tasks =
    c.bytes_of.ensures ∙ ap bytes
    (read_part _ c.self.view_is 6 (14 * j + 2) 12 (32 + 14 * j + 2) (32 + 14 * j + 14) (omega arith) (omega arith) (omega arith) (omega arith) ∙ slot_part fs j) in
    rw (sum, tasks) refl
