-- The flag of the slot. Assumes nothing.
use Rattle.std.proofs.Common.{◌+◌, ◌*◌, refl, sym, ◌∙◌, arith, eq-eqb, ne_eqb}
use Rattle.records.specs.Record.{flag_in}
use Rattle.records.proofs.Fields.{read_word, slot_word}
use Rattle.records.proofs.Record.slot.Goals as goal

pub returns-then-self-j-eq1 : goal.returns-then-self-j-eq1
returns-then-self-j-eq1 c =
    let j = c.args.j in
    let flag = read_word _ c.self.view_is 6 (14 * j + 0) (32 + 14 * j) (omega arith) (omega arith) (omega arith) ∙ slot_word c.args.self.now j 0 (omega arith) in
    rw (c.kept.ensures, eq-eqb (flag_in c.args.self.now j) 1 (sym flag ∙ c.if-self-j-eq1.true)) refl

pub returns-else-self-j-eq1 : goal.returns-else-self-j-eq1
returns-else-self-j-eq1 c =
    let j = c.args.j in
    let flag = read_word _ c.self.view_is 6 (14 * j + 0) (32 + 14 * j) (omega arith) (omega arith) (omega arith) ∙ slot_word c.args.self.now j 0 (omega arith) in
    simp (ne_eqb (flag_in c.args.self.now j) 1 (λ e. c.if-self-j-eq1.false (flag ∙ e)))
