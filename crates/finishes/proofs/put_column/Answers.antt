-- `put_column` meets its contract: one entry more is put. Assumes nothing.
use Rattle.std.proofs.Common.{sym, ap, ◌∙◌, arith}
use Rattle.finishes.specs.Entries.{number_of}
use Rattle.finishes.specs.declared.entry.Entry.{Entry}
use Rattle.finishes.proofs.Marks.{steps_at}
use Rattle.finishes.proofs.Tabled.{put_more}
use Rattle.finishes.proofs.put_column.Goals as goal

pub loop-i-preserved : goal.loop-i-preserved
loop-i-preserved c =
    let l = c.loop-i in
    let e = c.index-entries-i in
    rw c.put.ensures
    (put_more c.args.task.0 _ _ l.i l.table c.number.result (omega arith) c.requires.0
    (c.number.ensures ∙ ap number_of (ap (λ (x : Entry). x.steps) e.is ∙ sym (steps_at c.args.entries.now l.i e.result c.loop-i-test.true))) l.invariant)
