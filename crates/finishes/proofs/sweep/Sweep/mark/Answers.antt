-- `Sweep::mark` meets its contract: one entry more is marked. Assumes nothing.
use Rattle.std.proofs.Common.{◌<◌, ◌∙◌, length, arith}
use Rattle.finishes.proofs.Marks.{starts_kept, marks_more, marks_all}
use Rattle.finishes.proofs.sweep.Sweep.mark.Goals as goal

pub loop-entry-preserved : goal.loop-entry-preserved
loop-entry-preserved c =
    let l = c.loop-entry in
    let m = c.mark in
    let inside : l.entry-index < length l.entries = omega (arith, l.auto.entries, c.loop-entry-test.true) in (
      starts_kept l.entries l.entry-index c.entry-item.result inside m.new.self m.ensures.0 ∙ l.invariant.0,
      marks_more l.entries l.entry-index c.entry-item.result inside m.new.self m.ensures.0 c.args.layer.now (length c.args.self.now.pass.goals.now) c.args.k _ _ l.invariant.0
          m.ensures.1 l.invariant.1,
    )

pub returns-clause-steps : goal.returns-clause-steps
returns-clause-steps c = marks_all _ _ _ _ c.args.entries.now _ c.loop-entry-test.false c.loop-entry.invariant.1
