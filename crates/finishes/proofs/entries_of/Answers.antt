-- `entries_of` meets its contract: one start more is padded. Assumes nothing.
use Rattle.std.proofs.Common.{ap₂, ◌∙◌, length-set, arith}
use Rattle.bars.specs.Padded.{pad_of}
use Rattle.finishes.proofs.Marks.{starts_set, steps_set}
use Rattle.finishes.proofs.entries_of.Goals as goal

pub loop-i-preserved : goal.loop-i-preserved
loop-i-preserved c =
    let l = c.loop-i in
    let n = c.new in (
      length-set l.entries l.i n.result ∙ l.invariant.0,
      starts_set l.entries l.i n.result _ (omega (arith, l.invariant.0, c.count-i-end.ensures.range)) (n.ensures.0 ∙ c.pad.ensures ∙ ap₂ pad_of c.requires.0 c.start.ensures.value) l.invariant.1,
      steps_set l.entries l.i n.result n.ensures.1 l.invariant.0 l.invariant.2,
    )
