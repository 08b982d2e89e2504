-- The first `made` assignments are listed. Assumes nothing.
use Rattle.std.proofs.Common.{◌+◌, sym, subst}
use Rattle.prices.specs.Square.{copied}
use Rattle.roots.specs.Tournament.{NextTaken}
use Rattle.in_order.proofs.Progress.{progress_more}
use Rattle.in_order.proofs.listed.Goals as goal

pub loop-made-preserved : goal.loop-made-preserved
loop-made-preserved c =
    let a = c.args in
    let P = c.loop-made.invariant in
    let table = copied a.m a.t.now in
    progress_more a.m c.requires.1 table c.loop-made.work c.loop-made.made a.lists.now c.loop-made.lists P c.take.new.work c.copy_from_slice.new.self
    (subst (NextTaken a.m table c.take.new.work (c.loop-made.made + 1) P.rest) (sym c.copy_from_slice.ensures.after) (c.in-Some.ensures P.rest P.remain))
