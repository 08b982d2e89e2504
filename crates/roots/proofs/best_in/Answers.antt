-- The slots that are left come to the same choice. Assumes nothing.
use Rattle.std.proofs.Common.{refl, sym, ◌∙◌, ap}
use Rattle.records.specs.Record.{row_in}
use Rattle.roots.specs.Tournament.{best_own}
use Rattle.roots.proofs.Choosing.{more_slots, no_more_slots}
use Rattle.roots.proofs.best_in.Goals as goal

pub loop-j-preserved : goal.loop-j-preserved
loop-j-preserved c =
    let a = c.args in
    let loop = c.loop-j in
    let step = more_slots a.work.now a.n a.m loop.j loop.best c.loop-j-test.true in
    record { choice = rw c.better-best.ensures.0 (sym step ∙ loop.invariant.choice); inside = c.better-best.ensures.1 }

pub returns : goal.returns
unfolding best_own
returns c =
    let a = c.args in
    let loop = c.loop-j in
    let row = c.row-row.ensures ∙ ap row_in c.at.ensures in
    (sym (no_more_slots a.work.now a.n a.m loop.j loop.best c.loop-j-test.false) ∙ loop.invariant.choice ∙ rw row refl, loop.invariant.inside)
