-- `listing::carriers` meets its contract. Assumes nothing.
use Rattle.std.proofs.Common.{arith}
use Rattle.meaning.proofs.Dark.{most_carriers}
use Rattle.listing.proofs.Buffers.{appends_same, appends_then}
use Rattle.listing.proofs.Lines.{line_more, lines_all}
use Rattle.listing.proofs.carriers.Goals as goal

pub task_of-j-requires : goal.task_of-j-requires
task_of-j-requires c = omega (arith, most_carriers c.args.s.now c.requires)

pub loop-i-preserved : goal.loop-i-preserved
loop-i-preserved c =
    appends_same
    (line_more c.args.s.now c.args.tasks.now c.args.paths.now c.loop-i.i _ c.task_of-j.result.0 c.piece.result.now (omega arith) (omega arith) c.task_of-j.ensures.0 c.piece.ensures)
    (appends_then c.loop-i.invariant c.carrier.ensures)

pub returns : goal.returns
returns c = appends_same (lines_all c.args.s.now c.args.tasks.now c.args.paths.now c.loop-i.i (omega arith)) c.loop-i.invariant
