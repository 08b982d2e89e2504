-- `enter` meets its contract. Assumes nothing.
use Rattle.std.proofs.Common.{arith}
use Rattle.roots.proofs.Replaying.{played_emptied, root_entered}
use Rattle.roots.proofs.enter.Goals as goal

pub refresh-requires : goal.refresh-requires
refresh-requires c =
    let a = c.args in
    let pre = c.requires in
    (pre.0, omega (arith, c.empty.auto.work), omega arith, omega arith, played_emptied a.m a.work.now _ a.latest a.made pre.1 pre.5 c.empty.ensures)

pub returns : goal.returns
returns c =
    let a = c.args in
    let pre = c.requires in
    root_entered a.m a.work.now _ a.latest a.made pre.1 pre.5 c.empty.ensures _ _ a.n c.refresh.ensures c.refresh-2.ensures
