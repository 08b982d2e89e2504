-- `make_root` meets its contract. Assumes nothing.
use Rattle.std.proofs.Common.{arith}
use Rattle.prices.specs.Square.{copied}
use Rattle.roots.proofs.Filling.{root_filled, begun_kept}
use Rattle.roots.proofs.make_root.Goals as goal

pub fill_slots-requires : goal.fill_slots-requires
fill_slots-requires c =
    let a = c.args in
    (c.requires.0, omega (arith, c.begin_root.auto.work), begun_kept a.m a.work.now _ a.n a.part.tasks a.part.row.0 a.part.closed c.begin_root.ensures c.requires.3)

pub returns : goal.returns
returns c =
    let a = c.args in
    root_filled a.m (copied a.m a.t.now) a.work.now _ _ a.n a.part.tasks a.part.row.0 a.part.closed c.begin_root.ensures c.fill_slots.ensures
