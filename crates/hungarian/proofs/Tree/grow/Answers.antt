-- `hungarian::Tree::grow` meets its contract: the columns are those of the tree in each turn, and each turn has one column fewer
-- outside the tree. Assumes nothing.
use Rattle.std.proofs.Common.{arith, refl, le_of_eq, ◌∙◌, ◌<◌, rules}
use Rattle.hungarian.proofs.Columns.{joined_marks, joined_nears, joined_froms}
use Rattle.hungarian.proofs.Gains.{carrier_at}
use Rattle.hungarian.proofs.Rounds.{slacks, grown_begins, turn}
use Rattle.hungarian.proofs.Tree.grow.Goals as goal

pub loop-next-init : goal.loop-next-init
loop-next-init c =
    let p = c.args.self.now.problem in
    (refl, refl, c.requires.solved, rw (c.requires.row.1, c.requires.row.2) (grown_begins _ _ _ p.few c.requires.row.0 p.light _ _ _ _ c.requires.solved _ refl))

pub relax-edge-requires-clause-prices : goal.relax-edge-requires-clause-prices
relax-edge-requires-clause-prices c =
    let p = c.args.self.now.problem in
    let I = c.loop-next.invariant in
    rw I.0 (I.3.newest.0, slacks _ _ _ p.few c.requires.row.0 p.light _ _ _ _ I.2)

pub offset_bounds-pairs-edge : goal.offset_bounds-pairs-edge
offset_bounds-pairs-edge c =
    let p = c.args.self.now.problem in
    let I = c.loop-next.invariant in
    let e = c.relax-edge.ensures in
    let R = rw I.0 at e.relaxed in
    let C = rw I.0 at e.closest in
    let T = turn _ _ _ p.few c.requires.row.0 p.light _ _ _ _ I.2 _ _ _ _ _ I.3 _ _ _ R C in
    let low : c.relax-edge.result.task.0 < 12 = omega (arith, T.in_range, p.few) in
    search rules

pub bounds : goal.bounds
bounds c =
    let p = c.args.self.now.problem in
    let I = c.loop-next.invariant in
    let e = c.relax-edge.ensures in
    let R = rw I.0 at e.relaxed in
    let C = rw I.0 at e.closest in
    let T = turn _ _ _ p.few c.requires.row.0 p.light _ _ _ _ I.2 _ _ _ _ _ I.3 _ _ _ R C in
    omega (arith, T.in_range, p.few)

pub raise_rows-requires-clause-fits : goal.raise_rows-requires-clause-fits
raise_rows-requires-clause-fits c =
    let p = c.args.self.now.problem in
    let I = c.loop-next.invariant in
    let e = c.relax-edge.ensures in
    let R = rw I.0 at e.relaxed in
    let C = rw I.0 at e.closest in
    let T = turn _ _ _ p.few c.requires.row.0 p.light _ _ _ _ I.2 _ _ _ _ _ I.3 _ _ _ R C in
    rw (e.kept.0, e.kept.1, e.kept.3, I.0, I.1) T.rows_rise

-- the columns' prices are as they were when the rows' are raised
pub raise_columns-requires : goal.raise_columns-requires
raise_columns-requires c =
    let p = c.args.self.now.problem in
    let I = c.loop-next.invariant in
    let e = c.relax-edge.ensures in
    let R = rw I.0 at e.relaxed in
    let C = rw I.0 at e.closest in
    let T = turn _ _ _ p.few c.requires.row.0 p.light _ _ _ _ I.2 _ _ _ _ _ I.3 _ _ _ R C in
    rw (e.kept.0, e.kept.3, I.0) T.columns_rise

pub returns-in_default : goal.returns-in_default
returns-in_default c =
    let p = c.args.self.now.problem in
    let I = c.loop-next.invariant in
    let e = c.relax-edge.ensures in
    let R = rw I.0 at e.relaxed in
    let C = rw I.0 at e.closest in
    let T = turn _ _ _ p.few c.requires.row.0 p.light _ _ _ _ I.2 _ _ _ _ _ I.3 _ _ _ R C in
    let free = carrier_at c.args.pairs.now.carriers _ _ (omega (arith, T.in_range, p.few)) c.in_default.is in
    let rows = rw (e.kept.0, e.kept.1, e.kept.3, I.0, I.1) at c.raise_rows.ensures in
    let columns = rw (e.kept.0, e.kept.3, I.0) at c.raise_columns.ensures in
    T.reaches (omega (arith, free, p.few)) _ _ rows (omega arith) columns (omega arith)

pub loop-next-smaller : goal.loop-next-smaller
loop-next-smaller c =
    let p = c.args.self.now.problem in
    let I = c.loop-next.invariant in
    let e = c.relax-edge.ensures in
    let R = rw I.0 at e.relaxed in
    let C = rw I.0 at e.closest in
    let T = turn _ _ _ p.few c.requires.row.0 p.light _ _ _ _ I.2 _ _ _ _ _ I.3 _ _ _ R C in
    let marked = joined_marks c.relax-edge.new.self.columns c.relax-edge.result.task.0 in
    rw (marked, e.kept.3) (le_of_eq T.one_fewer)

pub loop-next-preserved : goal.loop-next-preserved
loop-next-preserved c =
    let p = c.args.self.now.problem in
    let I = c.loop-next.invariant in
    let e = c.relax-edge.ensures in
    let R = rw I.0 at e.relaxed in
    let C = rw I.0 at e.closest in
    let T = turn _ _ _ p.few c.requires.row.0 p.light _ _ _ _ I.2 _ _ _ _ _ I.3 _ _ _ R C in
    let own = carrier_at c.args.pairs.now.carriers _ _ (omega (arith, T.in_range, p.few)) c.in-Some.is in
    let l = c.relax-edge.new.self.columns in
    let j = c.relax-edge.result.task.0 in (
      e.kept.0 ∙ I.0,
      e.kept.1 ∙ I.1,
      I.2,
      rw (joined_marks l j, joined_nears l j, joined_froms l j, e.kept.3) (rw own at (T.joins (omega (arith, own, c.requires.within.carriers _ _ c.in-Some.is)))),
    )
