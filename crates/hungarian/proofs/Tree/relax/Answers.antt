-- `hungarian::Tree::relax` meets its contract. Assumes nothing.
use Rattle.std.proofs.Common.{arith}
use Rattle.hungarian.proofs.Columns.{relaxed_more, still_late, closest_set, relaxed_all}
use Rattle.hungarian.proofs.Tree.relax.Goals as goal

pub nearer-way-requires : goal.nearer-way-requires
nearer-way-requires c = still_late _ _ _ _ _ _ c.loop-j.j _ c.loop-j.invariant.4 (c.requires.outside c.loop-j.j c.loop-j-test.true)

pub loop-j-preserved : goal.loop-j-preserved
loop-j-preserved c =
    let I = c.loop-j.invariant in (
      omega arith,
      I.1,
      I.2,
      I.3,
      relaxed_more _ _ _ _ _ _ c.loop-j.j c.loop-j.self.columns _ _ (omega arith) c.slack-slack.ensures c.nearer-way.ensures I.4,
      closest_set _ _ _ _ _ _ c.loop-j.j c.loop-j.self.columns c.nearer-way.result c.loop-j.nearest _ (omega arith) c.closer-nearest.ensures I.4 I.5,
    )

pub returns-clause-relaxed : goal.returns-clause-relaxed
returns-clause-relaxed c = relaxed_all _ _ _ _ _ _ _ _ _ c.loop-j-test.false c.loop-j.invariant.4
