-- `hungarian::Solution::match_row` meets its contract: the way back has at most as many steps as the tree has columns. Assumes nothing.
use Rattle.std.proofs.Common.{arith, refl}
use Rattle.hungarian.proofs.Rounds.{step_low, step_ends, step_next, step_within}
use Rattle.hungarian.proofs.Solution.match_row.Goals as goal

pub loop-init : goal.loop-init
loop-init c =
    let t = c.new-tree.ensures in
    let W = rw (t.0, t.1) at c.grow-task.ensures.way in
    (omega arith, W, c.requires.1, refl)

pub bounds-tree-task : goal.bounds-tree-task
bounds-tree-task c = omega (arith, (step_low _ _ _ c.args.problem.now.few c.requires.0 _ _ _ _ _ _ c.loop.invariant.1).0, c.args.problem.now.few)

pub bounds-self-carrier : goal.bounds-self-carrier
bounds-self-carrier c = omega (arith, (step_low _ _ _ c.args.problem.now.few c.requires.0 _ _ _ _ _ _ c.loop.invariant.1).1, c.args.problem.now.few)

pub pair-requires : goal.pair-requires
pair-requires c =
    let l = step_low _ _ _ c.args.problem.now.few c.requires.0 _ _ _ _ _ _ c.loop.invariant.1 in
    (omega (arith, l.1, c.args.problem.now.few), omega (arith, l.0, c.args.problem.now.few))

pub returns-in_default : goal.returns-in_default
returns-in_default c =
    let I = c.loop.invariant in
    let p = c.args.problem.now in
    let R = c.grow-task.ensures in
    let t = c.new-tree.ensures in
    let B = rw (t.0, ← I.3) at R.bounded in
    let u = rw (← I.3) at R.sizes.0 in
    let v = rw (← I.3) at R.sizes.1 in
    rw c.pair.ensures (step_within _ _ _ p.few c.requires.0 _ _ _ _ _ _ I.1 (omega arith) (omega arith) I.2, step_ends _ _ _ p.few c.requires.0 _ _ _ _ _ _ I.1 (omega arith) (omega arith) B u v c.in_default.is)

pub loop-preserved : goal.loop-preserved
loop-preserved c =
    let I = c.loop.invariant in
    let p = c.args.problem.now in
    rw c.pair.ensures (
      omega arith,
      step_next _ _ _ p.few c.requires.0 _ _ _ _ _ _ I.1 (omega arith) (omega arith) _ c.in-Some.is (I.2.tasks _ _ c.in-Some.is),
      step_within _ _ _ p.few c.requires.0 _ _ _ _ _ _ I.1 (omega arith) (omega arith) I.2,
      I.3,
    )

-- the way back ends before
pub returns : goal.returns
returns c = absurd (omega (arith, c.loop.invariant.1.left))
