-- `candidates::listed` meets its contract. Assumes nothing.
use Rattle.std.proofs.Common.{ℕ, arith, length-take, replicate}
use Rattle.hungarian.specs.Solving.{task_numbers}
use Rattle.candidates.proofs.Weighing.{listed_more, listed_all}
use Rattle.candidates.proofs.listed.Goals as goal

pub own_task-task-requires : goal.own_task-task-requires
own_task-task-requires c =
    let long = length-take {A = ℕ} c.args.m (replicate 12 255) in
    (omega (arith, long), c.requires.2 _ (omega (arith, long)))

pub loop-i-preserved : goal.loop-i-preserved
loop-i-preserved c =
    let long = length-take {A = ℕ} c.args.m (replicate 12 255) in
    listed_more (task_numbers c.args.pairs.now.tasks) c.loop-i.number-items c.loop-i.i _ (omega arith) (omega (arith, long)) c.own_task-task.ensures.0 c.loop-i.invariant

pub returns : goal.returns
returns c =
    let long = length-take {A = ℕ} c.args.m (replicate 12 255) in
    listed_all c.args.m c.loop-i.i (task_numbers c.args.pairs.now.tasks) c.loop-i.number-items c.requires.0 c.requires.1 (omega (arith, long)) (omega (arith, long)) c.loop-i.invariant
