-- `candidates::own_task` meets its contract: the number of the task is that of the pair. Assumes nothing.
use Rattle.std.proofs.Common.{arith, sym}
use Rattle.hungarian.proofs.Gains.{task_at}
use Rattle.candidates.proofs.Weighing.{some_task}
use Rattle.candidates.proofs.own_task.Goals as goal

pub unwrap-requires : goal.unwrap-requires
unwrap-requires c = some_task c.args.pairs.now.tasks c.args.carrier.0 (omega arith) c.requires.1

pub returns : goal.returns
returns c =
    let own = task_at c.args.pairs.now.tasks c.args.carrier.0 _ (omega arith) c.unwrap.ensures in
    (sym own, omega (arith, own, c.requires.1))
