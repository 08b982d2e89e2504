-- `hungarian::solve` meets its contract. Assumes nothing.
use Rattle.std.proofs.Common.{arith}
use Rattle.hungarian.proofs.Rounds.{nothing_solved, nothing_within}
use Rattle.hungarian.proofs.solve.Goals as goal

pub loop-r-init : goal.loop-r-init
loop-r-init c = (omega arith, nothing_within _, nothing_solved _ _ c.requires.0)
