-- `candidates::listed` meets its contract. Assumes nothing.
use Rattle.std.proofs.Common.{◌≡◌, take}
use Rattle.hungarian.specs.Solving.{task_numbers}
use Rattle.candidates.proofs.listed.Given as goal

abbrev pub invariant-loop-i : goal.invariant-loop-i
invariant-loop-i l = take l.i l.number-items ≡ take l.i (task_numbers l.pairs.tasks)
