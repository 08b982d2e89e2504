-- `hungarian::solve` meets its contract. Assumes nothing.
use Rattle.std.proofs.Common.{◌≤◌}
use Rattle.hungarian.specs.Solving.{task_numbers, carrier_numbers, Within, Solved}
use Rattle.hungarian.proofs.solve.Given as goal

abbrev pub invariant-loop-r : goal.invariant-loop-r
invariant-loop-r l =
    (l.r ≤ l.m) × Within l.m l.solution.pairs × Solved l.m l.weights l.r l.solution.prices.rows l.solution.prices.columns (task_numbers l.solution.pairs.tasks) (carrier_numbers l.solution.pairs.carriers)
