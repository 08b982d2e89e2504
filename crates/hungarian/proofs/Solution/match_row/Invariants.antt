-- `hungarian::Solution::match_row` meets its contract: the way back has at most as many steps as the tree has columns. Assumes nothing.
use Rattle.std.proofs.Common.{◌≤◌, ◌≡◌, ◌-◌}
use Rattle.meaning.specs.Meaning.{◌at◌}
use Rattle.prices.specs.Square.{cell}
use Rattle.hungarian.specs.Solving.{Within, task_numbers, carrier_numbers, froms, Way}
use Rattle.hungarian.proofs.Solution.match_row.Given as goal

abbrev pub invariant-loop : goal.invariant-loop
invariant-loop l =
    (l.counter ≤ 12) × Way l.problem.count (cell l.problem.weights.now) l.fn.row.0 (◌at◌ l.self.prices.rows) (◌at◌ l.self.prices.columns) (◌at◌ (froms l.tree.columns)) (◌at◌ (task_numbers l.self.pairs.tasks)) (◌at◌ (carrier_numbers l.self.pairs.carriers)) l.task.0 l.counter
    × Within l.problem.count l.self.pairs × (l.self.prices ≡ l.initial.self.prices)

abbrev pub decreases-loop : goal.decreases-loop
decreases-loop l = 12 - l.counter
