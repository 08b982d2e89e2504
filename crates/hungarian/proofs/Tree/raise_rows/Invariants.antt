-- `hungarian::Tree::raise_rows` meets its contract. Assumes nothing.
use Rattle.std.proofs.Common.{◌≤◌}
use Rattle.hungarian.specs.Solving.{task_numbers, marks, nears, row_gain}
use Rattle.hungarian.proofs.Gains.{RaisedTo}
use Rattle.hungarian.proofs.Tree.raise_rows.Given as goal

abbrev pub invariant-loop-x : goal.invariant-loop-x
invariant-loop-x l =
    (l.x ≤ l.self.problem.count) × RaisedTo (row_gain l.self.problem.count l.self.root.0 (task_numbers l.pairs.tasks) (marks l.self.columns) (nears l.self.columns) l.self.total) l.initial.price-items l.x l.price-items
