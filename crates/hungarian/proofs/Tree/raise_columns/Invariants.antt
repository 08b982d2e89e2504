-- `hungarian::Tree::raise_columns` meets its contract. Assumes nothing.
use Rattle.std.proofs.Common.{◌≤◌}
use Rattle.meaning.specs.Meaning.{◌at◌}
use Rattle.hungarian.specs.Solving.{marks, nears, marked, gain_of}
use Rattle.hungarian.proofs.Gains.{RaisedTo}
use Rattle.hungarian.proofs.Tree.raise_columns.Given as goal

abbrev pub invariant-loop-y : goal.invariant-loop-y
invariant-loop-y l =
    (l.y ≤ l.self.problem.count) × RaisedTo (λ k. gain_of (marked (marks l.self.columns) k) (nears l.self.columns at k) l.self.total) l.initial.price-items l.y l.price-items
