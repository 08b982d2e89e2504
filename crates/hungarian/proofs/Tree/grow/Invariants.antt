-- `hungarian::Tree::grow` meets its contract: the columns are those of the tree in each turn, and each turn has one column fewer
-- outside the tree. Assumes nothing.
use Rattle.std.proofs.Common.{◌≡◌}
use Rattle.hungarian.specs.Solving.{task_numbers, carrier_numbers, marks, nears, froms, unmarked, Solved, Grown}
use Rattle.hungarian.proofs.Tree.grow.Given as goal

abbrev pub invariant-loop-next : goal.invariant-loop-next
invariant-loop-next l = let t = l.initial.self in (
    (l.self.problem ≡ t.problem) × (l.self.root ≡ t.root)
    × Solved t.problem.count t.problem.weights.now t.root.0 l.prices.rows l.prices.columns (task_numbers l.pairs.tasks) (carrier_numbers l.pairs.carriers)
    × Grown t.problem.count t.problem.weights.now t.root.0 l.prices.rows l.prices.columns (task_numbers l.pairs.tasks) (carrier_numbers l.pairs.carriers) (marks l.self.columns) (nears l.self.columns) (froms l.self.columns) l.self.total l.row.0)

abbrev pub decreases-loop-next : goal.decreases-loop-next
decreases-loop-next l = unmarked (marks l.self.columns)
