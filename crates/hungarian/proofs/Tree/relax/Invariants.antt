-- `hungarian::Tree::relax` meets its contract. Assumes nothing.
use Rattle.std.proofs.Common.{◌≤◌, ◌≡◌}
use Rattle.hungarian.specs.Solving.{marks, nears, Closest}
use Rattle.hungarian.proofs.Columns.{RelaxedTo}
use Rattle.hungarian.proofs.Tree.relax.Given as goal

abbrev pub invariant-loop-j : goal.invariant-loop-j
invariant-loop-j l = let t = l.initial.self in (
    (l.j ≤ t.problem.count)
    × (l.self.problem ≡ t.problem) × (l.self.root ≡ t.root) × (l.self.total ≡ t.total)
    × RelaxedTo t.problem.weights.now l.prices.rows l.prices.columns t.total l.row.0 t.columns l.j l.self.columns
    × Closest (marks t.columns) (nears l.self.columns) l.j l.nearest)
