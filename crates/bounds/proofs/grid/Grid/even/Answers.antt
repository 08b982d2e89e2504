-- Either test is enough. Assumes nothing.
use Rattle.std.proofs.Common.{rules}
use Rattle.bounds.proofs.Test.{even_of}
use Rattle.bounds.proofs.grid.Grid.even.Goals as goal

pub returns-then-even_by : goal.returns-then-even_by
returns-then-even_by c = λ e. even_of (λ d m y r h t. search rules) (c.even_by.ensures e)

pub returns-else-even_by : goal.returns-else-even_by
returns-else-even_by c = λ e. even_of (λ d m y r h t. search rules) (c.even_by-else-even_by.ensures e)
