-- The child's carrier is the one that the constraint binds. Assumes nothing.
use Rattle.std.proofs.Common.{arith}
use Rattle.nodes.proofs.make_child.Goals as goal

pub returns : goal.returns
returns c = λ d ew eh g. c.make_child_of.ensures d ew eh (rw c.bound_by.ensures g)
