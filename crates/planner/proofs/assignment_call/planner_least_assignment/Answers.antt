-- The sum is one of at most twelve entries.
use Rattle.std.proofs.Common.{arith}
use Rattle.planner.proofs.Exported.{kind_small}
use Rattle.planner.proofs.assignment_call.planner_least_assignment.Goals as goal

pub assignment_numbers-requires : goal.assignment_numbers-requires
assignment_numbers-requires c =
    kind_small c.least_assignment-answer.result c.least_assignment-answer.ensures.call (λ k. omega (arith, c.shared_slice_known-1.given k))
