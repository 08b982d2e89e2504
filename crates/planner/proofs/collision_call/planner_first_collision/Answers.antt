-- `planner::collision_call::planner_first_collision` meets its contract: the call's answer as numbers. Assumes nothing.
use Rattle.std.proofs.Common.{arith}
use Rattle.planner.proofs.Sizes.{collision_small}
use Rattle.planner.proofs.collision_call.planner_first_collision.Goals as goal

pub collision_numbers-requires : goal.collision_numbers-requires
collision_numbers-requires c =
    collision_small c.args.m c.args.h c.args.paths.now (λ k. omega (arith, c.shared_slice_known-1.given k)) (omega (arith, c.ranges.h)) (omega (arith, c.ranges.m))
    c.first_collision-answer.result c.first_collision-answer.ensures.meant
