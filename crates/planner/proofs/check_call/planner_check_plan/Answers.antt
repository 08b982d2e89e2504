-- The call's answer as numbers.
use Rattle.planner.proofs.Sizes.{check_small}
use Rattle.planner.proofs.check_call.planner_check_plan.Goals as goal

pub found_numbers-requires : goal.found_numbers-requires
found_numbers-requires c = check_small _ _ _ c.check_plan-answer.result c.check_plan-answer.ensures.meant
