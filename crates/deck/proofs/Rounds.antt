-- The worked rounds hold of the definitions, by computation. Assumes nothing.
use Rattle.std.proofs.Common.{refl, sym, subst, List, [], ◌∷◌}
use Rattle.deck.proofs.Members.{Mem, here, there, not-nil}
use Rattle.deck.specs.Ranks.{insert, sort_by}
use Rattle.deck.specs.Sheet.{words, good_header, chained, goals_size, good_directory, good_grid, good_starts, good_goals, good_last_goals, cause, sheet_cause}
use Rattle.deck.specs.Paths.{one_apart, next_to, may_leave, beside, may_step, steps, walks, visit, left, finish, serves, keeps, paths_under, least_path}
use Rattle.deck.specs.Collisions.{pairs, place_collides, move_collides, collisions_at, collisions, first_collision}
use Rattle.deck.specs.Assignments.{arrangements, assignments, entries_from, entries, sum_of, allowed, assignments_in_order, least_assignment, entry_of, table_of}
use Rattle.deck.specs.Search.{searched}
use Rattle.deck.specs.Planner.{sides, sides_of, problem, plan_for, or_dark, round_of}
use Rattle.deck.specs.PlanCheck.{follows, is_path, are_paths, is_assignment, is_plan, plan_check}
use Rattle.deck.specs.Calls.{workspace_for, workspace_of, goals_cause, goals_call, constraints_of, good_record, good_records, path_cause, path_found, path_written, path_answer_for, path_output_for, assignment_cause, least_for, sum_found, assignment_answer_for, assignment_tasks, collision_cause, collision_call, search_cause, search_found, search_written, search_answer_for, search_output_for, search_answer, search_output, check_cause, check_call}
use Rattle.deck.specs.Listing.{digits, decimal, text_from, text, spaced, carrier_line, carrier_lines, listing_for, listing}
use Rattle.deck.specs.Rounds.{Round, answered, Holds}
use Rattle.deck.specs.Starred.{starred}
use Rattle.deck.specs.Further.{further}
use Rattle.deck.specs.Lanes.{lanes}
use Rattle.deck.specs.Dark.{dark}
use Rattle.deck.specs.Orders.{orders}

abbrev Every : List Round → Type 0
Every [] = Unit {0}
Every (r ∷ rs) = Holds r × Every rs

every_round : Every starred × Every further × Every lanes × Every dark × Every orders
unfolding words good_header chained goals_size good_directory good_grid good_starts good_goals good_last_goals cause sheet_cause one_apart next_to may_leave beside may_step steps walks visit left finish serves keeps paths_under least_path pairs place_collides move_collides collisions_at collisions first_collision arrangements assignments entries_from entries sum_of allowed assignments_in_order least_assignment entry_of table_of searched sides sides_of problem plan_for or_dark round_of follows is_path are_paths is_assignment is_plan plan_check workspace_for workspace_of goals_cause goals_call constraints_of good_record good_records path_cause path_found path_written path_answer_for path_output_for assignment_cause least_for sum_found assignment_answer_for assignment_tasks collision_cause collision_call search_cause search_found search_written search_answer_for search_output_for search_answer search_output check_cause check_call digits decimal text_from text spaced carrier_line carrier_lines listing_for listing insert sort_by answered
every_round = (
  (refl, (refl, (refl, (refl, (refl, (refl, (refl, (refl, (refl, (refl, (refl, (refl, (refl, (refl, (refl, (refl, (refl, (refl, (refl, tt))))))))))))))))))),
  (refl, (refl, (refl, (refl, (refl, (refl, (refl, (refl, (refl, (refl, (refl, (refl, (refl, (refl, (refl, (refl, (refl, (refl, (refl, (refl, (refl, (refl, (refl, (refl, (refl, (refl, (refl, (refl, (refl, (refl, (refl, (refl, (refl, (refl, (refl, (refl, (refl, (refl, (refl, (refl, (refl, (refl, (refl, (refl, (refl, (refl, (refl, (refl, (refl, (refl, (refl, (refl, (refl, (refl, (refl, (refl, (refl, (refl, (refl, (refl, (refl, (refl, (refl, (refl, (refl, (refl, (refl, (refl, (refl, (refl, (refl, (refl, (refl, (refl, (refl, (refl, tt)))))))))))))))))))))))))))))))))))))))))))))))))))))))))))))))))))))))))))),
  (refl, (refl, (refl, (refl, (refl, (refl, (refl, (refl, (refl, (refl, (refl, (refl, (refl, (refl, (refl, (refl, (refl, (refl, (refl, (refl, (refl, (refl, (refl, (refl, (refl, (refl, (refl, tt))))))))))))))))))))))))))),
  (refl, (refl, (refl, (refl, (refl, (refl, (refl, (refl, (refl, (refl, (refl, (refl, (refl, (refl, (refl, (refl, (refl, tt))))))))))))))))),
  (refl, (refl, (refl, (refl, tt)))),
)

every_holds : (rs : List Round) → Every rs → (r : Round) → Mem r rs → Holds r
every_holds [] e r m = absurd (not-nil m)
every_holds (q ∷ rs) e r (here h) = subst Holds (sym h) e.0
every_holds (q ∷ rs) e r (there m) = every_holds rs e.1 r m

-- the starred rounds
pub starred_rounds : (r : Round) → Mem r starred → Holds r
starred_rounds = every_holds starred every_round.0

-- the further ones
pub further_rounds : (r : Round) → Mem r further → Holds r
further_rounds = every_holds further every_round.1

-- those of document 02, "One-way lanes"
pub lane_rounds : (r : Round) → Mem r lanes → Holds r
lane_rounds = every_holds lanes every_round.2

-- those of document 02, "A dark house"
pub dark_rounds : (r : Round) → Mem r dark → Holds r
dark_rounds = every_holds dark every_round.3

-- the orders of lists
pub order_rounds : (r : Round) → Mem r orders → Holds r
order_rounds = every_holds orders every_round.4
