-- `planner::search_call::planner_search` meets its contract: the call's answer as numbers. Assumes nothing.
use Rattle.planner.proofs.Exported.{search_answer_small}
use Rattle.planner.proofs.search_call.planner_search.Goals as goal

pub search_numbers-requires : goal.search_numbers-requires
search_numbers-requires c = search_answer_small c.search-answer.result c.search-answer.ensures.call
