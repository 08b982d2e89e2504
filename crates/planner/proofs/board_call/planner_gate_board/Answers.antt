-- `planner::board_call::planner_gate_board` meets its contract: the call's answer and lines as numbers. Assumes nothing.
use Rattle.planner.proofs.Exported.{search_answer_small, lines_small}
use Rattle.planner.proofs.board_call.planner_gate_board.Goals as goal

pub search_numbers-requires : goal.search_numbers-requires
search_numbers-requires c = let call = c.gate_board-board in search_answer_small call.result.answer call.ensures.call.searched

pub line_numbers-requires : goal.line_numbers-requires
line_numbers-requires c =
    let call = c.gate_board-board in
    lines_small call.result.answer call.result.lines call.ensures.call call.ensures.stands
