-- `board::gate_board` meets its contract: the search's promise, and the lines of its answer. Assumes nothing.
use Rattle.board.proofs.Called.{output_written, board_right}
use Rattle.board.proofs.gate_board.Goals as goal

pub lines_of-lines-requires : goal.lines_of-lines-requires
lines_of-lines-requires c =
    let call = c.search-answer in
    output_written call.result call.ensures.call call.auto.out

pub returns-clause-stands : goal.returns-clause-stands
returns-clause-stands c =
    let call = c.search-answer in
    let lines = c.lines_of-lines.ensures in board_right call.result call.ensures.call call.ensures.right lines
