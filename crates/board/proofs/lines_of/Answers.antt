-- Each arm has the lines of its case.
use Rattle.std.proofs.Common.{rules}
use Rattle.board_lines.specs.Board.{lines_for}
use Rattle.board.proofs.lines_of.Goals as goal

pub returns-in-Ok-Plan : goal.returns-in-Ok-Plan
unfolding lines_for
returns-in-Ok-Plan c = search rules

pub returns-in-Ok-NoPlan : goal.returns-in-Ok-NoPlan
unfolding lines_for
returns-in-Ok-NoPlan c = search rules
