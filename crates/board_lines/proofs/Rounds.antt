-- The worked boards hold of the definitions, by computation. Assumes nothing.
use Rattle.std.proofs.Common.{List, [], ◌∷◌, refl}
use Rattle.deck.specs.Ranks.{insert, sort_by}
use Rattle.deck.specs.Sheet.{words}
use Rattle.deck.specs.Paths.{finish}
use Rattle.board_lines.specs.Board.{plan_lines, lines_for}
use Rattle.board_lines.specs.Rounds.{BoardRound, Holds, boards}

abbrev Every : List BoardRound → Type 0
Every [] = Unit {0}
Every (r ∷ rs) = Holds r × Every rs

pub every_board : Every boards
unfolding insert sort_by words finish plan_lines lines_for
every_board = (refl, (refl, (refl, (refl, (refl, (refl, (refl, (refl, (refl, tt)))))))))
