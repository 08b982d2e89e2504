-- Lines whose values fit words of 32 bits. Assumes nothing.
use Rattle.std.specs.Prelude.{ℕ, ◌<◌, List, get_or}
use Rattle.numbers.specs.Small.{word}
use Rattle.board_lines.specs.Board.{no_line}
use Rattle.board_lines.specs.declared.Line.{Line}

abbrev pub SmallLine : Line → Type 0
SmallLine l = (l.goal < word) × (l.carrier.0 < word) × (l.task.0 < word) × (l.finish < word)

abbrev pub SmallLines : List Line → Type 0
SmallLines ls = (k : ℕ) → SmallLine (get_or ls k no_line)
