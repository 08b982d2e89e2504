-- Document 01, "The job sheet": how many bytes an accepted sheet has at most. Assumes nothing.
use Rattle.std.specs.Prelude.{ℕ, ◌+◌, ◌*◌}
use Rattle.deck.specs.Sheet.{end_of_pairs}
use Rattle.deck.specs.Calls.{most_pairs}

-- the header and the directory, m at most 12; "Grid: w × h bytes", each at most 32; "m two-byte places"; m tasks of "2 to 16"
abbrev pub longest : ℕ
longest = end_of_pairs most_pairs + 32 * 32 + 2 * 12 + 12 * 16
