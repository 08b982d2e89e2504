-- `listing::carriers` meets its contract: the lines of the carriers up to i are written. Assumes nothing.
use Rattle.deck.specs.Lists.{below, each}
use Rattle.listing.specs.Appends.{Appends}
use Rattle.listing.proofs.Lines.{line_at}
use Rattle.listing.proofs.carriers.Given as goal

abbrev pub invariant-loop-i : goal.invariant-loop-i
invariant-loop-i l = Appends l.initial.text (each (line_at l.s l.tasks l.paths) (below l.i)) l.text
