-- `Text::spaced` meets its contract: the first number is written, and of the others those up to the index. Assumes nothing.
use Rattle.std.proofs.Common.{take}
use Rattle.deck.specs.Lists.{each}
use Rattle.listing.specs.Appends.{Appends}
use Rattle.listing.proofs.Lines.{spaced_out}
use Rattle.listing.proofs.text.Text.spaced.Given as goal

abbrev pub invariant-loop-other : goal.invariant-loop-other
invariant-loop-other l = Appends l.initial.self (each spaced_out (take l.other-index l.others)) l.self
