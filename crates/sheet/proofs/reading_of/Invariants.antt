-- The first pairs are written.
use Rattle.std.proofs.Common.{◌≡◌, map, take}
use Rattle.deck.specs.Lists.{below}
use Rattle.deck.specs.Sheet.{pair_at}
use Rattle.sheet.proofs.reading_of.Given as goal

abbrev pub invariant-loop-k : goal.invariant-loop-k
invariant-loop-k l = take l.k l.pair-items ≡ map (pair_at l.s) (below l.k)
