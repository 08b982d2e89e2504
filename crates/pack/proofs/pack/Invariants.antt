-- The first k words are written. Assumes nothing.
use Rattle.std.proofs.Common.{◌≡◌, take}
use Rattle.pack.specs.Pack.{tab, word_at}
use Rattle.pack.proofs.pack.Given as goal

abbrev pub invariant-loop-k : goal.invariant-loop-k
invariant-loop-k l = take l.k l.out ≡ tab (word_at l.w l.last l.path) l.k
