-- The chain from the directory's end is the chain from `end` of the pairs that are left.
use Rattle.std.proofs.Common.{◌≡◌, ◌≤◌, ◌+◌, ◌*◌, ◌-◌}
use Rattle.deck.specs.Sheet.{count_of, pairs_for, directory_end, chained}
use Rattle.sheet_causes.proofs.pairs_chained.Given as goal

abbrev pub invariant-loop-k : goal.invariant-loop-k
invariant-loop-k l =
    (l.end ≤ 4096 + 65536 * l.k)
    × (chained l.s (pairs_for (count_of l.s)) 0 (directory_end l.s) ≡ chained l.s (pairs_for (count_of l.s) - l.k) l.k l.end)
