-- The paths of the first i carriers are written. Assumes nothing.
use Rattle.std.proofs.Common.{◌≡◌}
use Rattle.deck.specs.Lists.{flat}
use Rattle.deck.specs.Calls.{overwrite}
use Rattle.nodes.specs.Nodes.{paths_in}
use Rattle.nodes.proofs.write_paths.Given as goal

abbrev pub invariant-loop-i : goal.invariant-loop-i
invariant-loop-i l = l.out ≡ overwrite (flat (paths_in l.w l.last l.fn.starts l.i l.record)) l.initial.out
