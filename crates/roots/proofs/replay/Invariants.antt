-- `replay` meets its contract: the tournament is played but for number at. Assumes nothing.
use Rattle.std.proofs.Common.{◌≡◌, length}
use Rattle.roots.proofs.Replaying.{Replaying}
use Rattle.roots.proofs.replay.Given as goal

abbrev pub invariant-loop-at : goal.invariant-loop-at
invariant-loop-at l = (length l.work ≡ length l.initial.work) × Replaying l.initial.work l.work l.latest l.at

abbrev pub decreases-loop-at : goal.decreases-loop-at
decreases-loop-at l = l.at
