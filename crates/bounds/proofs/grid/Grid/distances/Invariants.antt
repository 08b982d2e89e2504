-- The queue takes at most 1024 places, so the search ends. Assumes nothing.
use Rattle.std.proofs.Common.{◌-◌}
use Rattle.bounds.proofs.grid.Grid.distances.Given as goal

abbrev pub decreases-loop-p : goal.decreases-loop-p
decreases-loop-p l = 1024 - l.queue.head
