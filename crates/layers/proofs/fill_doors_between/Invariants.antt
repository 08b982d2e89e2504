-- `fill_doors_between` meets its contract: the ways passed have their bytes. Assumes nothing.
use Rattle.std.proofs.Common.{◌≤◌}
use Rattle.bars.specs.Ways.{is_back}
use Rattle.layers.specs.Step.{DoorsTo}
use Rattle.layers.proofs.fill_doors_between.Given as goal

abbrev pub invariant-loop-way : goal.invariant-loop-way
invariant-loop-way l = (l.way-index ≤ 5) × DoorsTo l.way-index l.mask l.row l.end (is_back l.direction) l.doors
