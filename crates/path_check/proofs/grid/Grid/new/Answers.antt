-- The grid of an accepted sheet has a byte for each place. Assumes nothing.
use Rattle.std.proofs.Common.{arith}
use Rattle.sheet.proofs.Accepted.{grid_length}
use Rattle.path_check.proofs.grid.Grid.new.Goals as goal

pub invariant_of-result : goal.invariant_of-result
invariant_of-result c = record {
  of_sheet = record { across = c.width.ensures.value; bytes = c.stretch.ensures.result_value; whole = rw c.stretch.ensures.result_value (grid_length _ c.args.sheet.accepted) };
  has_columns = omega arith;
}
