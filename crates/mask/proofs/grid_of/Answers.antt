-- `mask::grid_of` meets its contract: the stretch of the grid. Assumes nothing.
use Rattle.std.proofs.Common.{arith}
use Rattle.mask.proofs.Masking.{grid_inside, grid_part}
use Rattle.mask.proofs.grid_of.Goals as goal

pub slice_bounds-result-end : goal.slice_bounds-result-end
slice_bounds-result-end c =
    let s = c.args.sheet.now in omega (arith, grid_inside s.bytes.now s.accepted, c.grid_offset-from.ensures.value, c.area.ensures.value)

pub returns : goal.returns
returns c = let s = c.args.sheet.now in grid_part s.bytes.now s.accepted c.grid_offset-from.ensures.value c.area.ensures.value
