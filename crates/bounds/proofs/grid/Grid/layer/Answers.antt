-- What is returned passed the test, or is zeros. Assumes nothing.
use Rattle.bounds.proofs.Test.{zero_layer}
use Rattle.bounds.proofs.grid.Grid.layer.Goals as goal

pub returns-then-base-layer : goal.returns-then-base-layer
returns-then-base-layer c = zero_layer _ _ _ _ _
