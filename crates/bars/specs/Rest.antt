-- What a walk along the constraints of a time has left. Assumes nothing.
use Rattle.std.specs.Prelude.{List}
use Rattle.deck.specs.declared.Constraint.{Constraint}
use Rattle.bars.specs.Bars.{ours}
use Rattle.bars.specs.declared.AtTime.{AtTime}

abbrev pub rest_of : AtTime → List Constraint
rest_of s = ours s.chains.now.records.now s.chains.now.carrier.0 s.t s.next
