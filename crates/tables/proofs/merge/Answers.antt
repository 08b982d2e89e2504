-- `tables::merge` meets its contract. Assumes nothing.
use Rattle.std.proofs.Common.{refl}
use Rattle.prices.specs.Weights.{merged, place}
use Rattle.tables.proofs.Places.{places_right}
use Rattle.tables.proofs.merge.Goals as goal

pub returns : goal.returns
unfolding merged place
returns c = (rw (c.weigh.ensures.0, (places_right c.args.carrier.0 c.requires.0).0) refl, c.weigh.ensures.1)
