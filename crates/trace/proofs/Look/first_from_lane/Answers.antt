-- `Look::first_from_lane` meets its contract: the ways are asked one after the other. Assumes nothing.
use Rattle.std.proofs.Common.{rules}
use Rattle.std.proofs.lemmas.Iterator.{YieldsList-from_slice}
use Rattle.std.proofs.lemmas.Iterator.Consumers.{YieldsList-from_copied}
use Rattle.std.proofs.lemmas.Iterator.Search.{find_from_yields_List}
use Rattle.bars.specs.Ways.{number_of, all_ways}
use Rattle.trace.specs.Along.{view, leads_on}
use Rattle.trace.proofs.Looking.{first_found}
use Rattle.trace.proofs.Look.first_from_lane.Goals as goal

pub returns : goal.returns
returns c =
    let s = c.args.self.now in
    let ok = leads_on (view s.kept.now s.t s.u s.p s.at s.k) in
    first_found ok _ (find_from_yields_List (λ x. ok (number_of x)) c.find.new.self _ _ c.find.ensures.ran (YieldsList-from_copied (YieldsList-from_slice all_ways (cc))) (λ x b q g. search rules))
