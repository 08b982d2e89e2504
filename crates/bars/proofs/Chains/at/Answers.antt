-- `Chains::at` meets its contract: a walk begins at the last record of the time. Assumes nothing.
use Rattle.std.proofs.Common.{sym}
use Rattle.bars.specs.Bars.{count_in}
use Rattle.bars.proofs.Walks.{walk_first, ours_chain}
use Rattle.bars.proofs.Chains.at.Goals as goal

pub invariant_of-result : goal.invariant_of-result
invariant_of-result c =
    let s = c.args.self.now in
    let w = walk_first s.records.now s.carrier.0 c.args.t s.heads s.links.now s.chained c.requires c.from.ensures in
    record { within = w.within; own = w.own }

pub returns : goal.returns
returns c =
    let s = c.args.self.now in
    rw (c.from.ensures, s.chained.head c.args.t c.requires) (sym (ours_chain s.records.now s.carrier.0 c.args.t (count_in s.records.now)))
