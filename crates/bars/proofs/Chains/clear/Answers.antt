-- `Chains::clear` meets its contract: the slots of the constraints passed are cleared. Assumes nothing.
use Rattle.std.proofs.Common.{ap, ◌∙◌}
use Rattle.bars.specs.Bars.{place_slot, ours_at}
use Rattle.bars.specs.Rest.{rest_of}
use Rattle.bars.proofs.Records.{ours_on}
use Rattle.bars.proofs.Slots.{clearing_begins, first_on, one_cleared, all_cleared}
use Rattle.bars.proofs.Chains.clear.Goals as goal

pub loop-bar-init : goal.loop-bar-init
loop-bar-init c =
    let a = c.args in
    clearing_begins 1156 (place_slot a.size.width) a.size.width (ap rest_of c.into_iter-bar-iterator.ensures.into_iter_gives ∙ c.at-bar-items.ensures)
    (ours_on a.self.now.records.now a.self.now.carrier.0 a.t a.size.width c.requires.1) c.told-layer

pub place_slot-requires : goal.place_slot-requires
place_slot-requires c = let a = c.args in first_on 1156 (place_slot a.size.width) a.size.width c.loop-bar.invariant c.in-Some.ensures.steps

pub loop-bar-preserved : goal.loop-bar-preserved
loop-bar-preserved c =
    let a = c.args in one_cleared 1156 (place_slot a.size.width) a.size.width c.loop-bar.invariant c.in-Some.ensures.steps c.place_slot.ensures.0

pub returns : goal.returns
returns c =
    let a = c.args in
    all_cleared 1156 (place_slot a.size.width) a.size.width (ours_at a.self.now.records.now a.self.now.carrier.0 a.t) a.layer.now c.loop-bar.invariant c.told-layer c.in-None.ensures.steps.0
