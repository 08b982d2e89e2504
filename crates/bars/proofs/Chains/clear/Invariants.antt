-- `Chains::clear` meets its contract: what is left to clear comes to the whole. Assumes nothing.
use Rattle.bars.specs.Bars.{ours_at, place_slot}
use Rattle.bars.specs.Rest.{rest_of}
use Rattle.bars.proofs.Slots.{Clearing, clear_all}
use Rattle.bars.proofs.Chains.clear.Given as goal

abbrev pub invariant-loop-bar : goal.invariant-loop-bar
invariant-loop-bar l =
    let slot = place_slot l.size.width in
    Clearing 1156 slot l.size.width (rest_of l.bar-iterator) l.layer (clear_all 1156 slot (ours_at l.fn.self.records.now l.fn.self.carrier.0 l.t) l.initial.layer)
