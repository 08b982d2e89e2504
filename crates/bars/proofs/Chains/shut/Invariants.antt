-- `Chains::shut` meets its contract: what is left to clear comes to the whole. Assumes nothing.
use Rattle.bars.specs.Ways.{is_back}
use Rattle.bars.specs.Bars.{ours_at, move_slot}
use Rattle.bars.specs.Rest.{rest_of}
use Rattle.bars.proofs.Slots.{Clearing, clear_all}
use Rattle.bars.proofs.Chains.shut.Given as goal

abbrev pub invariant-loop-bar : goal.invariant-loop-bar
invariant-loop-bar l =
    let slot = move_slot l.size.width (is_back l.direction) in
    Clearing 5780 slot l.size.width (rest_of l.bar-iterator) l.ways (clear_all 5780 slot (ours_at l.fn.self.records.now l.fn.self.carrier.0 l.t) l.initial.ways)
