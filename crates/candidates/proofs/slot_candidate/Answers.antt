-- `candidates::slot_candidate` meets its contract. Assumes nothing.
use Rattle.candidates.proofs.Slots.{slot_first}
use Rattle.candidates.proofs.slot_candidate.Goals as goal

pub returns : goal.returns
returns c = slot_first _ _ _ _ _ _ c.requires.1 _ _ _ c.slot.ensures c.table.ensures c.first.ensures
