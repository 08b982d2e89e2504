-- Fourteen words of the slots. Assumes nothing.
use Rattle.records.proofs.Writes.{slot_wrote}
use Rattle.records.proofs.set_slot.Goals as goal

pub returns : goal.returns
returns c = slot_wrote c.args.work.now _ c.args.n c.args.j c.args.slot c.requires.0 c.requires.1 c.put_slot.auto.words c.put_slot.ensures
