-- The words of a slot, filled. Assumes nothing.
use Rattle.std.proofs.Common.{◌∙◌}
use Rattle.records.proofs.Writes.{slot_filled}
use Rattle.records.proofs.put_slot.Goals as goal

pub returns : goal.returns
returns c = rw c.in-Some.is (slot_filled c.args.words.now _ _ 1 _ c.requires (c.copy_from_slice.ensures.after ∙ c.as_words-tasks.ensures))
