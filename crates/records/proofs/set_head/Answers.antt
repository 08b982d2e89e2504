-- The link and the five words of the constraint. Assumes nothing.
use Rattle.std.proofs.Common.{◌∙◌}
use Rattle.records.proofs.Writes.{origin_wrote}
use Rattle.records.proofs.set_head.Goals as goal

pub returns : goal.returns
returns c = origin_wrote c.args.work.now _ c.args.n c.args.head.link c.args.head.constraint c.requires.0 (c.copy_from_slice.ensures.after ∙ c.constraint_words.ensures)
