-- The words of the earlier record stand in the later one. Assumes nothing.
use Rattle.records.proofs.Writes.{copy_wrote}
use Rattle.records.proofs.copy_record.Goals as goal

pub returns : goal.returns
returns c = copy_wrote c.args.work.now _ c.args.from c.args.to c.requires.0 c.requires.1 c.copy_within.ensures.after
