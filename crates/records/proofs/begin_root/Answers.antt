-- A whole record. Assumes nothing.
use Rattle.std.proofs.Common.{◌∙◌, ◌*◌, ◌+◌, arith}
use Rattle.records.proofs.Writes.{lent_size, root_wrote}
use Rattle.records.proofs.begin_root.Goals as goal

pub returns : goal.returns
returns c =
    root_wrote c.args.work.now _ c.args.n _ c.requires.0
    (lent_size (512 * c.args.n) (512 * c.args.n + 512) _ c.args.work.now (omega arith) c.requires.0 c.root_record.auto.words ∙ omega arith) c.root_record.ensures
