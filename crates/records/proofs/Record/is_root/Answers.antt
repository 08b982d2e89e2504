-- The link. Assumes nothing.
use Rattle.std.proofs.Common.{ℕ, ap, arith, eqb}
use Rattle.records.proofs.Fields.{read_word}
use Rattle.records.proofs.Record.is_root.Goals as goal

pub returns : goal.returns
returns c = ap (λ (x : ℕ). eqb x 0) (read_word _ c.self.view_is 0 0 0 (omega arith) (omega arith) (omega arith))
