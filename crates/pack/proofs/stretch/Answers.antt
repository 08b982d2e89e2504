-- A word of waits, or its steps. Assumes nothing.
use Rattle.std.proofs.Common.{arith}
use Rattle.pack.proofs.Loops.{waited}
use Rattle.pack.proofs.stretch.Goals as goal

pub returns-then-word-eq0 : goal.returns-then-word-eq0
returns-then-word-eq0 c = waited c.args.w c.args.p c.args.word _ _ (omega arith) c.if-word-eq0.true (c.fill.ensures.after (λ y e. e))
