-- `Look::first` meets its contract: a place that is no lane may be left by every way. Assumes nothing.
use Rattle.std.proofs.Common.{arith}
use Rattle.trace.specs.Along.{view}
use Rattle.trace.proofs.Looking.{first_open}
use Rattle.trace.proofs.Look.first.Goals as goal

pub returns-then-self : goal.returns-then-self
returns-then-self c =
    let s = c.args.self.now in
    first_open (view s.kept.now s.t s.u s.p s.at s.k) _ (omega (arith, c.if-self.true)) c.first_way.ensures
