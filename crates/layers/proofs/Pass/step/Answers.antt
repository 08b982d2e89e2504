-- `Pass::step` meets its contract: the labels advanced, those on barred places taken away, the others raised. Assumes nothing.
use Rattle.bars.specs.Ways.{is_back}
use Rattle.layers.proofs.Advancing.{all_stepped}
use Rattle.layers.proofs.Pass.step.Goals as goal

pub returns : goal.returns
returns c =
    let s = c.args.self.now in
    let h = s.chains.now in
    all_stepped s.size.width s.size.height s.mask.now h.records.now h.carrier.0 c.args.t c.args.on (is_back s.direction) s.goals.now _ c.args.src.now c.args.dst.now s.size.wide.0
    c.advance.ensures c.clear.ensures c.raise.ensures
