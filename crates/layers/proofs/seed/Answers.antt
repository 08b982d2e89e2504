-- `seed` meets its contract: one place alone, taken away where it is barred, and raised. Assumes nothing.
use Rattle.std.proofs.Common.{refl}
use Rattle.layers.proofs.Advancing.{all_seeded}
use Rattle.layers.proofs.seed.Goals as goal

pub returns : goal.returns
returns c =
    let h = c.args.chains.now in
    all_seeded c.args.size.width h.records.now h.carrier.0 c.args.on c.args.goals.now _ c.args.p c.args.size.wide.0 c.requires.1 refl c.clear.ensures c.raise.ensures
