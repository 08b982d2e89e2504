-- One label more is in the table. Assumes nothing.
use Rattle.std.proofs.Common.{arith, ℕ, ap, ◌+◌, ◌*◌, get_or}
use Rattle.bounds.proofs.Levels.{one_level}
use Rattle.bounds.proofs.Route.level.Goals as goal

pub returns : goal.returns
returns c =
    one_level _ _ _ c.args.self.now.given c.args.self.now.sized.0 c.args.self.now.sized.1 _ c.args.self.now.goals_in_place c.args.k _ _ _ _ (omega (arith, c.args.self.now.goals_in_place.many)) c.requires.1
    (ap (λ (z : ℕ). get_or c.args.table.now (1024 * (c.args.k + 1) + z) 0) c.goal.ensures.value) (rw c.all.ensures at c.layer-layer.ensures) c.store.ensures
