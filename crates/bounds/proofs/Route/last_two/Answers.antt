-- The last two labels have one layer. Assumes nothing.
use Rattle.std.proofs.Common.{arith, sym}
use Rattle.bounds.proofs.Levels.{goal_small, two_levels}
use Rattle.bounds.proofs.Route.last_two.Goals as goal

pub layer-last-requires : goal.layer-last-requires
layer-last-requires c =
    rw c.all-goals.ensures (goal_small _ _ _ c.args.self.now.given c.args.self.now.sized.0 c.args.self.now.sized.1 _ c.args.self.now.goals_in_place _ (omega (arith, c.args.self.now.goals_in_place.many)))

pub returns : goal.returns
returns c =
    two_levels _ _ _ c.args.self.now.given c.args.self.now.sized.0 c.args.self.now.sized.1 _ c.args.self.now.goals_in_place _ (sym c.args.self.now.goals_in_place.many) _ _ _ _ c.requires
    (rw c.all-goals.ensures at c.layer-last.ensures) (rw c.all-goals.ensures at c.store.ensures) (rw c.all-goals.ensures at c.store-2.ensures)
