-- `turns::expanded` meets its contract: what the expansion comes to, by the two constraints of the collision. Assumes nothing.
use Rattle.turns.proofs.expanded.Goals as goal

pub returns-in-Some-clause-turned : goal.returns-in-Some-clause-turned
returns-in-Some-clause-turned c = λ opened rest held. rw c.sides-first.ensures at (c.in-Some.ensures.grew opened rest c.args.node.cost held)
