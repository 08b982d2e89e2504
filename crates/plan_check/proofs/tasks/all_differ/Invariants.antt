-- The numbers that are left differ where all do. Assumes nothing.
use Rattle.std.proofs.Common.{◌≡◌, length}
use Rattle.deck.specs.Lists.{distinct}
use Rattle.plan_check.proofs.tasks.all_differ.Given as goal

abbrev pub invariant-loop-x : goal.invariant-loop-x
invariant-loop-x l = distinct l.list ≡ distinct l.rest

abbrev pub decreases-loop-x : goal.decreases-loop-x
decreases-loop-x l = length l.rest
