-- At each time the goals that are left are those that the whole path leaves. Assumes nothing.
use Rattle.std.proofs.Common.{◌≤◌, ◌≡◌, length, drop}
use Rattle.deck.specs.Sheet.{words}
use Rattle.deck.specs.Paths.{left}
use Rattle.path_check.proofs.visits_all.Given as goal

abbrev pub invariant-loop-u : goal.invariant-loop-u
invariant-loop-u l =
    (l.k ≤ length (words l.goals)) × (left l.path (words l.goals) ≡ left (drop l.u-index l.path) (drop l.k (words l.goals)))
