-- `Walk::dive` meets its contract. Along its loop no way that was tried leads on, so the first that does is the first of the places
-- around. Assumes nothing.
use Rattle.std.proofs.Common.{ℕ, ◌-◌, ◌<◌, ◌≡◌, T}
use Rattle.passes.specs.Courses.{sheet_of, carrier_of, bars_of}
use Rattle.first_walk.specs.Walk.{goes_by}
use Rattle.first_walk.specs.Steps.{Remembers}
use Rattle.first_walk.proofs.Walk.+dive.Given as goal

abbrev pub decreases-dive : goal.decreases-dive
decreases-dive l = l.self.now.end - l.at.time

abbrev pub invariant-loop-way : goal.invariant-loop-way
invariant-loop-way l =
    let w = l.self.course.now in
    (l.out ≡ l.initial.out) × Remembers l.self l.tries.failed.codes
    × ((y : ℕ) → y < l.way-index → ¬ T (goes_by (sheet_of w) (carrier_of w) w.task (bars_of w) l.self.end l.at.time l.at.place l.at.visited y))
