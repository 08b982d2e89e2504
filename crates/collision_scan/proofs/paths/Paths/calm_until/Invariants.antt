-- Before t there is no collision, and the marks are those of the time before. Assumes nothing.
use Rattle.std.proofs.Common.{suc, ◌-◌}
use Rattle.collision_scan.proofs.Marks.{Scanned}
use Rattle.collision_scan.proofs.paths.Paths.calm_until.Given as goal

abbrev pub invariant-loop-t : goal.invariant-loop-t
invariant-loop-t l = Scanned l.self.words.now (suc l.self.last) l.self.count (l.t - 1) l.t l.seen
