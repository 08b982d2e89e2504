-- The marks of the carriers passed are those of t. Assumes nothing.
use Rattle.std.proofs.Common.{suc, ◌-◌}
use Rattle.collision_scan.proofs.Marks.{Marking}
use Rattle.collision_scan.proofs.paths.Paths.mark_places.Given as goal

abbrev pub invariant-loop-i : goal.invariant-loop-i
invariant-loop-i l = Marking l.self.words.now (suc l.self.last) l.self.count (l.t - 1) l.t l.i l.seen
