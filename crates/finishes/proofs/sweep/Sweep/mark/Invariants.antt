-- `Sweep::mark` meets its contract: the entries passed are marked. Assumes nothing.
use Rattle.std.proofs.Common.{◌≡◌, length}
use Rattle.finishes.specs.Entries.{starts_in, steps_in}
use Rattle.finishes.proofs.Marks.{MarksTo}
use Rattle.finishes.proofs.sweep.Sweep.mark.Given as goal

abbrev pub invariant-loop-entry : goal.invariant-loop-entry
invariant-loop-entry l =
    (starts_in l.entries ≡ starts_in l.initial.entries)
    × MarksTo l.layer (length l.self.pass.goals.now) l.k l.entry-index (starts_in l.initial.entries) (steps_in l.initial.entries) (steps_in l.entries)
