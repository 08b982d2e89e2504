-- `put_column` meets its contract: the entries passed are put. Assumes nothing.
use Rattle.finishes.specs.Entries.{steps_in}
use Rattle.finishes.proofs.Tabled.{Put}
use Rattle.finishes.proofs.put_column.Given as goal

abbrev pub invariant-loop-i : goal.invariant-loop-i
invariant-loop-i l = Put l.task.0 l.i (steps_in l.entries) l.initial.table l.table
