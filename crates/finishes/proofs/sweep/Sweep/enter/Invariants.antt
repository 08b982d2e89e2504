-- `Sweep::enter` meets its contract: where the pass is before the layer of k steps is marked. Assumes nothing.
use Rattle.std.proofs.Common.{◌≡◌}
use Rattle.finishes.specs.Entries.{starts_in, steps_in, Passing}
use Rattle.finishes.proofs.sweep.Sweep.enter.Given as goal

abbrev pub invariant-loop-k : goal.invariant-loop-k
invariant-loop-k l = Passing l.self.sheet.now.bytes.now l.self.task l.k l.src l.dst (steps_in l.entries) × (starts_in l.entries ≡ starts_in l.initial.entries)
