-- The word is the number of the digits from t on. Assumes nothing.
use Rattle.std.proofs.Common.{◌≡◌, ◌+◌, ◌-◌, ◌≤◌}
use Rattle.pack.specs.Pack.{step_at, value}
use Rattle.pack.proofs.chunk.Given as goal

abbrev pub invariant-loop-t : goal.invariant-loop-t
invariant-loop-t l = record { above : l.from ≤ l.t; within : l.t ≤ l.from + l.n; digits : l.word ≡ value (step_at l.w l.path) l.t (l.from + l.n - l.t) }
