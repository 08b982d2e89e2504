-- `turns::run` meets its contract: the state that is held at the start of each turn leads to the search's answer. Assumes nothing.
use Rattle.std.proofs.Common.{◌≡◌, ◌-◌, ◌≤◌, length}
use Rattle.expand.specs.Given.{sheet_of}
use Rattle.nodes.specs.Nodes.{Lows}
use Rattle.turns.proofs.Running.{Going}
use Rattle.turns.proofs.run.Given as goal

abbrev pub invariant-loop : goal.invariant-loop
invariant-loop l =
    (length l.work ≡ length l.initial.work) × (l.counter ≤ l.end) × Going l.given.sheet.now.bytes.now l.work l.made.nodes l.made.latest l.counter × Lows (sheet_of l.given).limit l.work l.made.nodes l.lows

abbrev pub decreases-loop : goal.decreases-loop
decreases-loop l = l.end - l.counter
