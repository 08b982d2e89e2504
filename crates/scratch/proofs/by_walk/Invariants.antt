-- `by_walk` meets its contract: before the time `from` no path finishes, and nothing is written. Assumes nothing.
use Rattle.std.proofs.Common.{◌≡◌}
use Rattle.passes.specs.Ready.{Early}
use Rattle.scratch.proofs.by_walk.Given as goal

abbrev pub invariant-loop : goal.invariant-loop
invariant-loop l =
    let e = l.fn.errand in
    Early e.sheet.now.bytes.now e.carrier e.task e.records.now l.from × (l.out ≡ l.initial.out)
