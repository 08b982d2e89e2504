-- `Goals::of` meets its contract: the goals passed are padded. Assumes nothing.
use Rattle.std.proofs.Common.{◌≡◌, ◌≤◌, length, get_or}
use Rattle.deck.specs.Sheet.{read, goals_of}
use Rattle.bars.specs.Padded.{pad_of}
use Rattle.passes.proofs.Turning.{Each}
use Rattle.passes.proofs.task_goals.Goals.of.Given as goal

abbrev pub invariant-loop-k : goal.invariant-loop-k
invariant-loop-k l =
    (l.k ≤ l.count) × (length l.places ≡ 8)
    × Each (λ m. pad_of (read l.sheet.bytes.now).width (get_or (goals_of (read l.sheet.bytes.now) l.task) m 0)) l.places l.k
