-- `entries_of` meets its contract: the starts passed are padded. Assumes nothing.
use Rattle.std.proofs.Common.{ℕ, ◌<◌, ◌≡◌, length, get_or, None}
use Rattle.deck.specs.Sheet.{read, carrier, start_of}
use Rattle.bars.specs.Padded.{pad_of}
use Rattle.finishes.specs.Entries.{starts_in, steps_in}
use Rattle.finishes.proofs.entries_of.Given as goal

abbrev pub invariant-loop-i : goal.invariant-loop-i
invariant-loop-i l =
    let s = l.sheet.bytes.now in
    (length l.entries ≡ 12)
    × ((x : ℕ) → x < l.i → get_or (starts_in l.entries) x 0 ≡ pad_of (read s).width (start_of (read s) (carrier x)))
    × ((x : ℕ) → x < 12 → get_or (steps_in l.entries) x None ≡ None)
