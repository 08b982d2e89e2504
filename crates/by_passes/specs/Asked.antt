-- What an errand asks for. Assumes nothing.
use Rattle.std.specs.Prelude.{ℕ, List, Option}
use Rattle.deck.specs.Sheet.{Sheet, read}
use Rattle.deck.specs.Paths.{least_path}
use Rattle.deck.specs.Calls.{constraints_of}
use Rattle.kernel.specs.Kernel.{NoEarlier}
use Rattle.passes.specs.declared.Errand.{Errand}

abbrev pub sheet_of : Errand → Sheet
sheet_of e = read e.sheet.now.bytes.now

-- the least path of the carrier to its task under the constraints
abbrev pub path_of : Errand → Option (List ℕ)
path_of e = least_path (sheet_of e) e.carrier e.task (constraints_of e.records.now)

-- it does not finish before a time
abbrev pub NotBefore : Errand → ℕ → Type 0
NotBefore e t = NoEarlier (sheet_of e) e.carrier e.task (constraints_of e.records.now) t
