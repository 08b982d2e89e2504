-- Each turn takes bytes of the input.
use Rattle.std.proofs.Common.{length}
use Rattle.sheet_test.proofs.main.Given as goal

abbrev pub decreases-loop-sheet : goal.decreases-loop-sheet
decreases-loop-sheet l = length l.input.rest.now
