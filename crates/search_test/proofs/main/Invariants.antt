-- Each turn takes bytes of the input.
use Rattle.std.proofs.Common.{length}
use Rattle.search_test.proofs.main.Given as goal

abbrev pub decreases-loop-case : goal.decreases-loop-case
decreases-loop-case l = length l.input.rest.now
