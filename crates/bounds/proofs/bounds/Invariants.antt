-- The labels from k on are in the table. Assumes nothing.
use Rattle.deck.specs.Sheet.{read}
use Rattle.bounds.specs.Graded.{Graded}
use Rattle.bounds.proofs.bounds.Given as goal

abbrev pub invariant-loop-k : goal.invariant-loop-k
invariant-loop-k l = Graded (read l.route.sheet.bytes.now) l.route.task l.k l.table
