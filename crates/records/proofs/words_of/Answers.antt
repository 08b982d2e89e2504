-- The words of a constraint, by its kind. Assumes nothing.
use Rattle.records.specs.Record.{words_of}
use Rattle.records.proofs.words_of.Goals as goal

pub returns-in-Place : goal.returns-in-Place
unfolding words_of
returns-in-Place c = rw c.in-Place.is

pub returns-in-Move : goal.returns-in-Move
unfolding words_of
returns-in-Move c = rw c.in-Move.is
