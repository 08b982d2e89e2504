-- The steps of the grid are those of the sheet. Assumes nothing.
use Rattle.path_check.proofs.Walks.{follows_is}
use Rattle.path_check.proofs.goes.Goals as goal

pub returns : goal.returns
returns c = rw c.new.ensures at (follows_is _ _ c.follows.ensures.passed c.follows.ensures.failed)
