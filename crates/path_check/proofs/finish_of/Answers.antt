-- The place that is left last gives the finish. Assumes nothing.
use Rattle.path_check.proofs.Finishes.{finish_here}
use Rattle.path_check.proofs.finish_of.Goals as goal

pub returns : goal.returns
returns c = rw c.last_goal.ensures.value at (finish_here _ _ _ c.finish.ensures.in_path c.finish.ensures.rests c.finish.ensures.least)
