-- The labels from k on are in the table. Assumes nothing.
use Rattle.std.proofs.Common.{◌≡◌, arith}
use Rattle.sheet.proofs.Accepted.{goals_range}
use Rattle.bounds.proofs.Lowest.{graded_low}
use Rattle.bounds.proofs.bounds.Goals as goal

pub invariant_of-route : goal.invariant_of-route
invariant_of-route c = record {
  given = record { accepted = c.args.sheet.accepted; task_in = c.requires.0; masked = c.requires.1 };
  sized = c.size_of-size.ensures;
  goals_in_place = c.of-goals.ensures;
  has_goals = let r = goals_range c.args.sheet.bytes.now c.args.sheet.accepted c.args.task.0 c.requires.0 in (omega (arith, r, c.of-goals.ensures.many), omega (arith, r, c.of-goals.ensures.many));
}

pub returns : goal.returns
returns c = let e : c.loop-k.k ≡ 0 = omega arith in graded_low _ _ _ (rw e at c.loop-k.invariant)
