-- The word of the number, where it is one of the tournament's. Assumes nothing.
use Rattle.std.proofs.Common.{sym, ◌∙◌, ap}
use Rattle.records.specs.Record.{tournament_in}
use Rattle.roots.proofs.Codes.{below_no, win_read}
use Rattle.roots.proofs.win_of.Goals as goal

pub returns-then-latest-k : goal.returns-then-latest-k
returns-then-latest-k c = sym (below_no c.args.work.now c.args.k c.args.latest c.if-latest-k.true)

pub returns : goal.returns
returns c = win_read c.args.work.now c.args.k c.args.latest _ _ c.if-latest-k.false (c.tournament.ensures ∙ ap tournament_in c.at.ensures) c.choice_of.ensures
