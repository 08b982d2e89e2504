-- The word of the number says whether it has a choice of its own. Assumes nothing.
use Rattle.std.proofs.Common.{◌∙◌, ap, arith}
use Rattle.records.specs.Record.{tournament_in}
use Rattle.roots.proofs.Codes.{no_own, some_own}
use Rattle.roots.proofs.own_of.Goals as goal

pub returns-in_err-j : goal.returns-in_err-j
returns-in_err-j c =
    let word = c.tournament-own.ensures ∙ ap tournament_in c.at.ensures in
    c.from_residual.ensures ∙ no_own c.args.work.now c.args.k _ word (rw c.in_err-j.was at c.checked_sub.ensures)

pub returns : goal.returns
returns c =
    let word = c.tournament-own.ensures ∙ ap tournament_in c.at.ensures in
    some_own c.args.work.now c.args.k _ _ word (rw c.in_ok-j.was at c.checked_sub.ensures)
