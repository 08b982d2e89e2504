-- There is a first assignment, or none at all. Assumes nothing.
use Rattle.candidates.specs.declared.Candidate.{Candidate}
use Rattle.std.proofs.Common.{ap, sym, subst}
use Rattle.prices.specs.Square.{copied}
use Rattle.deck.specs.Assignments.{assignments_in_order}
use Rattle.candidates.proofs.Slots.{not_found, found}
use Rattle.in_order.specs.Listed.{Taken}
use Rattle.in_order.proofs.Progress.{none_first}
use Rattle.in_order.proofs.take_first.Goals as goal

pub returns-in_err-first : goal.returns-in_err-first
returns-in_err-first c =
    let table = copied c.args.m c.args.t.now in
    subst (Taken c.args.m table c.args.work.now 0 (assignments_in_order c.args.m table)) (sym c.from_residual.ensures)
    (none_first c.args.m table (not_found c.args.m table _ c.first.result c.first.ensures c.in_err-first.was))

pub first_root-requires : goal.first_root-requires
first_root-requires c =
    let first = found c.args.m (copied c.args.m c.args.t.now) _ c.first.result c.in_ok-first.first c.first.ensures c.in_ok-first.was in
    (c.requires.0, c.requires.1, c.requires.2, (first.0, first.1, ap (λ (x : Candidate). x.tasks) first.2))
