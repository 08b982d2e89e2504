-- `assignment::price::Duals::of` meets its contract. Assumes nothing.
use Rattle.std.proofs.Common.{ap, sym, ◌∙◌}
use Rattle.std.proofs.lemmas.Option.{same_Some}
use Rattle.candidates.specs.declared.Candidate.{Candidate}
use Rattle.assignment.proofs.Duals.{tasks_few, rounded_handed}
use Rattle.assignment.proofs.price.Duals.of.Goals as goal

pub rounded-rounded-requires : goal.rounded-rounded-requires
rounded-rounded-requires c =
    let r = c.requires.1 in
    (c.requires.0, tasks_few _ _ _ r.0 r.1 (ap (λ (x : Candidate). x.tasks) r.2))

pub returns-then-serve : goal.returns-then-serve
returns-then-serve c = λ a least.
    let r = c.requires.1 in
    let P = c.rounded-rounded.ensures in
    let H = rounded_handed _ _ _ r.0 r.1 (ap (λ (x : Candidate). x.tasks) r.2) _ _ _ P.0 P.1 (c.serve.ensures c.if-serve.true) in
    rw (same_Some r.0 a (sym r.1 ∙ least)) at H
