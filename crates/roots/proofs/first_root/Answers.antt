-- `first_root` meets its contract. Assumes nothing.
use Rattle.std.proofs.Common.{arith, subst, sym, List, ℕ}
use Rattle.deck.specs.Assignments.{assignments_in_order}
use Rattle.meaning.proofs.Assignments.{least_assignment_meant}
use Rattle.prices.specs.Square.{copied}
use Rattle.partition.specs.Parts.{none_closed}
use Rattle.partition.proofs.Splits.{none_closed_lem}
use Rattle.roots.specs.Slots.{PartKept, RootMade}
use Rattle.roots.specs.Tournament.{NextTaken}
use Rattle.roots.proofs.Made.{list_kept, first_made}
use Rattle.roots.proofs.Begun.{made_begun}
use Rattle.roots.proofs.Entering.{first_entered}
use Rattle.roots.proofs.first_root.Goals as goal

pub make_root-requires : goal.make_root-requires
make_root-requires c =
    let pre = c.requires in
    let a = c.args in
    let first = pre.3 in (
      pre.1,
      omega arith,
      omega arith,
      subst (λ (l : List ℕ). PartKept a.m l none_closed) (sym first.2)
          (list_kept a.m first.0 none_closed pre.1 (least_assignment_meant a.m (copied a.m a.t.now) first.0 first.1).0.0 (λ i. omega (arith, none_closed_lem i))),
    )

pub returns-clause-begun : goal.returns-clause-begun
returns-clause-begun c =
    let pre = c.requires in
    let a = c.args in
    let first = pre.3 in
    let table = copied a.m a.t.now in
    let make = c.make_root in
    let enter = c.enter in made_begun a.m table a.work.now _ _ 0 a.tasks 0 none_closed make.ensures enter.ensures.same

pub returns-clause-hold : goal.returns-clause-hold
returns-clause-hold c =
    let pre = c.requires in
    let a = c.args in
    let first = pre.3 in
    let table = copied a.m a.t.now in
    let make = c.make_root in
    let enter = c.enter in subst (λ (l : List ℕ). RootMade a.m table a.work.now make.new.work 0 l 0 none_closed → NextTaken a.m table enter.new.work 1 (assignments_in_order a.m table) l) (sym first.2)
    (λ u. first_made a.m table a.work.now make.new.work enter.new.work first.0 pre.0 pre.1 first.1 (first_entered a.m table make.new.work enter.new.work enter.ensures) u)
    make.ensures
