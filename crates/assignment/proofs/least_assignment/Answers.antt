-- `assignment::least_assignment` meets its contract: the cause, none, and the least assignment with its prices. Assumes nothing.
use Rattle.std.proofs.Common.{◌≡◌, Some, ap}
use Rattle.std.specs.Option.{option_map}
use Rattle.candidates.specs.declared.PricedCandidate.{PricedCandidate}
use Rattle.deck.specs.Calls.{assignment_cause}
use Rattle.deck.specs.declared.cause.Cause.TheVariants.{BadCount}
use Rattle.candidates.proofs.Slots.{not_found, found}
use Rattle.assignment.proofs.Calls.{count_low, count_high, wrong_size, accepted, refused, none_found, least_found}
use Rattle.assignment.proofs.least_assignment.Goals.{then-n-lt1-via-then-n-lt1, then-n-lt1-via-else-n-lt1+then-n-gt12, then-n-lt1-via-else-n-lt1+else-n-gt12+then-table-n}
use Rattle.assignment.proofs.least_assignment.Goals as goal

pub returns-then-n-lt1 : goal.returns-then-n-lt1
returns-then-n-lt1 c =
    let m = c.args.m in
    let table = c.args.table.now in
    let cause : assignment_cause m table ≡ Some BadCount = rw (← c.from-n.ensures) (elim c.then-n-lt1.branch [
      | then-n-lt1-via-then-n-lt1 w ↦ count_low _ _ w.if-n-lt1.true
      | then-n-lt1-via-else-n-lt1+then-n-gt12 w ↦ count_high _ _ w.if-n-gt12.true
      | then-n-lt1-via-else-n-lt1+else-n-gt12+then-table-n w ↦ wrong_size _ _ w.if-n-lt1.false w.if-n-gt12.false w.if-table-n.true
    ]) in
    let e = refused m table cause in
    record { call = e.0; meant = e.1 }

pub returns-in_default : goal.returns-in_default
returns-in_default c =
    let n = c.from-n.result in
    let passed = accepted _ _ c.if-n-lt1.false c.if-n-gt12.false c.if-table-n.false in
    let none = rw c.filled-t.ensures at (not_found n _ _ _ c.first_priced.ensures (ap (option_map (λ (f : PricedCandidate). f.candidate)) c.in_default.is)) in
    let e = rw c.from-n.ensures at (none_found n _ passed none) in
    record { call = e.0; meant = e.1 }

pub priced-requires : goal.priced-requires
priced-requires c = (c.if-n-gt12.false, found c.from-n.result _ _ _ _ c.first_priced.ensures (ap (option_map (λ (f : PricedCandidate). f.candidate)) c.in-Some.is))

pub returns : goal.returns
returns c =
    let n = c.from-n.result in
    let passed = accepted _ _ c.if-n-lt1.false c.if-n-gt12.false c.if-table-n.false in
    let A = rw c.filled-t.ensures at c.priced.ensures in
    let e = rw c.from-n.ensures at (least_found n _ c.priced.result passed A) in
    record { call = e.0; meant = e.1 }
