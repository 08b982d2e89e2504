-- `all_known` meets its contract. Assumes nothing.
use Rattle.std.proofs.Common.{◌≢◌, None, zero-le, rules, tests}
use Rattle.std.proofs.lemmas.Iterator.{cases_from_all, YieldsList-from_slice}
use Rattle.finishes.specs.declared.entry.Entry.{Entry}
use Rattle.finishes.proofs.Marks.{all_some}
use Rattle.finishes.proofs.sweep.all_known.Goals as goal

abbrev HasSteps : Entry → Type 0
HasSteps e = e.steps ≢ None

pub returns : goal.returns
returns c t =
    let entries = c.args.entries.now in
    let by_call = cases_from_all _ _ _ HasSteps (λ _. Unit {0}) c.all.ensures.ran (YieldsList-from_slice entries cc) (λ x q k. search (rules, tests)) (λ x q k. tt) in
    all_some entries (λ i e l. (rw t at by_call) i e zero-le l)
