-- `path::least_path` meets its contract: refused, or answered by the least path. Assumes nothing.
use Rattle.std.proofs.Common.{length, sym, ◌∙◌}
use Rattle.std.proofs.lemmas.Result.{err_from_is_err_and}
use Rattle.deck.specs.Calls.{path_cause}
use Rattle.meaning.proofs.Accepted.{none_of_ok, cause_of_err}
use Rattle.by_passes.proofs.Finding.{no_bound}
use Rattle.path.proofs.Calling.{no_cause, ready_of, room_of, call_refused, call_answered}
use Rattle.path.proofs.least_path.Goals as goal

pub returns-in_err-check-clause-call : goal.returns-in_err-check-clause-call
returns-in_err-check-clause-call c =
    let a = c.args in
    let e = cause_of_err (path_cause a.s.now a.i a.j (length a.work.now) (length a.out.now) a.records.now) _ _ (sym c.in_err-check.was ∙ c.check.ensures) in
    let p = err_from_is_err_and c.from_residual.result c.from_residual.ensures.1 in
    rw (p.1, p.2) ((call_refused a.s.now a.i a.j a.work.now a.out.now a.records.now _ e).0)

pub returns-in_err-check-clause-meant : goal.returns-in_err-check-clause-meant
returns-in_err-check-clause-meant c =
    let a = c.args in
    let e = cause_of_err (path_cause a.s.now a.i a.j (length a.work.now) (length a.out.now) a.records.now) _ _ (sym c.in_err-check.was ∙ c.check.ensures) in
    let p = err_from_is_err_and c.from_residual.result c.from_residual.ensures.1 in
    rw (p.1, p.2) ((call_refused a.s.now a.i a.j a.work.now a.out.now a.records.now _ e).1)

pub new-sheet-requires : goal.new-sheet-requires
new-sheet-requires c =
    let a = c.args in
    let ok = none_of_ok (path_cause a.s.now a.i a.j (length a.work.now) (length a.out.now) a.records.now) _ _ (sym c.in_ok-check.was ∙ c.check.ensures) in
    (no_cause a.s.now a.i a.j (length a.work.now) (length a.out.now) a.records.now ok).accepted

pub invariant_of-errand : goal.invariant_of-errand
invariant_of-errand c =
    let a = c.args in
    let ok = none_of_ok (path_cause a.s.now a.i a.j (length a.work.now) (length a.out.now) a.records.now) _ _ (sym c.in_ok-check.was ∙ c.check.ensures) in
    let q = rw c.new-sheet.ensures at c.fill.ensures in
    rw c.new-sheet.ensures (record { ready = ready_of a.s.now a.i a.j (length a.work.now) (length a.out.now) a.records.now ok _ q })

pub least-requires : goal.least-requires
least-requires c =
    let a = c.args in
    let ok = none_of_ok (path_cause a.s.now a.i a.j (length a.work.now) (length a.out.now) a.records.now) _ _ (sym c.in_ok-check.was ∙ c.check.ensures) in
    let n = no_cause a.s.now a.i a.j (length a.work.now) (length a.out.now) a.records.now ok in
    let q = rw c.new-sheet.ensures at c.fill.ensures in
    rw c.new-sheet.ensures (record {
      not_before = no_bound a.s.now a.i a.j _ a.records.now (ready_of a.s.now a.i a.j (length a.work.now) (length a.out.now) a.records.now ok _ q);
      words = room_of a.s.now a.i a.j (length a.work.now) (length a.out.now) a.records.now ok _ q;
      room = n.long;
    })

pub returns-clause-call : goal.returns-clause-call
returns-clause-call c =
    let a = c.args in
    let ok = none_of_ok (path_cause a.s.now a.i a.j (length a.work.now) (length a.out.now) a.records.now) _ _ (sym c.in_ok-check.was ∙ c.check.ensures) in
    let l = rw c.new-sheet.ensures at c.least.ensures in
    (call_answered a.s.now a.i a.j a.work.now a.out.now a.records.now ok c.least.result c.least.new.work c.least.new.out (l.answer, l.written)).0

pub returns-clause-meant : goal.returns-clause-meant
returns-clause-meant c =
    let a = c.args in
    let ok = none_of_ok (path_cause a.s.now a.i a.j (length a.work.now) (length a.out.now) a.records.now) _ _ (sym c.in_ok-check.was ∙ c.check.ensures) in
    let l = rw c.new-sheet.ensures at c.least.ensures in
    (call_answered a.s.now a.i a.j a.work.now a.out.now a.records.now ok c.least.result c.least.new.work c.least.new.out (l.answer, l.written)).1
