-- `by_passes::least` meets its contract: the least time, and the path traced from it. Assumes nothing.
use Rattle.std.proofs.Common.{◌∙◌}
use Rattle.by_passes.proofs.Finding.{rest_of, early_of, answers_none, answers_found}
use Rattle.by_passes.proofs.least.Goals as goal

pub finish-requires-clause-early : goal.finish-requires-clause-early
finish-requires-clause-early c =
    let e = c.args.errand.now in
    let h = c.chains-chains.ensures in
    rw (h.0, h.1) (early_of _ _ _ _ _ e.ready c.args.bound c.stay_from.result c.max-from.result c.requires.not_before
    (rest_of _ _ _ _ _ e.ready c.stay_from.result c.last_goal.result c.stay_from.ensures c.last_goal.ensures.value)
    c.max-from.ensures)

pub returns-in_err-end-clause-answer : goal.returns-in_err-end-clause-answer
returns-in_err-end-clause-answer c =
    let h = c.chains-chains.ensures in
    let f = rw (h.0, h.1) at c.in_err-end.ensures in
    c.from_residual.ensures ∙ (answers_none _ _ _ _ _ c.args.errand.now.ready f.0 f.2 f.1 c.args.out.now).0

pub returns-in_err-end-clause-written : goal.returns-in_err-end-clause-written
returns-in_err-end-clause-written c =
    let h = c.chains-chains.ensures in
    let f = rw (h.0, h.1) at c.in_err-end.ensures in
    (answers_none _ _ _ _ _ c.args.errand.now.ready f.0 f.2 f.1 c.args.out.now).1

pub returns-clause-answer : goal.returns-clause-answer
returns-clause-answer c =
    let h = c.chains-chains.ensures in
    let f = rw (h.0, h.1) at c.in_ok-end.ensures in
    let w = rw (h.0, h.1) at c.trace.ensures in
    (answers_found _ _ _ _ _ c.args.errand.now.ready c.in_ok-end.end f.1 f.0 c.args.out.now c.trace.new.out w).0

pub returns-clause-written : goal.returns-clause-written
returns-clause-written c =
    let h = c.chains-chains.ensures in
    let f = rw (h.0, h.1) at c.in_ok-end.ensures in
    let w = rw (h.0, h.1) at c.trace.ensures in
    (answers_found _ _ _ _ _ c.args.errand.now.ready c.in_ok-end.end f.1 f.0 c.args.out.now c.trace.new.out w).1
