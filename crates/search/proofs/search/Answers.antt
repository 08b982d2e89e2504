-- `search` meets its contract: the record of the call, refused or accepted, and demand 3 by it. Assumes nothing.
use Rattle.std.proofs.Common.{rules, ◌≡◌, ◌≢◌, sym, ◌∙◌, length, None, Ok, Err}
use Rattle.deck.specs.Calls.{search_cause, SearchCall}
use Rattle.deck.specs.Numbers.{search_numbers}
use Rattle.meaning.proofs.Accepted.{none_of_ok, cause_of_err}
use Rattle.search.proofs.Calling.{call_refused, call_dark, lent, call_answered, right_of}
use Rattle.search.proofs.search.Goals as goal

pub returns-in_err-check-clause-call : goal.returns-in_err-check-clause-call
returns-in_err-check-clause-call c =
    let e : c.from_residual.result ≡ Err c.in_err-check.field-0.0 = search rules in
    rw e (call_refused c.args.s.now c.args.work.now c.args.out.now c.in_err-check.field-0.0 (cause_of_err _ _ _ (sym c.in_err-check.was ∙ c.check.ensures)))

pub returns-then-is_empty-clause-call : goal.returns-then-is_empty-clause-call
returns-then-is_empty-clause-call c = call_dark c.args.s.now c.args.work.now c.args.out.now (search rules)

pub accepted-requires : goal.accepted-requires
accepted-requires c =
    let accepted : search_cause c.args.s.now (length c.args.work.now) (length c.args.out.now) ≡ None = none_of_ok _ _ _ (sym c.in_ok-check.was ∙ c.check.ensures) in
    lent c.args.s.now c.args.work.now c.args.out.now accepted (search rules)

pub returns : goal.returns
returns c =
    let a = c.args in
    let accepted : search_cause a.s.now (length a.work.now) (length a.out.now) ≡ None = none_of_ok _ _ _ (sym c.in_ok-check.was ∙ c.check.ensures) in
    let bytes : length a.s.now ≢ 0 = search rules in
    let r = c.accepted in
    let call : SearchCall a.s.now a.work.now a.out.now (search_numbers (Ok r.result)) r.new.work r.new.out =
    call_answered a.s.now a.work.now a.out.now accepted (lent a.s.now a.work.now a.out.now accepted bytes).0 r.result r.new.work r.new.out r.ensures in
    record { call = call; right = right_of a.s.now a.work.now a.out.now (Ok r.result) r.new.work r.new.out call }
