-- Each way out is a case of the definition. Assumes nothing.
use Rattle.std.proofs.Common.{rules, ◌≡◌, sym, ap, ◌∙◌, Ok, Err, arith, add-one}
use Rattle.deck.specs.Sheet.{sheet_cause}
use Rattle.meaning.proofs.Accepted.{none_of_ok, cause_of_err}
use Rattle.meaning.proofs.Dark.{most_carriers}
use Rattle.plan_check.proofs.Calls.{ensured, sheet_refused, length_refused, not_assigned, not_ended, not_apart, all_tested}
use Rattle.plan_check.proofs.check_plan.Goals as goal
use Rattle.plan_check.proofs.check_plan.Goals.{then-not-assigns-via-then-not-assigns, then-not-assigns-via-else-not-assigns+then-not-ends, then-not-assigns-via-else-not-assigns+else-not-ends+then-not-apart}

pub returns-in_err-check : goal.returns-in_err-check
returns-in_err-check c =
    let gives : c.from_residual.result ≡ Err c.in_err-check.field-0.0 = search rules in
    let r = ensured c.args.s.now c.args.tasks c.args.paths.now
    (gives ∙ sheet_refused _ _ _ _ (cause_of_err (sheet_cause c.args.s.now) _ _ (sym c.in_err-check.was ∙ c.check.ensures))) in
    record { call = r.call; meant = r.meant_so }

pub returns-then-paths-m : goal.returns-then-paths-m
returns-then-paths-m c =
    let ok = none_of_ok (sheet_cause c.args.s.now) _ _ (sym c.in_ok-check.was ∙ c.check.ensures) in
    let r = ensured c.args.s.now c.args.tasks c.args.paths.now (length_refused _ _ _ ok (rw (c.count-m.ensures.value, c.horizon-h.ensures.value, add-one) at c.if-paths-m.true)) in
    record { call = r.call; meant = r.meant_so }

pub assigns-requires : goal.assigns-requires
assigns-requires c =
    let ok = none_of_ok (sheet_cause c.args.s.now) _ _ (sym c.in_ok-check.was ∙ c.check.ensures) in
    omega (arith, most_carriers c.args.s.now ok)

pub ends-requires : goal.ends-requires
ends-requires c =
    let ok = none_of_ok (sheet_cause c.args.s.now) _ _ (sym c.in_ok-check.was ∙ c.check.ensures) in
    omega (arith, most_carriers c.args.s.now ok)

pub returns-then-not-assigns : goal.returns-then-not-assigns
returns-then-not-assigns c =
    let ok = none_of_ok (sheet_cause c.args.s.now) _ _ (sym c.in_ok-check.was ∙ c.check.ensures) in
    let exact = rw (c.count-m.ensures.value, c.horizon-h.ensures.value, add-one) at c.if-paths-m.false in
    let assigned = sym (rw c.count-m.ensures.value at c.assigns.ensures) in
    let r = ensured c.args.s.now c.args.tasks c.args.paths.now
    (elim c.then-not-assigns.branch [
      | then-not-assigns-via-then-not-assigns w ↦ not_assigned _ _ _ ok exact (assigned ∙ w.if-not-assigns.true)
      | then-not-assigns-via-else-not-assigns+then-not-ends w ↦ not_ended _ _ _ ok exact (sym (rw c.count-m.ensures.value at w.ends.ensures) ∙ w.if-not-ends.true)
      | then-not-assigns-via-else-not-assigns+else-not-ends+then-not-apart w ↦
          not_apart _ _ _ ok exact (sym (rw (c.count-m.ensures.value, c.horizon-h.ensures.value) at w.apart.ensures) ∙ w.if-not-apart.true)
    ]) in
    record { call = r.call; meant = r.meant_so }

pub returns : goal.returns
returns c =
    let ok = none_of_ok (sheet_cause c.args.s.now) _ _ (sym c.in_ok-check.was ∙ c.check.ensures) in
    let exact = rw (c.count-m.ensures.value, c.horizon-h.ensures.value, add-one) at c.if-paths-m.false in
    let r = ensured c.args.s.now c.args.tasks c.args.paths.now
    (ap Ok c.flowtime.ensures
    ∙ all_tested _ _ _ ok exact (sym (rw c.count-m.ensures.value at c.ends.ensures) ∙ c.if-not-ends.false) (sym (rw c.count-m.ensures.value at c.assigns.ensures) ∙ c.if-not-assigns.false)
    (sym (rw (c.count-m.ensures.value, c.horizon-h.ensures.value) at c.apart.ensures) ∙ c.if-not-apart.false)) in
    record { call = r.call; meant = r.meant_so }
