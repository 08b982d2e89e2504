-- `answered` meets its contract, by the end of the search. Assumes nothing.
use Rattle.std.proofs.Common.{subst, ap, ◌∙◌, ◌+◌, ◌*◌, ◌≤◌, arith, length, add-one}
use Rattle.expand.specs.Given.{sheet_of}
use Rattle.sheet.proofs.Accepted.{width_range, count_range, horizon_range}
use Rattle.records.specs.Record.{tasks_in, bytes}
use Rattle.turns.specs.Turns.{PlanAt, EndedWith}
use Rattle.turns.proofs.Turning.{room_of}
use Rattle.planning.proofs.Answering.{plan_found, plan_written, none_found, none_written, spent_found, spent_written}
use Rattle.planning.proofs.answered.Goals as goal

pub write_paths-requires : goal.write_paths-requires
write_paths-requires c =
    let p : PlanAt (sheet_of c.args.given.now) c.args.work.now c.in-Plan.made c.in-Plan.node.n c.in-Plan.node.cost c.requires.ended.0 =
    subst (λ x. EndedWith (sheet_of c.args.given.now) c.args.work.now x c.requires.ended.0) c.in-Plan.is c.requires.ended.1 in
    let s = c.args.given.now.sheet.now.bytes.now in
    let ok = c.args.given.now.sheet.now.accepted in
    let m = c.count-m.ensures.value in
    let last = c.horizon-last.ensures.value in
    let words : c.count-m.result * (c.horizon-last.result + 1) ≤ length c.args.out.now = rw (m, last, add-one) c.requires.words in (
      omega (arith, p.inside, room_of s ok c.args.work.now c.requires.room),
      omega (arith, m, count_range s ok),
      omega (arith, m, count_range s ok),
      omega (arith, c.width.ensures.value, width_range s ok),
      omega (arith, last, horizon_range s ok),
      omega (arith, words),
    )

pub at-requires : goal.at-requires
at-requires c =
    let p : PlanAt (sheet_of c.args.given.now) c.args.work.now c.in-Plan.made c.in-Plan.node.n c.in-Plan.node.cost c.requires.ended.0 =
    subst (λ x. EndedWith (sheet_of c.args.given.now) c.args.work.now x c.requires.ended.0) c.in-Plan.is c.requires.ended.1 in
    omega (arith, p.inside, room_of c.args.given.now.sheet.now.bytes.now c.args.given.now.sheet.now.accepted c.args.work.now c.requires.room)

pub returns-in-Plan : goal.returns-in-Plan
returns-in-Plan c a e =
    let d = sheet_of c.args.given.now in
    let p : PlanAt (sheet_of c.args.given.now) c.args.work.now c.in-Plan.made c.in-Plan.node.n c.in-Plan.node.cost a =
    subst (λ x. EndedWith (sheet_of c.args.given.now) c.args.work.now x a) c.in-Plan.is e in (
      plan_found d c.args.work.now _ _ _ a p _ (c.tasks.ensures ∙ ap (λ fs. bytes (tasks_in fs)) c.at.ensures),
      plan_written d c.args.work.now _ _ _ a p _ _ _ c.args.starts.now c.args.out.now _ c.width.ensures.value c.horizon-last.ensures.value c.count-m.ensures.value c.requires.starts c.write_paths.ensures,
    )

pub returns-in-NoPlan : goal.returns-in-NoPlan
returns-in-NoPlan c a e =
    let ended = subst (λ x. EndedWith (sheet_of c.args.given.now) c.args.work.now x a) c.in-NoPlan.is e in
    (none_found a _ ended, none_written a _ c.args.out.now ended)

pub returns-in-Spent : goal.returns-in-Spent
returns-in-Spent c a e =
    let ended = subst (λ x. EndedWith (sheet_of c.args.given.now) c.args.work.now x a) c.in-Spent.is e in
    (rw c.limit.ensures.value (spent_found a _ _ ended), spent_written a _ _ c.args.out.now ended)
