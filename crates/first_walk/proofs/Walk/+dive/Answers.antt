-- `Walk::dive` meets its contract: the first way that leads on is the first of the places around. Assumes nothing.
use Rattle.std.proofs.Common.{Ok, refl, sym, ap, ◌∙◌, arith}
use Rattle.passes.specs.Courses.{sheet_of, carrier_of, bars_of}
use Rattle.bars.proofs.Ways.{way_at}
use Rattle.first_walk.proofs.Looking.{given_of}
use Rattle.first_walk.proofs.Walking.{led_of}
use Rattle.first_walk.proofs.Diving.{dived_here, dived_not, dived_on, dived_none}
use Rattle.first_walk.proofs.Walk.+dive.Goals as goal
use Rattle.first_walk.proofs.Walk.+dive.Goals.{else-at-self-2-via-then-at-self-2+else-at-count, else-at-self-2-via-else-at-self-2}

pub returns-then-at-count-clause-dived : goal.returns-then-at-count-clause-dived
returns-then-at-count-clause-dived t c =
    dived_here (given_of c.args.self.now) c.requires.on c.args.out.now c.args.at.place c.if-at-self.true c.if-at-self-2.true (c.if-at-count.true ∙ c.count.ensures) refl c.requires.room

pub returns-then-at-self-clause-dived : goal.returns-then-at-self-clause-dived
returns-then-at-self-clause-dived t c =
    let no = dived_not (given_of c.args.self.now) c.requires.on c.args.out.now c.if-at-self.true in
    elim c.else-at-self-2.branch [
      | else-at-self-2-via-then-at-self-2+else-at-count w ↦ no (λ a b. w.if-at-count.false (b ∙ sym w.count.ensures))
      | else-at-self-2-via-else-at-self-2 w ↦ no (λ a b. w.if-at-self-2.false a)
    ]

pub returns-then-branch-clause-dived : goal.returns-then-branch-clause-dived
returns-then-branch-clause-dived t c =
    let w = c.args.self.now.course.now in
    let at = c.args.at in
    let l = c.loop-way in
    let led = led_of (sheet_of w) (carrier_of w) w.task (bars_of w) c.args.self.now.end at.time at.place at.visited _ c.in-Some.next c.in-Some.ensures c.in_ok-dive.ensures.dived in
    dived_on (given_of c.args.self.now) c.requires.on c.if-at-self.false l.way-index at.place (omega arith) l.invariant.2 l.invariant.0 (ap Ok c.if-branch.true)
    (rw (way_at l.way-index (omega arith)) at led) refl c.requires.room

pub returns-clause-dived : goal.returns-clause-dived
returns-clause-dived t c =
    let l = c.loop-way in
    let q = dived_none (given_of c.args.self.now) c.requires.on c.if-at-self.false l.way-index c.loop-way-test.false l.invariant.2 l.invariant.1 c.insert.ensures in
    record { says = (q.0, l.invariant.0) }

pub returns-clause-remembers : goal.returns-clause-remembers
returns-clause-remembers t c =
    let l = c.loop-way in
    (dived_none (given_of c.args.self.now) c.requires.on c.if-at-self.false l.way-index c.loop-way-test.false l.invariant.2 l.invariant.1 c.insert.ensures).1
