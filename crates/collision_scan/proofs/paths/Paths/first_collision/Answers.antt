-- At every place of the loops the first collision is the head of what is left of the list of collisions; the times passed over by the
-- marks have none. Assumes nothing.
use Rattle.std.proofs.Common.{ap, ◌∙◌, sym, arith, Some}
use Rattle.deck.specs.Lists.{head_of}
use Rattle.collision_scan.proofs.Scans.{time_step, time_end, moves_follow, no_moves_follow, row_step, row_end, pair_passed, pair_taken, pair_end}
use Rattle.collision_scan.proofs.Words.{place_test, move_test, place_found, move_found}
use Rattle.collision_scan.proofs.Marks.{calm_first}
use Rattle.collision_scan.proofs.paths.Paths.first_collision.Goals as goal
use Rattle.collision_scan.proofs.paths.Paths.first_collision.Goals.{else-t-self, then-t-self+else-loop-i-then-t-self-test}

pub loop-t-init : goal.loop-t-init
loop-t-init c = calm_first _ _ _ _ c.calm_until-from.ensures.0 c.calm_until-from.ensures.1

pub loop-i-init : goal.loop-i-init
loop-i-init c = c.loop-t.invariant ∙ ap head_of (time_step _ _ _ _ (omega arith))

pub loop-j-init : goal.loop-j-init
loop-j-init c = c.loop-i.invariant ∙ ap head_of (row_step _ _ _ _ _ c.loop-i-test.true)

pub loop-j-preserved : goal.loop-j-preserved
loop-j-preserved c =
    c.loop-j.invariant
    ∙ ap head_of (pair_passed _ _ _ _ _ _ c.loop-j-test.true (place_test _ _ _ _ _ _ c.loop-i-test.true c.loop-j-test.true (omega arith) c.meet.ensures c.if-meet.false))

pub loop-i-preserved : goal.loop-i-preserved
loop-i-preserved c = c.loop-j.invariant ∙ ap head_of (pair_end _ _ _ _ _ _ c.loop-j-test.false)

pub loop-i-then-t-self-init : goal.loop-i-then-t-self-init
loop-i-then-t-self-init c =
    c.loop-i.invariant ∙ ap head_of (row_end _ _ _ _ _ c.loop-i-test.false ∙ moves_follow _ _ _ _ c.if-t-self.true)

pub loop-j-2-init : goal.loop-j-2-init
loop-j-2-init c = c.loop-i-then-t-self.invariant ∙ ap head_of (row_step _ _ _ _ _ c.loop-i-then-t-self-test.true)

pub loop-j-2-preserved : goal.loop-j-2-preserved
loop-j-2-preserved c =
    c.loop-j-2.invariant
    ∙ ap head_of (pair_passed _ _ _ _ _ _ c.loop-j-2-test.true (move_test _ _ _ _ _ _ c.loop-i-then-t-self-test.true c.loop-j-2-test.true c.if-t-self.true c.exchange.ensures c.if-exchange.false))

pub loop-i-then-t-self-preserved : goal.loop-i-then-t-self-preserved
loop-i-then-t-self-preserved c = c.loop-j-2.invariant ∙ ap head_of (pair_end _ _ _ _ _ _ c.loop-j-2-test.false)

pub loop-t-preserved : goal.loop-t-preserved
loop-t-preserved c =
    elim c.if-t-self.branch [
      | then-t-self+else-loop-i-then-t-self-test w ↦ w.loop-i-then-t-self.invariant ∙ ap head_of (row_end _ _ _ _ _ w.loop-i-then-t-self-test.false)
      | else-t-self w ↦ c.loop-i.invariant ∙ ap head_of (row_end _ _ _ _ _ c.loop-i-test.false ∙ no_moves_follow _ _ _ _ w.if-t-self.false)
    ]

pub returns-then-meet : goal.returns-then-meet
returns-then-meet c =
    sym (c.loop-j.invariant
    ∙ ap head_of (pair_taken _ _ _ _ _ _ c.loop-j-test.true (place_test _ _ _ _ _ _ c.loop-i-test.true c.loop-j-test.true (omega arith) c.meet.ensures c.if-meet.true))
    ∙ ap Some (place_found _ _ _ _ _ _ c.loop-i-test.true c.loop-j-test.true (omega arith) c.place-u.ensures))

pub returns-then-exchange : goal.returns-then-exchange
returns-then-exchange c =
    sym (c.loop-j-2.invariant
    ∙ ap head_of (pair_taken _ _ _ _ _ _ c.loop-j-2-test.true (move_test _ _ _ _ _ _ c.loop-i-then-t-self-test.true c.loop-j-2-test.true c.if-t-self.true c.exchange.ensures c.if-exchange.true))
    ∙ ap Some (move_found _ _ _ _ _ _ c.loop-i-then-t-self-test.true c.loop-j-2-test.true c.if-t-self.true c.place-u-then-exchange.ensures c.place-v.ensures))

pub returns-after-loop-t : goal.returns-after-loop-t
returns-after-loop-t c = sym (c.loop-t.invariant ∙ ap head_of (time_end _ _ _ _ (omega arith)))
