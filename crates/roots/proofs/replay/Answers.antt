-- `replay` meets its contract: the tournament is played but for number at. Assumes nothing.
use Rattle.std.proofs.Common.{subst, sym, ◌∙◌, ℕ}
use Rattle.roots.specs.Tournament.{first_here, own_at, WordPut}
use Rattle.roots.proofs.Replaying.{replay_more, replay_all}
use Rattle.roots.proofs.replay.Goals as goal

pub loop-at-preserved : goal.loop-at-preserved
loop-at-preserved c =
    let loop = c.loop-at in
    (c.settle.auto.work ∙ loop.invariant.0, replay_more c.args.work.now loop.work _ c.args.latest loop.at loop.invariant.1 c.settle.ensures c.loop-at-test.true)

pub returns : goal.returns
returns c =
    let loop = c.loop-at in
    let a = c.args in
    replay_all a.work.now loop.work _ a.latest loop.at loop.invariant.1
    (subst (λ (i : ℕ). WordPut loop.work c.settle-2.new.work i (first_here loop.work a.latest i) (own_at loop.work i)) (sym c.loop-at-test.false) c.settle-2.ensures) c.loop-at-test.false
