-- `refresh` meets its contract. Assumes nothing.
use Rattle.std.proofs.Common.{arith, sym, subst, length}
use Rattle.roots.specs.Tournament.{Below}
use Rattle.roots.proofs.Playing.{below_win, below_wider, best_of}
use Rattle.roots.proofs.Replaying.{found_but}
use Rattle.roots.proofs.refresh.Goals as goal

pub put_word-requires : goal.put_word-requires
put_word-requires c =
    let a = c.args in
    let pre = c.requires in
    let w = a.work.now in
    let own = c.best_in-own.ensures.0 in (
      omega arith,
      omega arith,
      below_wider a.latest 4097 c.win_of-win.result pre.3 (subst (Below a.latest) (sym c.win_of-win.ensures) (below_win w a.latest pre.4.named a.n)),
      best_of w a.n a.m (length w) c.best_in-own.result own c.best_in-own.ensures.1,
    )

pub replay-requires : goal.replay-requires
replay-requires c =
    let a = c.args in
    let pre = c.requires in
    let w = a.work.now in
    let own = c.best_in-own.ensures.0 in (
      omega (arith, c.put_word.auto.work),
      pre.2,
      pre.3,
      found_but a.m w _ a.latest a.n pre.2 c.win_of-win.result c.best_in-own.result c.win_of-win.ensures pre.4 (best_of w a.n a.m (length w) c.best_in-own.result own c.best_in-own.ensures.1) c.put_word.ensures,
    )
