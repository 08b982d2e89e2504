-- `Kept::next_place` meets its contract: the first of the five places around that keeps the time. Assumes nothing.
use Rattle.std.proofs.Common.{◌+◌, ◌*◌, sym, ap, ◌∙◌, arith}
use Rattle.trace.proofs.Seeing.{on_layer, time_fits, looked, next_room, next_some, next_none}
use Rattle.trace.proofs.kept_layers.Kept.next_place.Goals as goal

pub pad-requires : goal.pad-requires
pad-requires c = on_layer c.args.self.now c.args.t c.args.u c.args.k c.requires.on_time

pub overflow_mul-look : goal.overflow_mul-look
overflow_mul-look c = omega (arith, time_fits c.args.self.now c.args.t c.requires.before (sym c.words.ensures))

pub invariant_of-look : goal.invariant_of-look
invariant_of-look c =
    record { sees = (looked c.args.self.now c.args.t c.args.u c.args.k c.requires.before c.requires.on_time c.pad.ensures (ap (λ n. (c.args.t + 1) * n) c.words.ensures)).sees }

pub from-requires : goal.from-requires
from-requires c =
    let u = c.args.self.now.course.now.size in (
      u.wide.0,
      omega (arith, u.wide.1),
      omega (arith, on_layer c.args.self.now c.args.t c.args.u c.args.k c.requires.on_time),
      next_room c.args.self.now c.args.t c.args.u c.args.k c.requires.before c.requires.on_time c.pad.ensures (ap (λ n. (c.args.t + 1) * n) c.words.ensures) c.first.ensures c.in-Some.is,
    )

pub returns-in-Some : goal.returns-in-Some
returns-in-Some c =
    c.from.ensures
    ∙ next_some c.args.self.now c.args.t c.args.u c.args.k c.requires.before c.requires.on_time c.pad.ensures (ap (λ n. (c.args.t + 1) * n) c.words.ensures) c.first.ensures c.in-Some.is

pub returns-in-None : goal.returns-in-None
returns-in-None c =
    next_none c.args.self.now c.args.t c.args.u c.args.k c.requires.before c.requires.on_time c.pad.ensures (ap (λ n. (c.args.t + 1) * n) c.words.ensures) c.first.ensures c.in-None.is
