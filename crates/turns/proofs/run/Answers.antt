-- `turns::run` meets its contract: the state that is held at the start of each turn leads to the search's answer. Assumes nothing.
use Rattle.std.proofs.Common.{refl, ◌∙◌, suc, ◌<◌, arith}
use Rattle.expand.specs.Given.{sheet_of}
use Rattle.sheet.proofs.Accepted.{limit_range}
use Rattle.nodes.proofs.Blocks.{lows_none}
use Rattle.turns.proofs.Turning.{room_of, lows_limit}
use Rattle.turns.proofs.Running.{start_going, going_more, more_fewer, going_ended}
use Rattle.turns.proofs.run.Goals as goal

pub enter-requires-clause-from_le_made : goal.enter-requires-clause-from_le_made
enter-requires-clause-from_le_made c =
    let sheet = c.args.given.now.sheet.now in
    let limit = c.limit-limit.ensures.value in
    let range = limit_range sheet.bytes.now sheet.accepted in
    (omega arith, omega (arith, limit, range), (omega (arith, limit, range), omega (arith, limit, room_of sheet.bytes.now sheet.accepted c.args.work.now c.requires.room)))

pub enter-requires-clause-lows : goal.enter-requires-clause-lows
enter-requires-clause-lows c = lows_none _ _

pub loop-init : goal.loop-init
loop-init c =
    let sheet = c.args.given.now.sheet.now in
    let r = c.requires.by_index in
    (refl, omega arith, start_going sheet.bytes.now sheet.accepted c.args.work.now r.0 r.1 r.2 r.3, lows_limit _ c.limit-limit.ensures.value c.enter.ensures)

pub enter-requires-in-Continue-clause-from_le_made : goal.enter-requires-in-Continue-clause-from_le_made
enter-requires-in-Continue-clause-from_le_made c =
    let sheet = c.args.given.now.sheet.now in
    let left : c.loop.counter < suc (sheet_of c.args.given.now).limit = omega (arith, c.loop-test.true, c.limit-limit.ensures.value) in
    let limit = c.limit-limit.ensures.value in
    let loop = c.loop in
    let next = going_more sheet.bytes.now sheet.accepted loop.work loop.made.nodes loop.made.latest loop.counter loop.invariant.2 left _ c.in-Continue.more c.in-Continue.ensures.turned in (
      more_fewer sheet.bytes.now sheet.accepted loop.work loop.made.nodes loop.made.latest loop.counter loop.invariant.2 left _ c.in-Continue.more c.in-Continue.ensures.turned,
      omega (arith, limit, next.turning.0.within),
      (omega (arith, limit, limit_range sheet.bytes.now sheet.accepted), omega (arith, limit, room_of sheet.bytes.now sheet.accepted c.args.work.now c.requires.room, c.turn.auto.work, loop.invariant.0)),
    )

pub returns-in-Break : goal.returns-in-Break
returns-in-Break c =
    let sheet = c.args.given.now.sheet.now in
    let left : c.loop.counter < suc (sheet_of c.args.given.now).limit = omega (arith, c.loop-test.true, c.limit-limit.ensures.value) in
    let loop = c.loop in
    going_ended sheet.bytes.now sheet.accepted loop.work loop.made.nodes loop.made.latest loop.counter loop.invariant.2 left _ c.in-Break.end c.in-Break.ensures.turned

pub loop-preserved : goal.loop-preserved
loop-preserved c =
    let sheet = c.args.given.now.sheet.now in
    let left : c.loop.counter < suc (sheet_of c.args.given.now).limit = omega (arith, c.loop-test.true, c.limit-limit.ensures.value) in
    let loop = c.loop in (
      c.turn.auto.work ∙ loop.invariant.0,
      omega (arith, c.loop-test.true),
      going_more sheet.bytes.now sheet.accepted loop.work loop.made.nodes loop.made.latest loop.counter loop.invariant.2 left _ c.in-Continue.more c.in-Continue.ensures.turned,
      lows_limit _ c.limit-limit.ensures.value c.enter-in-Continue.ensures,
    )
