-- `starts_of` meets its contract: the first i starts are written. Assumes nothing.
use Rattle.std.proofs.Common.{rules, ◌∙◌, ◌<◌, arith, length-set}
use Rattle.deck.specs.Sheet.{read}
use Rattle.sheet.proofs.Accepted.{count_range, area_range}
use Rattle.planning.proofs.Answering.{starts_more}
use Rattle.planning.proofs.starts_of.Goals as goal

pub bounds-starts-i : goal.bounds-starts-i
bounds-starts-i c = omega (arith, c.loop-i-test.true, c.count-i-end.ensures.value, count_range c.args.sheet.now.bytes.now c.args.sheet.now.accepted)

pub overflow_cast-starts : goal.overflow_cast-starts
overflow_cast-starts c =
    let sheet = c.args.sheet.now in
    let small : c.start.result < 65536 = omega (arith, c.start.ensures.range, area_range sheet.bytes.now sheet.accepted) in
    search rules

pub loop-i-preserved : goal.loop-i-preserved
loop-i-preserved c =
    let few : c.loop-i.i < 12 = omega (arith, c.loop-i-test.true, c.count-i-end.ensures.value, count_range c.args.sheet.now.bytes.now c.args.sheet.now.accepted) in
    let loop = c.loop-i in (
      omega (arith, c.loop-i-test.true),
      length-set loop.starts loop.i c.start.result ∙ loop.invariant.1,
      starts_more (read c.args.sheet.now.bytes.now) loop.starts loop.i c.start.result (omega (arith, few, loop.invariant.1)) loop.invariant.2 c.start.ensures.value,
    )
