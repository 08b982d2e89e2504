-- `by_passes` meets its contract: what the call asks of its words, and the nodes' words stay. Assumes nothing.
use Rattle.std.proofs.Common.{arith}
use Rattle.scratch.proofs.Rooms.{nodes_inside, spare_room, tail_room}
use Rattle.scratch.proofs.by_passes.Goals as goal

pub least-requires-clause-words : goal.least-requires-clause-words
least-requires-clause-words c = omega (arith, spare_room c.args.errand.now c.horizon.ensures.value c.area.ensures.value c.if-size-lt-FEW.true)

pub slice_bounds-least-count : goal.slice_bounds-least-count
slice_bounds-least-count c = nodes_inside c.args.errand.now.sheet.now.bytes.now c.limit.ensures.value c.requires.workspace

pub slice_bounds-least-start : goal.slice_bounds-least-start
slice_bounds-least-start c = nodes_inside c.args.errand.now.sheet.now.bytes.now c.limit.ensures.value c.requires.workspace

pub least-requires-2-clause-words : goal.least-requires-2-clause-words
least-requires-2-clause-words c = tail_room c.args.errand.now c.horizon.ensures.value c.area.ensures.value (omega (arith, c.if-size-lt-FEW.false)) c.limit.ensures.value c.args.work.now c.requires.workspace
