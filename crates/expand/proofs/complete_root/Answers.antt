-- `complete_root` meets its contract. The loop's invariant: of whatever root was begun, the first i paths are written;
-- nodes made before are as they were. Assumes nothing.
use Rattle.std.proofs.Common.{◌≡◌, arith}
use Rattle.expand.specs.Given.{sheet_of}
use Rattle.nodes.proofs.Readers.{accepted_fits}
use Rattle.expand.proofs.RootPaths.{room_keys, limit_low, same_then, root_held, root_held_same}
use Rattle.expand.proofs.complete_root.Goals as goal

pub root_path-requires-clause-by_index : goal.root_path-requires-clause-by_index
root_path-requires-clause-by_index c =
    let q = c.requires in
    let l = c.loop-i in (q.by_index.0, q.by_index.1, l.invariant.3 q.by_index.0 q.by_index.1 q.by_index.2)

pub loop-i-preserved : goal.loop-i-preserved
loop-i-preserved c =
    let v = c.loop-i.invariant in
    let r = c.root_path in (
      omega arith,
      omega (arith, r.auto.work, v.1),
      same_then (sheet_of c.args.given.now) c.args.work.now c.loop-i.work r.new.work c.args.made v.2 r.ensures.same,
      λ a st b. r.ensures.begun a st (v.3 a st b),
    )

pub open_root-requires : goal.open_root-requires
open_root-requires c =
    let q = c.requires in
    let e = c.limit.ensures.value in (
      omega (arith, e, q.by_index.2.within),
      (omega (arith, e, limit_low c.args.given.now), omega (arith, e, room_keys c.args.given.now c.args.work.now q.room, c.loop-i.invariant.1)),
    )

pub returns-clause-held : goal.returns-clause-held
returns-clause-held c =
    let q = c.requires in
    let l = c.loop-i in
    let o = c.open_root in
    let f = accepted_fits c.args.given.now.sheet.now.bytes.now c.args.given.now.sheet.now.accepted in
    let full : l.i ≡ (sheet_of c.args.given.now).count = omega (arith, c.count-i-end.ensures.value, c.loop-i-test.false) in
    λ a st b. root_held f (l.invariant.3 a st b) full c.limit.ensures.value o.ensures.added o.ensures.by_index

pub returns-clause-same : goal.returns-clause-same
returns-clause-same c =
    let q = c.requires in
    let l = c.loop-i in
    let o = c.open_root in
    let f = accepted_fits c.args.given.now.sheet.now.bytes.now c.args.given.now.sheet.now.accepted in
    let full : l.i ≡ (sheet_of c.args.given.now).count = omega (arith, c.count-i-end.ensures.value, c.loop-i-test.false) in same_then (sheet_of c.args.given.now) c.args.work.now l.work o.new.work c.args.made l.invariant.2
    (root_held_same f (l.invariant.3 q.by_index.0 q.by_index.1 q.by_index.2) full c.limit.ensures.value o.ensures.added o.ensures.by_index)
