-- `next_root` meets its contract, by whether the node is a root, whether a slot is left, and whether a node may still
-- be made. Assumes nothing.
use Rattle.std.proofs.Common.{◌<◌, ◌∙◌, ap, arith}
use Rattle.expand.specs.Given.{sheet_of}
use Rattle.records.specs.Record.{root_in}
use Rattle.nodes.specs.Nodes.{node_at}
use Rattle.expand.proofs.RootPaths.{room_record, limit_low, same_then}
use Rattle.expand.proofs.NextRoot.{held_state, no_root, none_remain, none_more, one_more, is_no_root, is_root, latest_room, few_carriers, slots_asked, without_slot, with_slot_lem, next_begun, next_same}
use Rattle.expand.proofs.next_root.Goals as goal

pub at-requires : goal.at-requires
at-requires c =
    let q = c.requires in
    omega (arith, room_record c.args.given.now c.args.work.now q.room c.args.n (omega (arith, q.below, q.held.1.within)))

pub returns-then-not-is_root-clause-grew : goal.returns-then-not-is_root-clause-grew
returns-then-not-is_root-clause-grew c =
    let u = c.args in λ opened rest bound h.
    no_root (sheet_of u.given.now) u.work.now u.made.nodes u.made.latest bound (node_at (sheet_of u.given.now) u.work.now u.n).root opened rest
    (is_no_root (sheet_of u.given.now) u.work.now u.n c.is_root.result (c.is_root.ensures ∙ ap root_in c.at.ensures) c.if-not-is_root.true) h

pub next_slot-requires : goal.next_slot-requires
next_slot-requires c =
    let q = c.requires in
    latest_room c.args.given.now q.room q.held.1

pub returns-in_default-clause-grew : goal.returns-in_default-clause-grew
returns-in_default-clause-grew c =
    let u = c.args in
    let q = c.requires in λ opened rest bound h.
    none_remain (sheet_of u.given.now) u.work.now u.made.nodes u.made.latest bound (node_at (sheet_of u.given.now) u.work.now u.n).root opened rest
    (is_root (sheet_of u.given.now) u.work.now u.n c.is_root.result (c.is_root.ensures ∙ ap root_in c.at.ensures) c.if-not-is_root.false)
    (without_slot c.args.given.now q.room h c.count-m.ensures.value c.next_slot.result c.next_slot.ensures c.in_default.is) h

pub returns-then-made-limit-clause-grew : goal.returns-then-made-limit-clause-grew
returns-then-made-limit-clause-grew c =
    let u = c.args in
    let q = c.requires in λ opened rest bound h.
    let l = with_slot_lem c.args.given.now q.room h c.count-m.ensures.value c.next_slot.result _ c.next_slot.ensures c.in-Some.is in
    none_more (sheet_of u.given.now) u.work.now u.made.nodes u.made.latest bound (node_at (sheet_of u.given.now) u.work.now u.n).root opened rest l.0 l.1
    (is_root (sheet_of u.given.now) u.work.now u.n c.is_root.result (c.is_root.ensures ∙ ap root_in c.at.ensures) c.if-not-is_root.false) l.2
    (omega (arith, c.limit.ensures.value, c.if-made-limit.true))

pub next_root-requires-clause-m_bound : goal.next_root-requires-clause-m_bound
next_root-requires-clause-m_bound c =
    let q = c.requires in
    let h = q.held.1 in
    let m = c.count-m.ensures.value in
    let less : c.args.made.nodes < (sheet_of c.args.given.now).limit = omega (arith, h.within, c.limit.ensures.value, c.if-made-limit.false) in (few_carriers c.args.given.now q.room h m, h.recent, omega (arith, limit_low c.args.given.now), room_record c.args.given.now c.args.work.now q.room c.args.made.nodes less)

pub complete_root-requires-clause-by_index : goal.complete_root-requires-clause-by_index
complete_root-requires-clause-by_index c =
    let q = c.requires in
    let h = q.held.1 in
    let m = c.count-m.ensures.value in
    let r = c.next_root in
    let less : c.args.made.nodes < (sheet_of c.args.given.now).limit = omega (arith, h.within, c.limit.ensures.value, c.if-made-limit.false) in
    let n = next_begun c.args.given.now q.room h m less r.ensures.begun (r.ensures.hold q.held.0.rest (slots_asked c.args.given.now q.room h m)) in (n.0, held_state q.held.0.opened c.args.made.nodes n.1, n.3)

pub returns-clause-grew : goal.returns-clause-grew
returns-clause-grew c =
    let u = c.args in
    let q = c.requires in
    let m = c.count-m.ensures.value in
    let r = c.next_root in
    let o = c.complete_root in
    let less : u.made.nodes < (sheet_of u.given.now).limit = omega (arith, q.held.1.within, c.limit.ensures.value, c.if-made-limit.false) in λ opened rest bound h.
    let n = next_begun c.args.given.now q.room h m less r.ensures.begun (r.ensures.hold rest (slots_asked c.args.given.now q.room h m)) in
    one_more (sheet_of u.given.now) o.new.work u.made.nodes u.made.latest bound (node_at (sheet_of u.given.now) u.work.now u.n).root opened rest n.0 n.1
    (is_root (sheet_of u.given.now) u.work.now u.n c.is_root.result (c.is_root.ensures ∙ ap root_in c.at.ensures) c.if-not-is_root.false) n.2 less
    (o.ensures.held n.0 (held_state opened u.made.nodes n.1) n.3)

pub returns-clause-same : goal.returns-clause-same
returns-clause-same c =
    let u = c.args in
    let q = c.requires in
    let m = c.count-m.ensures.value in
    let r = c.next_root in
    let o = c.complete_root in
    let less : u.made.nodes < (sheet_of u.given.now).limit = omega (arith, q.held.1.within, c.limit.ensures.value, c.if-made-limit.false) in same_then (sheet_of u.given.now) u.work.now r.new.work o.new.work u.made.nodes
    (next_same c.args.given.now q.room q.held.1 m less r.ensures.begun (r.ensures.hold q.held.0.rest (slots_asked c.args.given.now q.room q.held.1 m))) o.ensures.same
