-- `next_root` meets its contract: the chosen slot is the next in order. Assumes nothing.
use Rattle.std.proofs.Common.{arith}
use Rattle.prices.specs.Square.{copied}
use Rattle.roots.proofs.Made.{handed_row, handed_kept, next_handed, chosen_inside}
use Rattle.roots.proofs.Begun.{next_begun}
use Rattle.roots.proofs.Entering.{next_played, next_entered}
use Rattle.roots.proofs.next_root.Goals as goal

pub take_slot-part-requires : goal.take_slot-part-requires
take_slot-part-requires c =
    let pre = c.requires in
    let a = c.args in
    let w = a.work.now in
    let table = copied a.m a.t.now in
    let inside = chosen_inside a.m table w a.latest a.chosen.n a.chosen.j pre.by_index.0 pre.m_bound.0 pre.by_index.1 pre.first_slot in
    (omega (arith, inside.0), inside.1, inside.2)

pub make_root-requires : goal.make_root-requires
make_root-requires c =
    let pre = c.requires in
    let a = c.args in
    let w = a.work.now in
    let table = copied a.m a.t.now in
    let take = c.take_slot-part in (
      pre.m_bound.0,
      omega (arith, take.auto.work),
      omega (arith, handed_row a.m table w _ a.latest a.made a.chosen.n a.chosen.j pre.by_index.0 pre.m_bound.0 (omega arith) pre.m_bound.1 pre.by_index.1 pre.first_slot take.ensures.1 _ take.ensures.0),
      handed_kept a.m table w _ a.latest a.made a.chosen.n a.chosen.j pre.by_index.0 pre.m_bound.0 (omega arith) pre.m_bound.1 pre.by_index.1 pre.first_slot take.ensures.1 _ take.ensures.0,
    )

pub enter-requires : goal.enter-requires
enter-requires c =
    let pre = c.requires in
    let a = c.args in
    let w = a.work.now in
    let table = copied a.m a.t.now in
    let take = c.take_slot-part in
    let make = c.make_root in
    let inside = chosen_inside a.m table w a.latest a.chosen.n a.chosen.j pre.by_index.0 pre.m_bound.0 pre.by_index.1 pre.first_slot in (
      pre.m_bound.0,
      pre.m_bound.1,
      pre.m_bound.2,
      omega (arith, inside.0),
      omega (arith, take.auto.work, make.auto.work),
      next_played a.m table w _ a.latest a.made a.chosen.n a.chosen.j pre.by_index.0 pre.m_bound.0 (omega arith) pre.m_bound.1 pre.by_index.1 pre.first_slot take.ensures.1 _ _ _ _ make.ensures,
    )

pub returns-clause-begun : goal.returns-clause-begun
returns-clause-begun c =
    let pre = c.requires in
    let a = c.args in
    let w = a.work.now in
    let table = copied a.m a.t.now in
    let take = c.take_slot-part in
    let make = c.make_root in
    let enter = c.enter in
    let inside = chosen_inside a.m table w a.latest a.chosen.n a.chosen.j pre.by_index.0 pre.m_bound.0 pre.by_index.1 pre.first_slot in next_begun a.m table _ _ _ a.made _ _ _ make.ensures enter.ensures.same w a.chosen.n a.chosen.j (omega (arith, inside.0)) take.ensures.1

pub returns-clause-hold : goal.returns-clause-hold
returns-clause-hold c =
    let pre = c.requires in
    let a = c.args in
    let w = a.work.now in
    let table = copied a.m a.t.now in
    let take = c.take_slot-part in
    let make = c.make_root in
    let enter = c.enter in
    let inside = chosen_inside a.m table w a.latest a.chosen.n a.chosen.j pre.by_index.0 pre.m_bound.0 pre.by_index.1 pre.first_slot in λ rest H. next_handed a.m table w _ a.latest a.made a.chosen.n a.chosen.j rest pre.m_bound.0 (omega arith) pre.m_bound.1 H pre.first_slot take.ensures.1 _ take.ensures.0 _ _
    (next_entered a.m table w _ a.latest a.made a.chosen.n a.chosen.j rest pre.m_bound.0 (omega arith) pre.m_bound.1 H pre.first_slot take.ensures.1 _ _ _ _ make.ensures _ enter.ensures) make.ensures
