-- `root_path` meets its contract: the path written is the least without constraints, and its finish the table's entry.
-- That there is one follows from the assignment, which uses no barred entry. Assumes nothing.
use Rattle.std.proofs.Common.{sym, ◌∙◌, arith, replicate}
use Rattle.std.proofs.lemmas.Option.{get_or_from_slice_get}
use Rattle.sheet.proofs.Accepted.{count_range, width_range, horizon_range}
use Rattle.expand.proofs.RootPaths.{room_record, task_in, root_ready, root_bound, root_found, path_long, finish_small, root_path_begun, root_path_same}
use Rattle.expand.proofs.root_path.Goals as goal

pub at-requires : goal.at-requires
at-requires c =
    let q = c.requires in
    room_record c.args.given.now c.args.work.now q.room c.args.n q.by_index.2.within

pub task-j-requires : goal.task-j-requires
task-j-requires c =
    let u = c.args in
    let q = c.requires in
    omega (arith, q.carrier_in, count_range u.given.now.sheet.now.bytes.now u.given.now.sheet.now.accepted)

pub entry-requires : goal.entry-requires
entry-requires c =
    let u = c.args in
    let q = c.requires in
    let n = count_range u.given.now.sheet.now.bytes.now u.given.now.sheet.now.accepted in (
      omega (arith, q.carrier_in, n),
      omega (arith, n, task_in u.i u.given.now q.room q.carrier_in q.by_index.2 (rw c.at.ensures at c.task-j.ensures)),
    )

pub invariant_of-errand : goal.invariant_of-errand
invariant_of-errand c =
    let u = c.args in
    let q = c.requires in
    record { ready = root_ready u.i u.given.now q.room q.carrier_in q.by_index.2 (rw c.at.ensures at c.task-j.ensures) }

pub least-requires : goal.least-requires
least-requires c =
    let u = c.args in
    let q = c.requires in
    let j = rw c.at.ensures at c.task-j.ensures in
    record {
      not_before = root_bound u.i u.given.now q.room q.carrier_in q.by_index.2 j (c.from-bound.ensures ∙ sym (get_or_from_slice_get u.given.now.table.now _ _ 0 c.entry.ensures));
      workspace = q.room;
      room = omega (arith, horizon_range u.given.now.sheet.now.bytes.now u.given.now.sheet.now.accepted);
      bounded = u.given.now.bounded;
    }

pub returns-in_default : goal.returns-in_default
returns-in_default c =
    let u = c.args in
    let q = c.requires in
    absurd (c.in_default.not-Some _ (root_found u.i u.given.now q.room q.carrier_in q.by_index.2 (rw c.at.ensures at c.task-j.ensures) c.least.ensures.answer))

pub put_path-requires : goal.put_path-requires
put_path-requires c =
    let u = c.args in
    let q = c.requires in
    let j = rw c.at.ensures at c.task-j.ensures in
    let l = c.least in (
      omega (arith, room_record u.given.now u.work.now q.room u.n q.by_index.2.within, l.auto.work),
      omega (arith, q.carrier_in, count_range u.given.now.sheet.now.bytes.now u.given.now.sheet.now.accepted),
      finish_small u.i u.given.now q.room q.carrier_in q.by_index.2 j l.ensures.answer
          c.in-Some.is,
      sym (path_long u.i u.given.now q.room q.carrier_in q.by_index.2 j (replicate 256 0) l.ensures.written
          c.horizon-last.ensures.value),
      omega (arith, c.width.ensures.value, width_range u.given.now.sheet.now.bytes.now u.given.now.sheet.now.accepted),
    )

pub returns-clause-begun : goal.returns-clause-begun
returns-clause-begun c =
    let u = c.args in
    let q = c.requires in
    let j = rw c.at.ensures at c.task-j.ensures in
    let l = c.least in
    λ a st k. root_path_begun u.i u.given.now q.room q.carrier_in k j l.ensures.answer c.in-Some.is
    (replicate 256 0) l.ensures.written l.new.work l.ensures.front l.auto.work
    c.width.ensures.value c.horizon-last.ensures.value c.put_path.ensures

pub returns-clause-same : goal.returns-clause-same
returns-clause-same c =
    let u = c.args in
    let q = c.requires in
    let j = rw c.at.ensures at c.task-j.ensures in
    let l = c.least in
    root_path_same u.i u.given.now q.room q.carrier_in q.by_index.2 j l.ensures.answer c.in-Some.is
    (replicate 256 0) l.ensures.written l.new.work l.ensures.front l.auto.work
    c.width.ensures.value c.horizon-last.ensures.value c.put_path.ensures
