-- `expand` meets its contract: the next root, the first child, the second child. Assumes nothing.
use Rattle.std.proofs.Common.{arith}
use Rattle.expand.specs.Given.{sheet_of}
use Rattle.expand.proofs.Expansion.{first_branch, second_branch, fewer_root, fewer_child, same_on, made_third}
use Rattle.expand.proofs.expand.Goals as goal

pub make_child-requires : goal.make_child-requires
make_child-requires c =
    let q = c.requires in
    let root = c.in_ok-rooted in
    record {
      branch = first_branch {g = c.args.given.now} root.rooted q.room q.below q.held q.node_at.0 root.ensures.grew root.ensures.same c.next_root.auto.work q.node_at.1;
      list_room = q.list_room;
    }

pub returns-in_err-once-clause-same : goal.returns-in_err-once-clause-same
returns-in_err-once-clause-same c =
    let root = c.in_ok-rooted in
    same_on (fewer_root root.rooted c.requires.held c.args.n root.ensures.grew) root.ensures.same c.in_err-once.ensures.same

pub make_child-requires-2 : goal.make_child-requires-2
make_child-requires-2 c =
    let q = c.requires in
    let root = c.in_ok-rooted in
    let one = c.in_ok-once in
    let x = first_branch {g = c.args.given.now} root.rooted q.room q.below q.held q.node_at.0 root.ensures.grew root.ensures.same c.next_root.auto.work q.node_at.1 in
    record {
      branch = second_branch one.once x one.ensures.grew one.ensures.same c.make_child.auto.work q.node_at.2;
      list_room = omega (arith, q.list_room, c.make_child.auto.list);
    }

pub returns-clause-grew : goal.returns-clause-grew
returns-clause-grew c =
    let a = c.args in
    let root = c.in_ok-rooted in
    let one = c.in_ok-once in
    made_third (sheet_of a.given.now) a.work.now _ a.made.nodes a.made.latest a.n c.requires.below a.first a.second root.rooted root.ensures.grew root.ensures.same
    one.once one.ensures.grew one.ensures.same _ _ c.make_child-2.ensures.grew

pub returns-clause-same : goal.returns-clause-same
returns-clause-same c =
    let q = c.requires in
    let root = c.in_ok-rooted in
    let one = c.in_ok-once in
    let x = first_branch {g = c.args.given.now} root.rooted q.room q.below q.held q.node_at.0 root.ensures.grew root.ensures.same c.next_root.auto.work q.node_at.1 in
    let k = fewer_root root.rooted q.held c.args.n root.ensures.grew in
    let k2 = fewer_child one.once x one.ensures.grew in
    same_on (omega (arith, k, k2)) (same_on k root.ensures.same one.ensures.same) c.make_child-2.ensures.same
