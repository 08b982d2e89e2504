-- `make_child` meets its contract: no path, no node left, or the child by its least path. Assumes nothing.
use Rattle.std.proofs.Common.{arith, length-take-le}
use Rattle.sheet.proofs.Accepted.{width_range, limit_range}
use Rattle.expand.proofs.ChildPath.{records_room, carrier_few, child_small, no_path_lem, a_path, path_same, not_made, none_left, finish_small, new_child, made_same, child_made}
use Rattle.expand.proofs.make_child.Goals as goal

pub returns-in_default : goal.returns-in_default
returns-in_default c =
    let x = c.requires.branch in
    let path = c.child_path in
    record {
      grew = not_made x _ path.ensures.front (no_path_lem x _ path.ensures.front path.result path.ensures.answer c.in_default.not-Some);
      same = path_same x _ path.ensures.front;
    }

pub returns-then-made-limit : goal.returns-then-made-limit
returns-then-made-limit c =
    let x = c.requires.branch in
    let path = c.child_path in
    let found = a_path x _ path.ensures.front path.result path.ensures.answer _ c.in-Some.is in
    record {
      grew = none_left x _ path.ensures.front found.0 found.1 (omega (arith, c.limit-limit.ensures.value));
      same = path_same x _ path.ensures.front;
    }

pub make_child-requires : goal.make_child-requires
make_child-requires c =
    let path = c.child_path in
    let word = c.limit-limit in
    let x = c.requires.branch in
    let found = a_path x _ path.ensures.front path.result path.ensures.answer _ c.in-Some.is in
    record {
      n_lt_made = (
        x.below,
        omega (arith, x.held.1.within, word.ensures.value),
        carrier_few x,
        child_small x,
        (omega (arith, limit_range _ c.args.given.now.sheet.now.accepted, word.ensures.value), omega (arith, records_room _ _ x.room, word.ensures.value, path.auto.work)),
      );
      finish_bound = (
        omega (arith, finish_small x _ path.ensures.front found.0 found.1 _ found.2),
        length-take-le _ _ (omega (arith, c.horizon-last.ensures.range, path.auto.out)),
        omega (arith, width_range _ c.args.given.now.sheet.now.accepted, c.width-w.ensures.value),
      );
    }

pub returns : goal.returns
returns c =
    let x = c.requires.branch in
    let path = c.child_path in
    let word = c.limit-limit in
    let found = a_path x _ path.ensures.front path.result path.ensures.answer _ c.in-Some.is in
    let front = path.ensures.front in
    let new = new_child x _ front found.0 found.1 _ _ _ _ _ _ _ word.ensures.value c.width-w.ensures.value c.horizon-last.ensures.value found.2 path.ensures.written c.make_child.ensures in
    record {
      grew = child_made x _ front found.0 found.1 _ new (omega (arith, x.held.1.within, word.ensures.value));
      same = made_same x _ front found.0 found.1 _ new;
    }
