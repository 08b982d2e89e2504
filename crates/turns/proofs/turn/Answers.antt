-- `turns::turn` meets its contract: the cheapest open node is the plan, or the nodes of its expansion are made. Assumes nothing.
use Rattle.std.proofs.Common.{arith}
use Rattle.sheet.proofs.Accepted.{limit_range}
use Rattle.nodes.proofs.Blocks.{lows_kept}
use Rattle.turns.proofs.Turning.{closed_is_taken, room_of, lows_limit, took_none, took_room, took_held, took_node_at, took_plan, took_good, took_turned}
use Rattle.turns.proofs.turn.Goals as goal

pub cheapest-requires-clause-made_le_limit : goal.cheapest-requires-clause-made_le_limit
cheapest-requires-clause-made_le_limit c =
    let sheet = c.args.given.now.sheet.now in
    let limit = c.limit-limit.ensures.value in (
      omega (arith, limit, c.requires.by_index.2.0.within),
      (omega (arith, limit, limit_range sheet.bytes.now sheet.accepted), omega (arith, limit, room_of sheet.bytes.now sheet.accepted c.args.work.now c.requires.room)),
    )

pub returns-in_default-clause-turned : goal.returns-in_default-clause-turned
returns-in_default-clause-turned c =
    let sheet = c.args.given.now.sheet.now in
    λ st k turning. took_none sheet.bytes.now sheet.accepted turning c.limit-limit.ensures.value c.in_default.ensures.chosen

pub close-requires-clause-n_lt_made : goal.close-requires-clause-n_lt_made
close-requires-clause-n_lt_made c =
    let sheet = c.args.given.now.sheet.now in
    let limit = c.limit-limit.ensures.value in (
      c.in-Some.ensures.inside,
      omega (arith, limit, c.requires.by_index.2.0.within),
      (omega (arith, limit, limit_range sheet.bytes.now sheet.accepted), omega (arith, limit, room_of sheet.bytes.now sheet.accepted c.args.work.now c.requires.room)),
    )

pub collision_of-requires : goal.collision_of-requires
collision_of-requires c =
    let sheet = c.args.given.now.sheet.now in
    (c.requires.starts, omega (arith, c.close.auto.work, c.in-Some.ensures.inside, c.requires.by_index.2.0.within, room_of sheet.bytes.now sheet.accepted c.args.work.now c.requires.room))

pub returns-in_default-collision_of-clause-turned : goal.returns-in_default-collision_of-clause-turned
returns-in_default-collision_of-clause-turned c =
    let sheet = c.args.given.now.sheet.now in
    λ st k turning.
    let took = closed_is_taken sheet.bytes.now sheet.accepted turning c.limit-limit.ensures.value c.in-Some.node c.in-Some.ensures.chosen c.in-Some.ensures.inside c.close.ensures.closed in
    took_plan sheet.bytes.now sheet.accepted turning took c.requires.room c.in_default-collision_of.ensures

pub expanded-requires-clause-room : goal.expanded-requires-clause-room
expanded-requires-clause-room c =
    let sheet = c.args.given.now.sheet.now in
    let turning = c.requires.by_index.2 in
    let took = closed_is_taken sheet.bytes.now sheet.accepted turning c.limit-limit.ensures.value c.in-Some.node c.in-Some.ensures.chosen c.in-Some.ensures.inside c.close.ensures.closed in
    took_room sheet.bytes.now sheet.accepted turning took c.requires.room

pub expanded-requires-clause-held : goal.expanded-requires-clause-held
expanded-requires-clause-held c =
    let sheet = c.args.given.now.sheet.now in
    let turning = c.requires.by_index.2 in
    let took = closed_is_taken sheet.bytes.now sheet.accepted turning c.limit-limit.ensures.value c.in-Some.node c.in-Some.ensures.chosen c.in-Some.ensures.inside c.close.ensures.closed in
    (_, took_held sheet.bytes.now sheet.accepted turning took c.requires.room)

pub expanded-requires-clause-node_at : goal.expanded-requires-clause-node_at
expanded-requires-clause-node_at c =
    let sheet = c.args.given.now.sheet.now in
    let turning = c.requires.by_index.2 in
    let took = closed_is_taken sheet.bytes.now sheet.accepted turning c.limit-limit.ensures.value c.in-Some.node c.in-Some.ensures.chosen c.in-Some.ensures.inside c.close.ensures.closed in
    let good = took_good sheet.bytes.now sheet.accepted turning took c.requires.room c.in-Some-collision_of.ensures in
    (took_node_at sheet.bytes.now sheet.accepted turning took c.requires.room, good.0, good.1)

pub returns-clause-turned : goal.returns-clause-turned
returns-clause-turned c =
    let sheet = c.args.given.now.sheet.now in
    λ st k turning.
    let took = closed_is_taken sheet.bytes.now sheet.accepted turning c.limit-limit.ensures.value c.in-Some.node c.in-Some.ensures.chosen c.in-Some.ensures.inside c.close.ensures.closed in
    took_turned sheet.bytes.now sheet.accepted turning took c.requires.room c.in-Some-collision_of.ensures _ _ c.expanded.ensures.turned

pub returns-clause-lows : goal.returns-clause-lows
returns-clause-lows c = lows_kept c.expanded.ensures.same.keys (lows_limit _ c.limit-limit.ensures.value c.close.ensures.lows)
