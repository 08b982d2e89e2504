-- The first of the least keys is the node that the definition takes. Assumes nothing.
use Rattle.std.proofs.Common.{◌+◌, ◌*◌, ◌≡◌, refl, ◌∙◌, arith}
use Rattle.nodes.specs.Nodes.{FirstIn, block_end}
use Rattle.nodes.proofs.Picks.{picked_nothing, picked_open}
use Rattle.nodes.proofs.Blocks.{no_less, first_in_part, block_begun, node_inside, node_key, none_before}
use Rattle.nodes.proofs.cheapest.Goals as goal
use Rattle.nodes.proofs.cheapest.Goals.{After-first_of}

-- the node is the first of its block with the least key
first_in : (c : After-first_of) → FirstIn c.args.limit c.args.work.now (64 * c.first_of-b.result) (block_end c.first_of-b.result c.args.made) c.least-v.result (64 * c.first_of-b.result + c.first_of.result)
first_in c =
    let begun = block_begun (omega arith) c.requires.lows c.least-v.ensures c.if-v-eq-CLOSED_KEY.false c.first_of-b.ensures in
    first_in_part c.args.limit c.args.work.now c.keys-keys.result.now (64 * c.first_of-b.result) (block_end c.first_of-b.result c.args.made) (c.keys-keys.ensures ∙ rw c.block_end.ensures) begun (omega arith) _ _ c.first_of.ensures

pub returns-then-v-eq-CLOSED_KEY-clause-chosen : goal.returns-then-v-eq-CLOSED_KEY-clause-chosen
returns-then-v-eq-CLOSED_KEY-clause-chosen c =
    λ d f s. picked_nothing d c.args.limit c.args.work.now c.args.made f s _ (no_less (omega arith) c.requires.lows c.least-v.ensures) c.if-v-eq-CLOSED_KEY.true

pub returns-clause-inside : goal.returns-clause-inside
returns-clause-inside c = node_inside (omega arith) c.requires.lows c.least-v.ensures c.if-v-eq-CLOSED_KEY.false c.first_of-b.ensures (first_in c)

pub returns-clause-chosen : goal.returns-clause-chosen
returns-clause-chosen c =
    let m : c.args.made ≡ c.args.made = refl in
    let w = c.requires.lows in
    let l = c.least-v.ensures in
    let ne = c.if-v-eq-CLOSED_KEY.false in
    let f = c.first_of-b.ensures in λ d u s.
    picked_open d c.args.limit c.args.work.now c.args.made u s _ (no_less (omega arith) w l) _ _ (omega arith) (omega arith) (omega arith) ne
    (node_inside (omega arith) w l ne f (first_in c)) (node_key (omega arith) w l ne f (first_in c)) (none_before (omega arith) w l ne f (first_in c)) refl
