-- Only the block of the node that is closed has another least key. Assumes nothing.
use Rattle.std.proofs.Common.{◌*◌, ◌/◌, ◌∙◌, refl, arith}
use Rattle.nodes.specs.Nodes.{block_end}
use Rattle.nodes.proofs.Blocks.{least_in_part, lows_closed}
use Rattle.nodes.proofs.close.Goals as goal

pub returns-clause-lows : goal.returns-clause-lows
returns-clause-lows c =
    let a = c.args in
    let b = block_end (a.n / 64) a.made in
    lows_closed a.n b _ (omega arith) c.close.ensures refl
    (least_in_part a.limit c.close.new.work c.keys.result.now (64 * (a.n / 64)) b (c.keys.ensures ∙ rw c.block_end.ensures) (omega arith) (omega arith) _ c.least.ensures) c.requires.lows_2
