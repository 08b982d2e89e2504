-- One node more at each turn. Assumes nothing.
use Rattle.std.proofs.Common.{◌≡◌, ◌+◌, ◌∙◌, get_or, arith}
use Rattle.records.specs.Record.{key_at}
use Rattle.nodes.proofs.Blocks.{size, key, lows_at, lows_more}
use Rattle.nodes.proofs.enter.Goals as goal

pub loop-k-preserved : goal.loop-k-preserved
loop-k-preserved c =
    let a = c.args in
    let k = c.loop-k.k in
    let keys = c.keys-key-items in
    let long = size a.limit a.work.now keys.result.now a.from a.made keys.ensures (omega arith) (omega arith) in
    let read : get_or keys.result.now k 0 ≡ key_at a.limit a.work.now (a.from + k) =
    key a.limit a.work.now keys.result.now a.from a.made keys.ensures (omega arith) (omega arith) k (omega arith) in
    lows_at (a.from + (k + 1)) (omega arith) (lows_more _ (omega arith) (c.min.ensures ∙ rw read) c.loop-k.invariant)
