-- At most 12 tasks make at most `most_pairs` pairs.
use Rattle.std.proofs.Common.{arith, refl, ◌≤◌, length-take, replicate}
use Rattle.deck.specs.Sheet.{pair_at}
use Rattle.deck.specs.Calls.{most_pairs, nowhere, reading_of}
use Rattle.meaning.proofs.Dark.{most_carriers}
use Rattle.sheet.proofs.Fills.{fill_more, filled}
use Rattle.sheet.proofs.reading_of.Goals as goal

pub slice_bounds-pairs-end : goal.slice_bounds-pairs-end
slice_bounds-pairs-end c = omega (arith, most_carriers c.args.s.now c.requires)

pub slice_bounds-pair-items-end : goal.slice_bounds-pair-items-end
slice_bounds-pair-items-end c =
    omega (arith, length-take c.pairs.result (replicate most_pairs nowhere), most_carriers c.args.s.now c.requires)

pub loop-k-preserved : goal.loop-k-preserved
loop-k-preserved c =
    rw c.pair_at.ensures.value (fill_more (pair_at c.args.s.now) c.loop-k.k c.loop-k.pair-items (omega arith) c.loop-k.invariant)

pub returns : goal.returns
unfolding reading_of
returns c =
    let few : c.pairs.result ≤ most_pairs = omega (arith, most_carriers c.args.s.now c.requires) in
    let long = length-take c.pairs.result (replicate most_pairs nowhere) in
    rw (c.width.ensures.value, c.height.ensures.value, c.count.ensures.value, c.horizon.ensures.value, c.limit.ensures.value, filled (pair_at c.args.s.now) c.pairs.result c.loop-k.k c.loop-k.pair-items (omega (arith, long)) (omega (arith, long)) c.loop-k.invariant few, c.pairs.ensures.value)
    refl
