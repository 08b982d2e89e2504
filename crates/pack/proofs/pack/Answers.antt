-- The first k words are written. Assumes nothing.
use Rattle.std.proofs.Common.{◌∙◌, refl, arith}
use Rattle.pack.specs.Pack.{tab, word_at, pack_of}
use Rattle.pack.proofs.Loops.{tab_more, tab_all}
use Rattle.pack.proofs.pack.Goals as goal

pub loop-k-init : goal.loop-k-init
unfolding tab
loop-k-init c = refl

pub loop-k-preserved : goal.loop-k-preserved
unfolding word_at
loop-k-preserved c = tab_more _ c.loop-k.out c.loop-k.k _ (omega arith) (c.chunk.ensures ∙ rw c.steps_in.ensures) c.loop-k.invariant

pub returns : goal.returns
unfolding pack_of
returns c = tab_all _ _ c.loop-k.k 20 (omega arith) (omega arith) c.loop-k.invariant
