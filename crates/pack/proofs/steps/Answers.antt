-- The first places are written, and q is the last of them. Assumes nothing.
use Rattle.std.proofs.Common.{◌%◌, refl, arith}
use Rattle.pack.specs.Pack.{tab, moved_of, shift, place_from}
use Rattle.pack.proofs.Loops.{tab_more, from_more, shift_more, differences_fit}
use Rattle.pack.proofs.steps.Goals as goal

pub loop-place-init : goal.loop-place-init
unfolding place_from shift tab
loop-place-init c = record { place = refl; fits = omega arith; left = refl; written = refl }

pub overflow_add-sum : goal.overflow_add-sum
overflow_add-sum c = omega (arith, differences_fit c.args.w (c.loop-place.rest % 5) c.requires)

pub loop-place-preserved : goal.loop-place-preserved
unfolding moved_of
loop-place-preserved c =
    let s = c.loop-place.invariant in
    let place = from_more c.args.w c.args.p c.args.word c.loop-place.place-index c.loop-place.q c.loop-place.rest s.place s.left in
    record {
      place = rw c.from.ensures place;
      fits = omega arith;
      left = shift_more c.args.word c.loop-place.place-index c.loop-place.rest s.left;
      written = tab_more _ c.loop-place.out c.loop-place.place-index _ (omega arith) (rw c.from.ensures place) s.written;
    }
