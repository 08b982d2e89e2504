-- The first places are written, and q is the last of them. Assumes nothing.
use Rattle.std.proofs.Common.{◌≡◌, ◌+◌, ◌<◌, take}
use Rattle.pack.specs.Pack.{tab, shift, place_from}
use Rattle.pack.proofs.steps.Given as goal

abbrev pub invariant-loop-place : goal.invariant-loop-place
invariant-loop-place l = record {
  place : l.q ≡ place_from l.w l.p l.word l.place-index;
  fits : l.q < 65536;
  left : l.rest ≡ shift l.word l.place-index;
  written : take l.place-index l.out ≡ tab (λ j. place_from l.w l.p l.word (j + 1)) l.place-index;
}
