-- The places up to `at` are written, thirteen for each word. Assumes nothing.
use Rattle.std.proofs.Common.{◌≡◌, ◌+◌, ◌*◌, min, take}
use Rattle.pack.specs.Pack.{tab, place_in}
use Rattle.pack.proofs.unpack.Given as goal

abbrev pub invariant-loop-word : goal.invariant-loop-word
invariant-loop-word l = record {
  reached : l.at ≡ min (13 * l.word-index) l.last;
  place : l.p ≡ place_in l.w l.fn.words l.start l.at;
  written : take (l.at + 1) l.out ≡ tab (place_in l.w l.fn.words l.start) (l.at + 1);
}
