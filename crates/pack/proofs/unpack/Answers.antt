-- The places up to `at` are written, thirteen for each word. Assumes nothing.
use Rattle.std.proofs.Common.{◌≡◌, ◌+◌, ◌-◌, ◌*◌, ◌≤◌, length, refl, ◌∙◌, arith, length-take, length-set}
use Rattle.std.proofs.lemmas.List.{get_or-take}
use Rattle.std.proofs.lemmas.List.Edits.{length-between}
use Rattle.std.specs.List.{between}
use Rattle.pack.specs.Pack.{tab, place_in, unpack_of}
use Rattle.pack.proofs.Loops.{tab_more, tab_all, stretch_place, stretch_more}
use Rattle.pack.proofs.unpack.Goals as goal

pub loop-word-init : goal.loop-word-init
unfolding place_in tab
loop-word-init c = record { reached = omega arith; place = refl; written = tab_more (place_in c.args.w c.args.words.now c.args.start) c.args.out.now 0 _ (omega arith) refl refl }

pub loop-word-preserved : goal.loop-word-preserved
loop-word-preserved c =
    let a = c.args in
    let loop = c.loop-word in
    let n = c.steps_in-n.result in
    let few : n ≤ 13 = omega (arith, c.steps_in-n.ensures) in
    let start : loop.at ≡ 13 * loop.word-index = omega (arith, loop.invariant.reached, c.loop-word-test.true, length-take c.div_ceil.result a.words.now) in
    let size : length loop.out ≡ (length a.out.now - 1) + 1 = loop.auto.out ∙ length-set a.out.now 0 _ ∙ omega (arith, c.requires.2) in
    let room : loop.at + 1 + n ≤ length loop.out = omega (arith, c.steps_in-n.ensures) in
    let word = get_or-take c.div_ceil.result a.words.now loop.word-index 0 (omega (arith, c.loop-word-test.true, length-take c.div_ceil.result a.words.now)) in
    let stretch = rw word at c.stretch-p.ensures in
    let long : length (between (loop.at + 1) (loop.at + 1 + n) loop.out) ≡ n = length-between loop.out (loop.at + 1) (loop.at + 1 + n) room ∙ omega arith in
    record {
      reached = omega (arith, c.steps_in-n.ensures);
      place = stretch_place a.w a.words.now a.start loop.word-index loop.at n loop.p _ start few loop.invariant.place long _ stretch.0;
      written = stretch_more a.w a.words.now a.start loop.word-index loop.at n loop.p _ start few loop.invariant.place long loop.out _ room stretch.1 loop.invariant.written;
    }

pub returns : goal.returns
unfolding unpack_of
returns c = tab_all _ _ (c.loop-word.at + 1) ((length c.args.out.now - 1) + 1) (omega (arith, length-take c.div_ceil.result c.args.words.now)) (c.loop-word.auto.out ∙ length-set c.args.out.now 0 _ ∙ omega (arith, c.requires.2)) c.loop-word.invariant.written
