-- The paths of the first i carriers are written. Assumes nothing.
use Rattle.std.proofs.Common.{◌<◌, ◌≤◌, ◌≡◌, ◌+◌, ◌*◌, ◌-◌, ◌∙◌, arith, length, length-take, get_or-take}
use Rattle.std.proofs.lemmas.List.Edits.{length-between}
use Rattle.std.specs.List.{between}
use Rattle.nodes.proofs.Rows.{rows_more}
use Rattle.nodes.proofs.write_paths.Goals as goal

pub loop-i-preserved : goal.loop-i-preserved
loop-i-preserved c =
    let a = c.args in
    let i = c.loop-i.i in
    let low : i < a.m = omega (arith, c.loop-i-test.true, length-take a.m a.starts.now) in
    let from = i * (a.last + 1) in
    let room : from + (a.last + 1) ≤ length c.loop-i.out = grind (arith, c.loop-i.auto.out, c.requires.5, low) in
    let last : length (between from (from + (a.last + 1)) c.loop-i.out) - 1 ≡ a.last = omega (arith, length-between c.loop-i.out from (from + (a.last + 1)) room) in
    rows_more a.w a.last a.starts.now c.at-record.result i a.out.now c.loop-i.out c.unpack.new.out
    (c.unpack.ensures ∙ rw (c.path-path.ensures.words, last, get_or-take a.m a.starts.now i 0 low)) c.loop-i.invariant
