-- `turns::collision_of` meets its contract: the paths that are written are the node's. Assumes nothing.
use Prim.Native.Nat.{ℕ, ◌+◌, ◌*◌, ◌≤◌}
use Rattle.std.proofs.Common.{mul-le-mul, add-one, arith}
use Rattle.expand.specs.Given.{sheet_of}
use Rattle.sheet.proofs.Accepted.{width_range, count_range, horizon_range}
use Rattle.turns.proofs.Turning.{node_collision}
use Rattle.turns.proofs.collision_of.Goals as goal

-- the words of all paths fit the array
words_fit : (m last : ℕ) → m ≤ 12 → last ≤ 255 → m * (last + 1) ≤ 3072
words_fit m last a b = let l : last + 1 ≤ 256 = omega arith in omega (arith, mul-le-mul a l)

pub write_paths-requires : goal.write_paths-requires
write_paths-requires c =
    let sheet = c.args.given.now.sheet.now in
    let m = c.count-m.ensures.value in
    let last = c.horizon-last.ensures.value in (
      c.requires.1,
      omega (arith, m, count_range sheet.bytes.now sheet.accepted),
      omega (arith, m, count_range sheet.bytes.now sheet.accepted),
      omega (arith, c.width.ensures.value, width_range sheet.bytes.now sheet.accepted),
      omega (arith, last, horizon_range sheet.bytes.now sheet.accepted),
      omega (arith, words_fit c.count-m.result c.horizon-last.result (omega (arith, m, count_range sheet.bytes.now sheet.accepted)) (omega (arith, last, horizon_range sheet.bytes.now sheet.accepted))),
    )

pub first_among-requires : goal.first_among-requires
first_among-requires c =
    let sheet = c.args.given.now.sheet.now in
    let m : c.count-m.result ≤ 12 = omega (arith, c.count-m.ensures.value, count_range sheet.bytes.now sheet.accepted) in
    let last : c.horizon-last.result ≤ 255 = omega (arith, c.horizon-last.ensures.value, horizon_range sheet.bytes.now sheet.accepted) in
    (rw (← add-one c.horizon-last.result) (omega (arith, c.write_paths.auto.out, words_fit c.count-m.result c.horizon-last.result m last)), omega arith)

pub returns : goal.returns
returns c =
    node_collision (sheet_of c.args.given.now) c.args.work.now c.args.n _ _ _ c.args.starts.now
    c.width.ensures.value
    c.horizon-last.ensures.value
    c.count-m.ensures.value c.requires.0 _ _ _
    c.write_paths.ensures c.first_among.ensures
