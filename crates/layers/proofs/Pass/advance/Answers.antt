-- `Pass::advance` meets its contract: with no constraint at t over the mask or the doors, else over the ways that are left. Assumes nothing.
use Rattle.std.proofs.Common.{ap, length, arith}
use Rattle.bars.specs.Ways.{is_back}
use Rattle.layers.specs.Step.{bytes_of}
use Rattle.layers.proofs.Gating.{doors_of}
use Rattle.layers.proofs.Advancing.{plain_advanced, doors_advanced, ways_advanced}
use Rattle.layers.proofs.Pass.advance.Goals as goal

pub returns-in-Some : goal.returns-in-Some
returns-in-Some c =
    let s = c.args.self.now in
    let h = s.chains.now in
    let p = doors_of s.mask.now s.size.width s.size.height (is_back s.direction) s.doors s.passable in
    let d = c.in-Some.doors in
    doors_advanced s.size.width s.size.height s.mask.now d.now h.records.now h.carrier.0 c.args.t (is_back s.direction) c.args.src.now c.args.dst.now _
    s.size.wide.0 s.size.wide.1 s.size.high.1 (rw c.in-Some.is at p) c.told-dst (c.is_free_at.ensures c.if-is_free_at.true)
    (λ e. omega (arith, (s.passable.five d c.in-Some.is).size)) (rw (c.row-row.ensures, c.end-end.ensures) at c.spread_ways.ensures)

pub returns-in-None : goal.returns-in-None
returns-in-None c =
    let s = c.args.self.now in
    let h = s.chains.now in
    let p = doors_of s.mask.now s.size.width s.size.height (is_back s.direction) s.doors s.passable in
    plain_advanced s.size.width s.size.height s.mask.now (bytes_of s.doors) h.records.now h.carrier.0 c.args.t (is_back s.direction) c.args.src.now c.args.dst.now _
    s.size.wide.0 s.size.wide.1 s.size.high.1 p c.told-dst (c.is_free_at.ensures c.if-is_free_at.true)
    (ap (λ o. length (bytes_of o)) c.in-None.is) (rw (c.row-row.ensures, c.end-end.ensures) at c.spread.ensures)

pub returns-else-is_free_at : goal.returns-else-is_free_at
returns-else-is_free_at c =
    let s = c.args.self.now in
    let h = s.chains.now in
    let p = doors_of s.mask.now s.size.width s.size.height (is_back s.direction) s.doors s.passable in
    ways_advanced s.size.width s.size.height s.mask.now (bytes_of s.doors) h.records.now h.carrier.0 c.args.t (is_back s.direction) c.args.src.now c.args.dst.now _
    s.size.wide.0 s.size.wide.1 s.size.high.1 p c.told-dst _ _ s.on_grid c.ways-ways.ensures c.shut.ensures (rw (c.row-row.ensures, c.end-end.ensures) at c.spread_ways-else-is_free_at.ensures)
