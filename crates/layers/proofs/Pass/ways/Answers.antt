-- `Pass::ways` meets its contract: a copy of the doors, or five of the mask. Assumes nothing.
use Rattle.layers.proofs.Advancing.{copies_doors}
use Rattle.layers.proofs.Pass.ways.Goals as goal

pub returns-in-Some : goal.returns-in-Some
returns-in-Some c =
    let s = c.args.self.now in
    let d = c.in-Some.doors in
    rw c.in-Some.is (copies_doors s.mask.now d.now (s.passable.five d c.in-Some.is).size)
