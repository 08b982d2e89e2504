-- A word of the finishes and twenty words of the paths. Assumes nothing.
use Rattle.std.proofs.Common.{◌≡◌, ◌-◌, length, arith}
use Rattle.pack.proofs.Trips.{length_pack}
use Rattle.records.proofs.Writes.{path_wrote}
use Rattle.records.proofs.put_path.Goals as goal

pub returns : goal.returns
returns c =
    let a = c.args in
    let last : length a.path.now - 1 ≡ a.last = omega (arith, c.requires.3) in
    path_wrote a.work.now _ a.n a.i.0 a.finish _ c.requires.0 c.requires.1 (length_pack a.w a.last a.path.now) (rw last at c.pack.ensures)
