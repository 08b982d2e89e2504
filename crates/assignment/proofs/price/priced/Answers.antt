-- `assignment::price::priced` meets its contract. Assumes nothing.
use Rattle.std.proofs.Common.{refl}
use Rattle.assignment.proofs.price.priced.Goals as goal

pub returns : goal.returns
returns c =
    let r = c.requires.1 in
    let H = c.of.ensures r.0 r.1 in
    rw r.2 (record { list = r.0; least = r.1; sum = refl; tasks = refl; prices = (H.priced, H.zero.0, H.zero.1) })
