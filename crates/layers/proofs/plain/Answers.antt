-- `plain` meets its contract: where the farthest byte is 0 away, none is that of a lane. Assumes nothing.
use Rattle.std.proofs.Common.{sym, ◌∙◌, arith, eqb-true}
use Rattle.layers.proofs.Lanes.{plain_of}
use Rattle.layers.proofs.plain.Goals as goal

pub returns : goal.returns
returns c = λ e.
    let none = eqb-true c.farthest-worst.result 0 e in
    plain_of c.args.mask.now c.args.first c.args.end c.fits-mask (omega (arith, c.told-mask)) (sym c.farthest-worst.ensures ∙ none)
