-- `assignment::price::prices` meets its contract. Assumes nothing.
use Rattle.std.proofs.Common.{arith, ℤ, sym, subst, to_z-of_z, SFits, w32}
use Rattle.assignment.proofs.Priced.{prices_more}
use Rattle.assignment.proofs.price.prices.Goals as goal

pub loop-k-preserved : goal.loop-k-preserved
loop-k-preserved g c =
    let fits : SFits w32 c.price.result = record { sfits = c.price.type_inv } in
    let own = subst (λ (z : ℤ). g.F.Fn.post c.args.price (c.loop-k.k, tt {0}) z) (sym (to_z-of_z fits)) c.price.ensures in
    prices_more _ c.loop-k.k c.loop-k.own-items _ (omega arith) own c.loop-k.invariant
