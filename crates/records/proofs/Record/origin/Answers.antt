-- The link less one, and the constraint. Assumes nothing.
use Rattle.std.proofs.Common.{◌∙◌, arith}
use Rattle.records.specs.Record.{link_in, own_in}
use Rattle.records.proofs.Fields.{no_origin, origin_is}
use Rattle.records.proofs.Record.origin.Goals as goal

pub returns-in_err-parent : goal.returns-in_err-parent
returns-in_err-parent c =
    let none = rw (c.in_err-parent.was, c.head-head.ensures) at c.checked_sub.ensures in
    c.from_residual.ensures ∙ no_origin (link_in c.args.self.now) (own_in c.args.self.now) (λ h. none (omega (arith, h)))

pub returns : goal.returns
returns c =
    let some = rw (c.in_ok-parent.was, c.head-head.ensures) at c.checked_sub.ensures in
    rw c.head-head.ensures (origin_is (link_in c.args.self.now) _ _ some)
