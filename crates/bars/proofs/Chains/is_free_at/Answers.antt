-- `Chains::is_free_at` meets its contract: a chain without a record bars nothing. Assumes nothing.
use Rattle.std.proofs.Common.{sym, ap, ◌∙◌, not, get_or, eqb-true}
use Rattle.std.specs.List.{list_all}
use Rattle.bars.specs.Bars.{count_in, moves, ours}
use Rattle.bars.proofs.Walks.{ours_chain}
use Rattle.bars.proofs.Records.{move_ours}
use Rattle.bars.proofs.Chains.is_free_at.Goals as goal

pub returns : goal.returns
returns c e u v =
    let s = c.args.self.now in
    move_ours s.records.now s.carrier.0 c.args.t u v
    ∙ ap (list_all (λ b. not (moves u v b)))
    (ours_chain s.records.now s.carrier.0 c.args.t (count_in s.records.now)
    ∙ ap (ours s.records.now s.carrier.0 c.args.t) (sym (s.chained.head c.args.t c.requires) ∙ eqb-true (get_or s.heads c.args.t 0) 0 e))
