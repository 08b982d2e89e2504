-- `Chains::move_free` meets its contract: each constraint of the time is asked. Assumes nothing.
use Rattle.std.proofs.Common.{rules, not, sym, ◌∙◌}
use Rattle.std.proofs.lemmas.Iterator.Consumers.{YieldsList-from_first}
use Rattle.std.proofs.lemmas.Iterator.Search.{all_from_yields_List}
use Rattle.bars.specs.Bars.{moves}
use Rattle.bars.specs.Rest.{rest_of}
use Rattle.bars.proofs.Records.{move_ours}
use Rattle.bars.proofs.Chains.move_free.Goals as goal

pub returns : goal.returns
returns c = all_from_yields_List (λ b. not (moves c.args.u c.args.v b)) c.all.new.self _ _ c.all.ensures.ran (YieldsList-from_first (λ x. x) rest_of _ c.at.ensures) (λ x b q k. search rules)
    ∙ sym (move_ours c.args.self.now.records.now c.args.self.now.carrier.0 c.args.t c.args.u c.args.v)
