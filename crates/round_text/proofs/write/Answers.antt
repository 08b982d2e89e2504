-- `round_text::write` meets its contract: the listing of the search's answer is that of the sheet. Assumes nothing.
use Rattle.std.proofs.Common.{rules, ◌∙◌}
use Rattle.round_text.proofs.Same.{call_listed}
use Rattle.round_text.proofs.Long.{listing_long}
use Rattle.round_text.proofs.write.Goals as goal

pub returns-clause-listed : goal.returns-clause-listed
returns-clause-listed c = call_listed c.answer-a.result (search rules) (search rules) c.answer-a.ensures (λ ok. c.list.ensures.whole ok (search rules))

pub returns-clause-long : goal.returns-clause-long
returns-clause-long c long rest =
    call_listed c.answer-a.result (search rules) (search rules) c.answer-a.ensures (λ ok. c.list.ensures.whole ok (search rules))
    ∙ listing_long c.args.s.now rest long
