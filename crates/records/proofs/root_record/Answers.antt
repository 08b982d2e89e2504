-- Zeros, then the fields that are not. Assumes nothing.
use Rattle.std.proofs.Common.{ℕ, ◌∙◌, ap, replicate, rules}
use Rattle.records.proofs.Writes.{root_record}
use Rattle.records.proofs.root_record.Goals as goal

pub returns : goal.returns
returns c =
    root_record _ _ _ c.args.tasks c.args.closed c.args.row (c.fill.ensures.after (λ y e. e) ∙ ap (λ (n : ℕ). replicate n 0) c.requires.0)
    (c.copy_from_slice.ensures.after ∙ c.as_words.ensures) (c.copy_from_slice-2.ensures.after ∙ c.as_words-2.ensures) (search rules) (search rules)
