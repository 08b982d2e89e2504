-- All words pass the test.
use Rattle.std.proofs.Common.{rules, refl, arith}
use Rattle.std.proofs.lemmas.Iterator.{YieldsList-from_range}
use Rattle.deck.specs.Sheet.{read, words, free}
use Rattle.sheet_parts.proofs.Words.{length_words}
use Rattle.meaning.proofs.Iterators.{all_indexed}
use Rattle.sheet_causes.proofs.places_free.Goals as goal

pub returns : goal.returns
returns c =
    all_indexed (free (read c.args.s.now)) (words c.args.p.now) 0 _ _ _ c.all.ensures.ran
    (YieldsList-from_range 0 _ _ refl (omega (arith, length_words c.args.p.now))) (λ x b q k. search rules)
