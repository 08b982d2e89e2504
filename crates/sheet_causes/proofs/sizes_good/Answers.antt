-- All tasks of the count pass the test.
use Rattle.std.proofs.Common.{rules, refl, arith}
use Rattle.std.proofs.lemmas.Iterator.{YieldsList-from_range}
use Rattle.deck.specs.Sheet.{count_of, task, task_stretch, goals_size}
use Rattle.meaning.proofs.Iterators.{all_below}
use Rattle.sheet_causes.proofs.sizes_good.Goals as goal

pub returns : goal.returns
returns c =
    all_below (count_of c.args.s.now) (λ j. goals_size (task_stretch c.args.s.now (task j)).size) _ _ _ c.all.ensures.ran
    (YieldsList-from_range 0 _ _ refl (omega (arith, c.count.ensures.value))) (λ x b q k. search rules)
