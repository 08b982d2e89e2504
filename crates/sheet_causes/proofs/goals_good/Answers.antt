-- The goals of all tasks of the count pass the test.
use Rattle.std.proofs.Common.{rules, refl, arith, []}
use Rattle.std.proofs.lemmas.Iterator.{YieldsList-from_range}
use Rattle.deck.specs.Lists.{all}
use Rattle.deck.specs.Sheet.{read, free, good_goals}
use Rattle.sheet_parts.proofs.Tasks.{tasks_length}
use Rattle.meaning.proofs.Iterators.{all_indexed}
use Rattle.sheet_causes.proofs.goals_good.Goals as goal

pub returns : goal.returns
unfolding good_goals
returns c =
    let d = read c.args.s.now in
    all_indexed (all (free d)) d.tasks [] _ _ _ c.all.ensures.ran
    (YieldsList-from_range 0 _ _ refl (omega (arith, c.count.ensures.value, tasks_length c.args.s.now))) (λ x b q k. search rules)
