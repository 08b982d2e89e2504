-- All numbers from m on are 255. Assumes nothing.
use Rattle.std.proofs.Common.{rules, arith, ◌≡◌, ◌∙◌, ◌-◌, eqb, take, drop, take_all, length-drop}
use Rattle.std.proofs.lemmas.Iterator.{YieldsList-from_slice}
use Rattle.meaning.proofs.Iterators.{all_yielded}
use Rattle.plan_check.proofs.TaskLists.{turned}
use Rattle.plan_check.proofs.tasks.ends.Goals as goal

pub returns : goal.returns
returns c =
    all_yielded (eqb 255) _ _ _ c.all.ensures.ran (YieldsList-from_slice (drop c.args.m c.args.tasks.now) (let r : c.iter.result.rest.now ≡ take (12 - c.args.m) (drop c.args.m c.args.tasks.now) = cc in r ∙ take_all _ _ (omega (arith, length-drop c.args.m c.args.tasks.now))))
    (λ x b q k. let s : (q ≡ _) × (b ≡ eqb x.now 255) = search rules in (s.0, s.1 ∙ turned _ _))
