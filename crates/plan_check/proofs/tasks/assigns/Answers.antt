-- The first m numbers are below m, and differ. Assumes nothing.
use Rattle.std.proofs.Common.{rules, ◌≡◌, ltb, take, arith}
use Rattle.std.proofs.lemmas.Iterator.{YieldsList-from_slice}
use Rattle.deck.specs.Lists.{all}
use Rattle.meaning.proofs.Iterators.{all_yielded}
use Rattle.plan_check.proofs.TaskLists.{assigns_is}
use Rattle.plan_check.proofs.tasks.assigns.Goals as goal

pub returns-then-all : goal.returns-then-all
returns-then-all c =
    let below : c.all.result ≡ all (λ j. ltb j c.args.m) (take c.args.m c.args.tasks.now) =
    all_yielded (λ j. ltb j c.args.m) _ _ _ c.all.ensures.ran (YieldsList-from_slice (take c.args.m c.args.tasks.now) cc) (λ x b q k. search rules) in
    rw (assigns_is c.args.m c.args.tasks.now (omega arith), ← below, c.if-all.true) c.all_differ.ensures

pub returns-else-all : goal.returns-else-all
returns-else-all c =
    let below : c.all.result ≡ all (λ j. ltb j c.args.m) (take c.args.m c.args.tasks.now) =
    all_yielded (λ j. ltb j c.args.m) _ _ _ c.all.ensures.ran (YieldsList-from_slice (take c.args.m c.args.tasks.now) cc) (λ x b q k. search rules) in
    rw (assigns_is c.args.m c.args.tasks.now (omega arith), ← below, c.if-all.false)
