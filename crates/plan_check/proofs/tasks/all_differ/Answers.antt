-- The numbers that are left differ where all do. Assumes nothing.
use Rattle.std.proofs.Common.{rules, sym, ◌∙◌, ◌≡◌, ◌∷◌, true, false}
use Rattle.deck.specs.Lists.{has}
use Rattle.plan_check.proofs.TaskLists.{any_has}
use Rattle.plan_check.proofs.tasks.all_differ.Goals as goal

pub returns-then-contains : goal.returns-then-contains
returns-then-contains c =
    let parts : c.loop-x.rest.now ≡ c.in-Some.x.now ∷ c.in-Some.tail.now = search rules in
    let again : has c.in-Some.x.now c.in-Some.tail.now ≡ true = sym (any_has c.in-Some.x.now c.in-Some.tail.now) ∙ sym c.contains.ensures.value ∙ c.if-contains.true in
    sym (rw (parts, again) at c.loop-x.invariant)

pub loop-x-preserved : goal.loop-x-preserved
loop-x-preserved c =
    let parts : c.loop-x.rest.now ≡ c.in-Some.x.now ∷ c.in-Some.tail.now = search rules in
    let once : has c.in-Some.x.now c.in-Some.tail.now ≡ false = sym (any_has c.in-Some.x.now c.in-Some.tail.now) ∙ sym c.contains.ensures.value ∙ c.if-contains.false in
    rw (parts, once) at c.loop-x.invariant
