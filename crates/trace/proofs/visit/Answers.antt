-- `visit` meets its contract: the goals that are the place are passed, up to the first that is not. Assumes nothing.
use Rattle.std.proofs.Common.{◌≡◌, ◌≢◌, ◌∙◌, drop, rules, tests}
use Rattle.std.proofs.lemmas.Iterator.{IsFirst-from_position, YieldsList-from_slice}
use Rattle.trace.proofs.Looking.{from_part, visited_some, visited_none}
use Rattle.trace.proofs.visit.Goals as goal

pub returns-in-Some : goal.returns-in-Some
returns-in-Some c =
    let a = c.args in
    let f = IsFirst-from_position c.position.new.self _ _ (λ x. x ≢ a.p) (λ x. x ≡ a.p) c.position.ensures.ran (YieldsList-from_slice (drop a.k a.goals.now) (c.iter.ensures.rest ∙ from_part a.goals.now a.k)) (λ x q g. search (rules, tests)) (λ x q g. search (rules, tests)) in
    visited_some a.goals.now a.k a.p c.requires (rw c.in-Some.is at f)

pub returns-in-None : goal.returns-in-None
returns-in-None c =
    let a = c.args in
    let f = IsFirst-from_position c.position.new.self _ _ (λ x. x ≢ a.p) (λ x. x ≡ a.p) c.position.ensures.ran (YieldsList-from_slice (drop a.k a.goals.now) (c.iter.ensures.rest ∙ from_part a.goals.now a.k)) (λ x q g. search (rules, tests)) (λ x q g. search (rules, tests)) in
    visited_none a.goals.now a.k a.p c.requires (rw c.in-None.is at f)
