-- `AtTime::next` meets its contract: the next record of the walk gives the first constraint that is left. Assumes nothing.
use Rattle.std.proofs.Common.{◌≡◌, sym, ap, ◌∙◌, ◌∷◌, get_or}
use Rattle.bars.specs.Bars.{ours}
use Rattle.bars.specs.Rest.{rest_of}
use Rattle.bars.proofs.Walks.{walk_next, walk_gives, first_progress}
use Rattle.bars.proofs.AtTimeIterator.next.Goals as goal

pub invariant_of-self : goal.invariant_of-self
invariant_of-self c =
    let s = c.args.self.now in
    let h = s.chains.now in
    let w = walk_next h.records.now h.carrier.0 s.t h.heads h.links.now h.chained (record { within = s.within; own = s.own }) c.in_ok-k.ensures.0 c.in_ok-k.ensures.1 in
    record { within = w.within; own = w.own }

gives : (c : goal.After-constraint_at) → let s = c.args.self.now in let h = s.chains.now in
    rest_of s ≡ c.constraint_at.result ∷ ours h.records.now h.carrier.0 s.t (get_or h.links.now c.in_ok-k.k 0)
gives c =
    let s = c.args.self.now in
    let h = s.chains.now in
    walk_gives h.records.now h.carrier.0 s.t h.heads h.links.now h.chained (record { within = s.within; own = s.own }) c.in_ok-k.ensures.0 c.in_ok-k.ensures.1
    ∙ ap (λ b. b ∷ ours h.records.now h.carrier.0 s.t (get_or h.links.now c.in_ok-k.k 0)) (sym c.constraint_at.ensures.0)

pub returns-clause-steps : goal.returns-clause-steps
returns-clause-steps c = gives c

pub returns-clause-goes : goal.returns-clause-goes
returns-clause-goes c = first_progress rest_of (gives c)
