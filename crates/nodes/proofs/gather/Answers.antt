-- What is gathered and what is left along the links are the whole. Assumes nothing.
use Rattle.std.proofs.Common.{◌∷◌, [], List, ◌++◌, append-nil, append_assoc, sym, ◌∙◌, ap, subst, arith}
use Rattle.deck.specs.Lists.{select}
use Rattle.deck.specs.declared.Constraint.{Constraint}
use Rattle.records.specs.Record.{origin_in}
use Rattle.nodes.specs.Listed.{Appended}
use Rattle.nodes.specs.Nodes.{binds, binding_at}
use Rattle.nodes.proofs.Gathers.{origin_up, origin_none, appended_then}
use Rattle.nodes.proofs.gather.Goals as goal

pub loop-origin-preserved : goal.loop-origin-preserved
loop-origin-preserved c =
    let s = c.loop-origin.invariant in
    let o = c.in-Some.origin in
    let one = select (binds c.args.i) (o.constraint ∷ []) in
    let left = binding_at c.args.work.now o.parent c.args.i in
    let up = origin_up c.args.work.now c.args.n c.args.i c.requires.linked c.loop-origin.at s.earlier o (sym (c.in-Some.ensures ∙ ap origin_in c.at.ensures)) in
    record {
      earlier = omega (arith, up.0, s.earlier);
      few = omega (arith, up.0, s.few, c.append.ensures.few);
      whole = (
        s.whole.0 ++ one,
        appended_then s.whole.1 c.append.ensures.appended,
        append_assoc s.whole.0 one left ∙ ap (λ (t : List Constraint). s.whole.0 ++ t) (sym up.2) ∙ s.whole.2,
      );
    }

pub returns-clause-appended : goal.returns-clause-appended
returns-clause-appended c =
    let s = c.loop-origin.invariant in
    let taken = s.whole.0 in
    let none = origin_none c.args.work.now c.args.n c.args.i c.requires.linked c.loop-origin.at s.earlier (sym (c.in_default.ensures ∙ ap origin_in c.at.ensures)) in
    let all = sym (append-nil taken) ∙ ap (λ (t : List Constraint). taken ++ t) (sym none) ∙ s.whole.2 in
    subst (λ (cs : List Constraint). Appended c.args.list.now cs c.loop-origin.list) all s.whole.1
