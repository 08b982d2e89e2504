-- What is gathered and what is left along the links are the whole. Assumes nothing.
use Rattle.std.proofs.Common.{◌≡◌, ◌+◌, ◌≤◌, List, ◌++◌}
use Rattle.deck.specs.declared.Constraint.{Constraint}
use Rattle.nodes.specs.Listed.{Appended}
use Rattle.nodes.specs.Nodes.{binding_at}
use Rattle.nodes.proofs.gather.Given as goal

abbrev pub invariant-loop-origin : goal.invariant-loop-origin
invariant-loop-origin l = record {
  earlier : l.at ≤ l.n;
  few : l.list.count + l.at ≤ l.initial.list.count + l.n;
  whole : (taken : List Constraint) × Appended l.initial.list taken l.list × (taken ++ binding_at l.work l.at l.i ≡ binding_at l.work l.n l.i);
}

abbrev pub decreases-loop-origin : goal.decreases-loop-origin
decreases-loop-origin l = l.at
