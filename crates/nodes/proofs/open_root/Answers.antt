-- The root's key is its cost. Assumes nothing.
use Rattle.std.proofs.Common.{ℕ, List, refl, ◌∙◌, ap, arith}
use Rattle.records.specs.Record.{fields_at}
use Rattle.records.proofs.Frames.{key_record}
use Rattle.nodes.proofs.Makes.{root_added}
use Rattle.nodes.proofs.open_root.Goals as goal

pub returns-clause-added : goal.returns-clause-added
returns-clause-added c = λ d a f s r. root_added d c.args.limit c.args.work.now c.args.made a f s r _ _ (omega arith) (omega arith) (omega arith) refl c.open_node.ensures

pub returns-clause-by_index : goal.returns-clause-by_index
returns-clause-by_index c = λ k l. ap (λ (w : List ℕ). fields_at w k) c.open_node.ensures ∙ key_record c.args.work.now c.args.limit c.args.made k _ l (omega arith)
