-- The parent's record with a link, a constraint and a path of its own, and then the key. Assumes nothing.
use Rattle.std.proofs.Common.{◌∙◌, arith}
use Rattle.nodes.proofs.Makes.{child_made}
use Rattle.nodes.proofs.make_child_of.Goals as goal

pub returns : goal.returns
returns c = λ d ew eh g.
    let a = c.args in
    child_made d a.limit a.work.now c.copy_record.new.work c.set_origin.new.work c.put_path.new.work _ a.made a.n a.child.carrier.0 a.child.constraint a.finish a.path.now
    a.w a.last ew eh (omega arith) (omega arith) (omega arith) (omega arith) c.requires.n_lt_made.3 (c.put_path.auto.work ∙ c.set_origin.auto.work ∙ c.copy_record.auto.work)
    c.copy_record.ensures c.set_origin.ensures c.put_path.ensures c.open_node.ensures g
