-- `put_word` meets its contract. Assumes nothing.
use Rattle.std.proofs.Common.{ap₂, ℕ, ◌+◌, ◌*◌}
use Rattle.roots.proofs.Codes.{word_put}
use Rattle.roots.proofs.put_word.Goals as goal

pub returns : goal.returns
returns c =
    let a = c.args in
    let pre = c.requires in
    word_put a.work.now _ a.k _ c.set_tournament.ensures a.win a.own pre.2 pre.3 pre.1
    (ap₂ (λ (x y : ℕ). 16 * x + y) c.code_of-a.ensures.0 c.slot_code-b.ensures.0)
