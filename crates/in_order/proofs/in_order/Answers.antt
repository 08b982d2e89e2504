-- The count or the table is refused, or the first assignments are listed. Assumes nothing.
use Rattle.std.proofs.Common.{ℕ, ◌≡◌, ◌≢◌, ◌*◌, List, length, subst, Some, arith}
use Rattle.deck.specs.Calls.{assignment_cause}
use Rattle.deck.specs.declared.cause.Cause.TheVariants.{BadCount}
use Rattle.in_order.specs.Listed.{Listing}
use Rattle.in_order.proofs.Progress.{count_low, count_high, wrong_size, right_size, refused, accepted}
use Rattle.in_order.proofs.in_order.Goals as goal
use Rattle.in_order.proofs.in_order.Goals.{then-n-lt1-via-then-n-lt1, then-n-lt1-via-else-n-lt1+then-n-gt12, then-n-lt1-via-else-n-lt1+else-n-gt12+then-table-n}

pub returns-then-n-lt1 : goal.returns-then-n-lt1
returns-then-n-lt1 c =
    let a = c.args in
    let n = c.from-n.ensures in
    let cause : assignment_cause a.m a.table.now ≡ Some BadCount =
    elim c.then-n-lt1.branch [
      | then-n-lt1-via-then-n-lt1 w ↦ count_low a.m a.table.now (omega (arith, n, w.if-n-lt1.true))
      | then-n-lt1-via-else-n-lt1+then-n-gt12 w ↦ count_high a.m a.table.now (omega (arith, n, w.if-n-gt12.true))
      | then-n-lt1-via-else-n-lt1+else-n-gt12+then-table-n w ↦
          wrong_size a.m a.table.now (omega (arith, n, w.if-n-lt1.false)) (omega (arith, n, w.if-n-gt12.false)) (subst (λ (x : ℕ). length a.table.now ≢ x * x) n w.if-table-n.true)
    ] in
    refused a.m a.table.now a.work.now a.lists.now BadCount cause

pub returns : goal.returns
returns c =
    let a = c.args in
    let n = c.from-n.ensures in
    let k = c.room-most in
    let o = c.listed in
    let right = right_size a.m a.table.now (omega (arith, n, c.if-n-lt1.false)) (omega (arith, n, c.if-n-gt12.false)) (subst (λ (x : ℕ). length a.table.now ≡ x * x) n c.if-table-n.false) in
    let list =
    subst (λ (x : ℕ). Listing x a.table.now k.result o.result a.lists.now o.new.lists) n
    (subst (λ (t : List ℕ). Listing c.from-n.result t k.result o.result a.lists.now o.new.lists) c.filled-t.ensures o.ensures) in
    accepted a.m a.table.now a.work.now a.lists.now o.new.work o.new.lists k.result o.result right k.ensures.0 k.ensures.1 list
