-- The first five numbers, and behind them the tasks, as they are. Assumes nothing.
use Rattle.std.proofs.Common.{rules, arith, ◌≡◌, ◌<◌, length, ℕ, get_or, take_at, drop_at, append-nil}
use Rattle.std.proofs.lemmas.List.{same_lists}
use Rattle.numbers.proofs.with_tasks.Goals as goal

pub returns : goal.returns
returns c =
    let long = c.map.ensures.items.long in
    let each : (k d : ℕ) → k < length c.map.result → get_or c.map.result k d ≡ get_or c.args.tasks.now k d =
    λ k d l. let at = c.map.ensures.items.at k d d (omega (arith, long)) in search rules in
    let same : c.map.result ≡ c.args.tasks.now = same_lists _ _ (omega (arith, long)) each in
    rw (take_at c.copy_from_slice.new.self _ 5 c.copy_from_slice.ensures.len, drop_at c.copy_from_slice.new.self _ 5 c.copy_from_slice.ensures.len, append-nil, c.copy_from_slice-2.ensures.after, same, c.copy_from_slice.ensures.after)
