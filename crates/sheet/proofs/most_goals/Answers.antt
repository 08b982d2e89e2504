-- The most of all tasks is the maximum of their numbers. Assumes nothing.
use Rattle.std.proofs.Common.{rules, ℕ, max, map, refl, sym, ◌∙◌, ap, arith, length}
use Rattle.std.specs.List.{reduce}
use Rattle.std.proofs.lemmas.Iterator.{YieldsList-from_range, YieldsList-from_map}
use Rattle.std.proofs.lemmas.Iterator.Consumers.{max_from_yields_List}
use Rattle.std.proofs.lemmas.List.FromFn.{fill_by_all}
use Rattle.deck.specs.Sheet.{count_of, task, read, goals_of}
use Rattle.sheet_parts.proofs.Tasks.{each_task_length, each_task_at}
use Rattle.meaning.proofs.Greatest.{greatest_reduced}
use Rattle.sheet.proofs.most_goals.Goals as goal

pub returns-clause-value : goal.returns-clause-value
returns-clause-value c =
    let s = c.args.s.now in
    let number : ℕ → ℕ = λ j. length (goals_of (read s) (task j)) in
    let all = fill_by_all number (map length (read s).tasks) (count_of s) 0 (each_task_length length s) (λ k l. each_task_at length s k refl) in
    let most = max_from_yields_List c.map.result c.max.result c.max.ensures.ran (YieldsList-from_map _ number (YieldsList-from_range 0 c.count.result (count_of s) c.map.ensures.source (omega (arith, c.count.ensures.value))) c.map.ensures.closure (λ x r q k. search rules)) in
    c.unwrap_or.ensures ∙ greatest_reduced (map length (read s).tasks) c.max.result (most ∙ ap (reduce max) (sym all))
