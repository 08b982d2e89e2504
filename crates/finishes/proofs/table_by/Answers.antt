-- `table_by` meets its contract: one column more is that of the table. Assumes nothing.
use Rattle.std.proofs.Common.{ℕ, ◌<◌, ◌≡◌, length, take, refl, subst, ◌∙◌, arith, rules}
use Rattle.deck.specs.Sheet.{read, count_of, task}
use Rattle.finishes.specs.Entries.{steps_in}
use Rattle.finishes.proofs.Marks.{starts_taken, unknown_taken}
use Rattle.finishes.proofs.Sweeps.{goals_turned, goals_on, none_off_grid}
use Rattle.finishes.proofs.Tabled.{Columns, columns_more, columns_all}
use Rattle.finishes.proofs.table_by.Goals as goal

pub invariant_of-sweep : goal.invariant_of-sweep
invariant_of-sweep c =
    let s = c.args.sheet.now in
    let on = goals_on s.bytes.now s.accepted (task c.loop-j.j) (omega (arith, c.count-m.ensures.value)) c.args.size c.args.mask.now c.args.chains.now c.args.doors c.requires _ _ c.of.ensures (c.all.ensures ∙ c.turned-goals.ensures) in
    let grid = none_off_grid s.bytes.now s.accepted (task c.loop-j.j) (omega (arith, c.count-m.ensures.value)) c.args.size c.args.mask.now c.args.chains.now c.args.doors c.requires _ _ c.of.ensures (c.all.ensures ∙ c.turned-goals.ensures) in
    record { passable = c.requires.passable; on_grid = grid; few_goals = on.0; goals_on = on.1 }

pub invariant_of-sweep-in-loop-j : goal.invariant_of-sweep-in-loop-j
invariant_of-sweep-in-loop-j c =
    let s = c.args.sheet.now in
    let inside : c.loop-j.j < count_of s.bytes.now = omega (arith, c.count-m.ensures.value, c.loop-j-test.true) in
    record {
      serves = record {
        task_in = inside;
        serving = c.requires;
        backward = refl;
        turned = goals_turned s.bytes.now s.accepted (task c.loop-j.j) inside c.args.size c.args.mask.now c.args.chains.now c.args.doors c.requires _ _ c.of.ensures (c.all.ensures ∙ c.turned-goals.ensures);
      };
    }

pub enter-requires-clause-starts : goal.enter-requires-clause-starts
enter-requires-clause-starts c = starts_taken _ _ c.args.sheet.now.bytes.now c.count-m.ensures.value c.entries_of-starts.ensures.starts

pub enter-requires-clause-unknown : goal.enter-requires-clause-unknown
enter-requires-clause-unknown c = unknown_taken _ _ c.entries_of-starts.ensures.unknown

pub loop-j-preserved : goal.loop-j-preserved
loop-j-preserved c =
    let p = c.put_column.ensures in
    let long : length (take c.count-m.result c.entries_of-starts.result) ≡ c.count-m.result = search rules in
    columns_more (read c.args.sheet.now.bytes.now) c.loop-j.j (steps_in c.enter.new.entries) c.loop-j.table c.put_column.new.table (omega arith) c.enter.ensures
    (λ i h. p.column i (omega (arith, long, c.enter.auto.entries, c.count-m.ensures.value))) p.others p.size c.loop-j.invariant

pub returns : goal.returns
returns c =
    let s = c.args.sheet.now.bytes.now in
    let e : c.loop-j.j ≡ count_of s = omega (arith, c.count-m.ensures.value, c.loop-j-test.false) in
    columns_all (read s) c.loop-j.table (subst (λ (z : ℕ). Columns (read s) z c.loop-j.table) e c.loop-j.invariant)
