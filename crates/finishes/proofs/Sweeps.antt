-- The backward pass of one task without constraints: its layers, and its column. Assumes nothing.
use Rattle.std.proofs.Common.{ℕ, ◌+◌, ◌-◌, ◌≤◌, ◌<◌, ◌≡◌, ◌≢◌, sym, ◌∙◌, subst, List, [], reverse, length, get_or, replicate, Option, None, Bor, arith}
use Rattle.std.proofs.lemmas.List.{length-map, length-reverse}
use Rattle.deck.specs.Sheet.{Sheet, read, count_of, carrier, start_of, goals_of, last_goal, cause}
use Rattle.deck.specs.Calls.{constraints_of}
use Rattle.deck.specs.declared.Task.{Task}
use Rattle.sheet.proofs.Accepted.{count_range, start_on_grid}
use Rattle.kernel.specs.Labels.{all_goals}
use Rattle.kernel.specs.Kernel.{hind}
use Rattle.kernel.proofs.Table.{hind_timeless}
use Rattle.bars.specs.Padded.{pad_of, Holds}
use Rattle.bars.specs.Ways.{is_back}
use Rattle.bars.specs.Bars.{OnLayer}
use Rattle.bars.specs.declared.Size.{Size}
use Rattle.bars.specs.declared.Chains.{Chains}
use Rattle.layers.specs.Raise.{Indexes}
use Rattle.layers.specs.Step.{Margin, Stepped, Seeded}
use Rattle.layers.specs.declared.Pass.{Pass}
use Rattle.layers.proofs.Stepping.{holds_margin}
use Rattle.passes.specs.Ready.{Ready, GoalsOf, Turned}
use Rattle.passes.proofs.Given.{all_counted}
use Rattle.passes.proofs.Turning.{turned_goals}
use Rattle.passes.proofs.Passing.{holds_same, hind_first, hind_next, back_on, zeros_margin}
use Rattle.finishes.specs.Entries.{starts_in, steps_in, Unknown, Starts, steps, Marks, Column, Whole, Passing}
use Rattle.finishes.specs.declared.entry.Entry.{Entry}
use Rattle.meaning.proofs.Constraints.{no_records}
use Rattle.finishes.specs.Serves.{Serving, Serves}
use Rattle.finishes.proofs.Marks.{marked_none, marked_more, column_full, column_last}

module _ (s : List ℕ) (ok : cause s ≡ None) (j : Task) (pass : Pass) (v : Serves s j pass) where
  abbrev d : Sheet
  d = read s

  abbrev many : ℕ
  many = length pass.goals.now

  ready : Ready s (carrier 0) j pass.mask.now []
  ready = record { accepted = ok; carrier_in = omega (arith, count_range s ok); task_in = v.task_in; masked = v.serving.masked; records = no_records d }

  -- the layer of the last goal
  pub seeded_steps : (p : ℕ) → p ≡ pad_of pass.size.width (last_goal d j) → (layer : List ℕ)
      → Seeded pass.size.width pass.chains.now.carrier (constraints_of pass.chains.now.records.now) 0 pass.goals.now many p layer → Holds d layer (steps d j 0)
  unfolding constraints_of
  seeded_steps p e layer sd =
      hind_first s (carrier 0) j pass.mask.now [] ready _ _ v.serving.sized pass.goals.now v.turned p 0 e (rw (v.serving.first, v.serving.free) at sd)

  -- the layer of one step more
  pub stepped_steps : (k : ℕ) {src before after : List ℕ}
      → Stepped pass.size.width pass.size.height pass.mask.now pass.chains.now.carrier (constraints_of pass.chains.now.records.now) 0 0 (is_back pass.direction) pass.goals.now many src before after
      → Holds d src (steps d j k) → Margin d.width d.height before → Holds d after (steps d j (k + 1))
  unfolding hind constraints_of
  stepped_steps k {src} {before} {after} st hs m =
      let e : k + 1 - (0 + 1) ≡ k = omega arith in
      let f : k + 1 - 0 ≡ k + 1 = omega arith in
      rw f at
      (hind_next s (carrier 0) j pass.mask.now [] ready _ _ v.serving.sized pass.goals.now v.turned (k + 1) 0 (omega arith)
      (rw e (holds_same (hind_timeless d (carrier 0) (carrier 0) j k 0 1) hs)) m (rw (v.serving.first, v.serving.free, v.backward) at st))

  -- the marks of one layer
  pub column_more : (starts : List ℕ) → Starts s starts → (k : ℕ) (layer : List ℕ) (before after : List (Option ℕ)) → count_of s ≤ length before → Holds d layer (steps d j k)
      → Marks layer many k starts before after → Column d j k before → Column d j (k + 1) after
  column_more starts begins k layer before after long hs m c i h =
      let label : get_or layer (get_or starts i 0) 0 ≡ steps d j k (start_of d (carrier i)) = rw (begins i h) (hs.inside (start_of d (carrier i)) (start_on_grid s ok (carrier i))) in
      let n : many ≡ all_goals d j = all_counted ready (sym v.turned.many ∙ length-reverse (goals_of d j)) in
      rw (m.at i (omega arith), n) (marked_more d i j k (get_or layer (get_or starts i 0) 0) (get_or before i None) label (c i h))

  -- before the first layer is marked
  pub passing_first : (layer : List ℕ) (entries : List Entry) → length entries ≡ count_of s → Unknown (steps_in entries) → Holds d layer (steps d j 0)
      → Passing s j 0 layer (replicate 1156 0) (steps_in entries)
  passing_first layer entries long none hs = record {
    in_time = omega arith;
    here = hs;
    room = zeros_margin d.width d.height;
    so_far = λ i h. rw (none i (omega (arith, long, length-map entries (λ (e : Entry). e.steps)))) (marked_none d i j);
  }

  module _ (entries after : List Entry) (long : length entries ≡ count_of s) (begins : Starts s (starts_in entries)) (k : ℕ) (layer spare : List ℕ)
      (p : Passing s j k layer spare (steps_in entries)) (m : Marks layer many k (starts_in entries) (steps_in entries) (steps_in after)) where
    marked_column : Column d j (k + 1) (steps_in after)
    marked_column = column_more (starts_in entries) begins k layer (steps_in entries) (steps_in after) (omega (arith, long, length-map entries (λ (e : Entry). e.steps))) p.here m p.so_far

    -- each number is known
    pub whole_full : ((i : ℕ) → i < count_of s → get_or (steps_in after) i None ≢ None) → Whole d j (steps_in after)
    whole_full full = column_full s ok j v.task_in (steps_in after) (k + 1) (omega (arith, p.in_time)) marked_column full

    -- the horizon is reached
    pub whole_last : k ≡ d.horizon → Whole d j (steps_in after)
    whole_last e = column_last s ok j v.task_in (steps_in after) (subst (λ (z : ℕ). Column d j (z + 1) (steps_in after)) e marked_column)

    -- the next layer is made
    pub passing_on : k < d.horizon → {next : List ℕ}
        → Stepped pass.size.width pass.size.height pass.mask.now pass.chains.now.carrier (constraints_of pass.chains.now.records.now) 0 0 (is_back pass.direction) pass.goals.now many layer spare next
        → Passing s j (k + 1) next layer (steps_in after)
    passing_on l st = record {
      in_time = omega arith;
      here = stepped_steps k st p.here p.room;
      room = holds_margin d layer (steps d j k) p.here;
      so_far = marked_column;
    }

-- The pass of a task over chains of no records
module _ (s : List ℕ) (ok : cause s ≡ None) (j : Task) (b : j.0 < count_of s) (size : Size) (mask : List ℕ) (chains : Chains) (doors : Option (Bor (List ℕ))) (g : Serving s size mask chains doors)
    (goals turned : List ℕ) (of : GoalsOf s j goals) (e : turned ≡ reverse goals) where
  pub goals_turned : Turned s j turned
  goals_turned = turned_goals (read s).width (goals_of (read s) j) goals turned of e

  pub goals_on : (length turned ≤ 8) × Indexes turned (length turned)
  goals_on =
      back_on s (carrier 0) j mask [] (record { accepted = ok; carrier_in = omega (arith, count_range s ok); task_in = b; masked = g.masked; records = no_records (read s) })
      _ _ g.sized turned goals_turned

  -- no record is off the grid
  pub none_off_grid : OnLayer size.width chains.records.now
  none_off_grid = rw g.free (λ k h. absurd (omega arith))
