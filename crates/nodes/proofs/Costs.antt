-- The cost of a record's node: the sum of its finishes, and less than the key of a closed node. Assumes nothing.
use Rattle.std.proofs.Common.{◌≡◌, sym, ◌∙◌, ap, List, [], map, ℕ, ◌+◌, ◌<◌, ◌≤◌, zero-add, arith, length, get_or, get_or-take}
use Rattle.deck.specs.Lists.{below, sum}
use Rattle.deck.specs.Sheet.{Sheet, task}
use Rattle.deck.specs.Paths.{finish_of}
use Rattle.deck.specs.Planner.{problem}
use Rattle.meaning.proofs.Lists.{get_or_tabulate}
use Rattle.meaning.proofs.Finish.{finish_most}
use Rattle.pack.proofs.Trips.{length_unpack}
use Rattle.records.specs.Record.{tasks_in, finishes_in, packed_in}
use Rattle.nodes.specs.Nodes.{stored_path, stored_paths, cost_of}
use Rattle.nodes.specs.Stored.{Fits, Sound}
use Rattle.nodes.proofs.Tables.{map_same, sum_most, sum_table}

module _ (d : Sheet) (fs : List (List ℕ)) where
  -- the finish of carrier i
  abbrev pub finish_in : ℕ → ℕ
  finish_in i = finish_of d (task (get_or (tasks_in fs) i 0)) (stored_path d fs i)

  pub path_at_lem : (i : ℕ) → i < d.count → get_or (stored_paths d fs) i [] ≡ stored_path d fs i
  path_at_lem i h = get_or_tabulate (stored_path d fs) 0 d.count i [] h ∙ ap (stored_path d fs) (zero-add i)

  pub cost_is : cost_of d fs ≡ sum (map finish_in (below d.count))
  unfolding cost_of problem
  cost_is = ap sum (map_same _ finish_in 0 d.count (λ i a b. rw (path_at_lem i (omega arith), get_or-take d.count (tasks_in fs) i 0 (omega arith))))

  pub cost_small : Fits d → cost_of d fs ≤ 3072
  cost_small f = omega (arith, cost_is, sum_most finish_in 0 d.count (λ i a b. most i), f.count)
    where
      most : (i : ℕ) → finish_in i ≤ 256
      most i =
          let l : length (stored_path d fs i) ≡ d.horizon + 1 = length_unpack d.width d.horizon (packed_in fs i) (get_or d.starts i 0) in
          let h : finish_in i ≤ length (stored_path d fs i) = finish_most d (task (get_or (tasks_in fs) i 0)) (stored_path d fs i) in
          omega (arith, f.horizon)

  -- the finishes that are stored
  pub finishes_sum : (k : ℕ) → Fits d → Sound d k fs → length (finishes_in fs) ≡ 12 → sum (finishes_in fs) ≡ cost_of d fs
  finishes_sum k f s l =
      sum_table (finishes_in fs) finish_in 0 d.count (omega (arith, f.count)) (λ i h. s.finishes i h ∙ ap finish_in (sym (zero-add i))) s.zeros
      ∙ sym cost_is
