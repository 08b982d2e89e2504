-- The lower bounds of all tasks, task by task. Assumes nothing.
use Prim.Native.Nat.{ℕ, ◌+◌, ◌-◌, ◌*◌, ◌≤◌, ◌<◌}
use Rattle.std.proofs.Common.{◌≡◌, refl, sym, subst, ◌∙◌, List, arith, length, take, drop}
use Rattle.std.proofs.Math.Decide.{ℕ_discrete}
use Rattle.deck.specs.Sheet.{Sheet, task}
use Rattle.deck.specs.declared.Task.{Task}
use Rattle.bounds.specs.Low.{Low}
use Rattle.records.specs.Cut.{put}
use Rattle.records.proofs.Cuts.{length_part, length_put, part_here, part_behind, lent, part_lent}
use Rattle.scratch.specs.Bounded.{Bounded}

-- the bounds of the first n tasks
pub record Begun (d : Sheet) (n : ℕ) (table : List ℕ) : Type 0 where
  pub long : length table ≡ 110592
  pub low : (j : Task) → j.0 < n → Low d j (take 9216 (drop (9216 * j.0) table))

pub none_begun : (d : Sheet) (table : List ℕ) → length table ≡ 110592 → Begun d 0 table
none_begun d table e = record { long = e; low = λ j h. absurd (omega arith) }

pub all_begun : (d : Sheet) (n : ℕ) (table : List ℕ) → d.count ≤ n → Begun d n table → Bounded d table
all_begun d n table h b = record { long = b.long; low = λ j l. b.low j (omega arith) }

-- the part of task n, as it is lent
module _ (d : Sheet) (n : ℕ) (table : List ℕ) (b : Begun d n table) (few : n < 12) where
  pub part_inside : 9216 * n + 9216 ≤ length table
  part_inside = omega (arith, b.long)

  pub part_long : length (take (9216 * n + 9216 - 9216 * n) (drop (9216 * n) table)) ≡ 9216
  part_long = rw (part_lent (9216 * n) 9216 table) (length_part (9216 * n) 9216 table part_inside)

  -- its bounds are filled in
  module _ (after : List ℕ) (same : length after ≡ length (take (9216 * n + 9216 - 9216 * n) (drop (9216 * n) table))) (l : Low d (task n) after) where
    whole : put (9216 * n) (9216 * n + 9216 - 9216 * n) after table ≡ put (9216 * n) 9216 after table
    whole = lent (9216 * n) 9216 after after table refl

    long_after : length after ≡ 9216
    long_after = same ∙ part_long

    pub more_begun : Begun d (n + 1) (put (9216 * n) (9216 * n + 9216 - 9216 * n) after table)
    more_begun = subst (Begun d (n + 1)) (sym whole) (record {
      long = length_put (9216 * n) 9216 after table long_after part_inside ∙ b.long;
      low = λ j h. other j h (ℕ_discrete j.0 n);
    })
      where
        other : (j : Task) → j.0 < n + 1 → Dec (j.0 ≡ n) → Low d j (take 9216 (drop (9216 * j.0) (put (9216 * n) 9216 after table)))
        other j h (yes z) = subst (λ (k : ℕ). Low d (task k) (take 9216 (drop (9216 * k) (put (9216 * n) 9216 after table)))) (sym z)
            (subst (Low d (task n)) (sym (part_here (9216 * n) 9216 after table long_after part_inside)) l)
        other j h (no z) = subst (Low d j) (sym (part_behind (9216 * j.0) 9216 (9216 * n) 9216 after table (omega arith) (omega (arith, part_inside)))) (b.low j (omega arith))
