-- Working copies of tables, twelve entries to a row, and the weights of their entries. Assumes nothing.
use Rattle.std.specs.Prelude.{ℕ, ◌≤◌, ◌<◌, ◌≡◌, Bool, cond, List}
use Rattle.deck.specs.Assignments.{barred}
use Rattle.prices.specs.Weights.{weigh, merged}
use Rattle.prices.specs.Square.{cell}
use Rattle.partition.specs.Parts.{Part}
use Rattle.tables.specs.declared.Part.{Part as PartInCode}

-- the part that the code has
abbrev pub part_of : PartInCode → Part
part_of p = record { row = p.row.0; tasks = p.tasks; closed = p.closed }

-- the weight of an entry for carrier i and task j, merged with the task's digit or plain
abbrev pub weight_of : Bool → ℕ → ℕ → ℕ → ℕ
weight_of merge i j e = cond merge (merged i j e) (weigh e)

-- w has the weights of the entries of t, which are 16-bit words
pub record Weighed (m : ℕ) (merge : Bool) (t w : List ℕ) : Type 0 where
  pub each : (i j : ℕ) → i < m → j < m → cell w i j ≡ weight_of merge i j (cell t i j)
  pub words : (i j : ℕ) → i < m → j < m → cell t i j ≤ barred
