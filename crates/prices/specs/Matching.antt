-- The assignment problem over a table c of rows (carriers) and columns (tasks): prices, a matching on tight entries, and the tree
-- of one round of the Hungarian method. A row's price is u i, a column's price is 0 - v j: v holds the negated column prices, so
-- that all are natural numbers. task i is the task of row i, carrier j the row of column j; m or more stands for none.
-- Assumes nothing.
use Rattle.std.specs.Prelude.{ℕ, ◌+◌, ◌≤◌, ◌<◌, ◌≡◌, ◌≢◌, ◌⊎◌, Bool, true, false, List, map}
use Rattle.deck.specs.Lists.{below, sum}
use Rattle.meaning.specs.Meaning.{◌at◌}

-- the sum of the entries that an assignment uses
abbrev pub cost : ℕ → (ℕ → ℕ → ℕ) → List ℕ → ℕ
cost m c a = sum (map (λ i. c i (a at i)) (below m))

-- row plus column price is at most each entry
abbrev pub Feasible : ℕ → (ℕ → ℕ → ℕ) → (u v : ℕ → ℕ) → Type 0
Feasible m c u v = (i j : ℕ) → i < m → j < m → u i ≤ c i j + v j

-- and equals it
abbrev pub Tight : (ℕ → ℕ → ℕ) → (u v : ℕ → ℕ) → ℕ → ℕ → Type 0
Tight c u v i j = u i ≡ c i j + v j

-- no entry is above w
abbrev pub AtMost : ℕ → (ℕ → ℕ → ℕ) → ℕ → Type 0
AtMost m c w = (i j : ℕ) → i < m → j < m → c i j ≤ w

-- the prices are no greater than the greatest entry
abbrev pub Bounded : ℕ → (ℕ → ℕ → ℕ) → (u v : ℕ → ℕ) → Type 0
Bounded m c u v = (w : ℕ) → AtMost m c w → (k : ℕ) → k < m → (u k ≤ w) × (v k ≤ w)

-- g is f but for x at k
pub record Put {A : Type 0} (f : ℕ → A) (k : ℕ) (x : A) (g : ℕ → A) : Type 0 where
  pub same : g k ≡ x
  pub other : (i : ℕ) → i ≢ k → g i ≡ f i

-- g is f raised by d where marked
pub record Raised (m : ℕ) (marks : ℕ → Bool) (d : ℕ) (f g : ℕ → ℕ) : Type 0 where
  pub marked : (i : ℕ) → i < m → marks i ≡ true → g i ≡ f i + d
  pub others : (i : ℕ) → i < m → marks i ≡ false → g i ≡ f i

-- d is the least slack of the entries from a marked row to a column that is not marked, and that of row i and column j
pub record LeastSlack (m : ℕ) (c : ℕ → ℕ → ℕ) (u v : ℕ → ℕ) (rows columns : ℕ → Bool) (i j d : ℕ) : Type 0 where
  pub low_row : i < m
  pub low_column : j < m
  pub from_row : rows i ≡ true
  pub to_column : columns j ≡ false
  pub slack : u i + d ≡ c i j + v j
  pub least : (x y : ℕ) → x < m → y < m → rows x ≡ true → columns y ≡ false → u x + d ≤ c x y + v y

-- The rows below r are matched, on tight entries; a column without a row has the price 0
pub record Matches (m : ℕ) (c : ℕ → ℕ → ℕ) (r : ℕ) (u v task carrier : ℕ → ℕ) : Type 0 where
  pub feasible : Feasible m c u v
  pub tight : (j : ℕ) → j < m → carrier j < m → Tight c u v (carrier j) j
  pub task_of : (j : ℕ) → j < m → carrier j < m → task (carrier j) ≡ j
  pub carrier_of : (i : ℕ) → i < m → task i < m → carrier (task i) ≡ i
  pub unpriced : (j : ℕ) → j < m → m ≤ carrier j → v j ≡ 0
  pub matched : (i : ℕ) → i < r → task i < m
  pub unmatched : (i : ℕ) → r ≤ i → i < m → m ≤ task i

-- column j was reached over a tight entry from a row of the tree, and that row's own column joined the tree before j
pub record Reached (m : ℕ) (c : ℕ → ℕ → ℕ) (u v task : ℕ → ℕ) (rows : ℕ → Bool) (from order : ℕ → ℕ) (j : ℕ) : Type 0 where
  pub low : from j < m
  pub in_tree : rows (from j) ≡ true
  pub over : Tight c u v (from j) j
  pub earlier : task (from j) < m → order (task (from j)) < order j

-- The tree of row r: its marked rows and columns. Column j joined as number order j, of n so far
pub record Tree (m : ℕ) (c : ℕ → ℕ → ℕ) (r : ℕ) (u v task carrier : ℕ → ℕ) (rows columns : ℕ → Bool) (from order : ℕ → ℕ) (n : ℕ) : Type 0 where
  pub low : r < m
  pub root : rows r ≡ true
  -- a row of the tree is r, or its column is in the tree
  pub row : (i : ℕ) → i < m → rows i ≡ true → (i ≡ r) ⊎ ((task i < m) × (columns (task i) ≡ true))
  -- a column of the tree has a row, and that is in the tree
  pub column : (j : ℕ) → j < m → columns j ≡ true → (carrier j < m) × (rows (carrier j) ≡ true)
  pub numbered : (j : ℕ) → j < m → columns j ≡ true → order j < n
  pub reached : (j : ℕ) → j < m → columns j ≡ true → Reached m c u v task rows from order j

-- On the way back from a free column to the row r: a matching but for column j, which no row has, reached from the tree. The
-- columns that joined the tree before j have the rows that they had
pub record Turning (m : ℕ) (c : ℕ → ℕ → ℕ) (r : ℕ) (u v task carrier : ℕ → ℕ) (rows columns : ℕ → Bool) (from order : ℕ → ℕ)
    (task' carrier' : ℕ → ℕ) (j : ℕ) : Type 0 where
  pub low : j < m
  pub reached : Reached m c u v task rows from order j
  pub tight : (k : ℕ) → k < m → k ≢ j → carrier' k < m → Tight c u v (carrier' k) k
  pub task_of : (k : ℕ) → k < m → k ≢ j → carrier' k < m → task' (carrier' k) ≡ k
  pub carrier_of : (i : ℕ) → i < m → task' i < m → (carrier' (task' i) ≡ i) × (task' i ≢ j)
  pub unpriced : (k : ℕ) → k < m → k ≢ j → m ≤ carrier' k → v k ≡ 0
  pub matched : (i : ℕ) → i < r → task' i < m
  pub unmatched : (i : ℕ) → r ≤ i → i < m → m ≤ task' i
  pub ahead : (k : ℕ) → k < m → columns k ≡ true → order k < order j → carrier' k ≡ carrier k
