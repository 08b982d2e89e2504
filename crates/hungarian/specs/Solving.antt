-- The Hungarian method's steps over arrays: the shortest ways from a row, the tree that they make, and where the way back from a
-- free column stands. Assumes nothing.
use Rattle.std.specs.Prelude.{ℕ, suc, ◌+◌, ◌-◌, ◌≤◌, ◌<◌, ◌≡◌, ◌⊎◌, ◌≢◌, Bool, true, false, cond, List, [], ◌∷◌, length, get_or, set, map, ltb, eqb, Option, None, Some}
use Rattle.deck.specs.Sheet.{carrier, task}
use Rattle.meaning.specs.Meaning.{◌at◌}
use Rattle.prices.specs.Matching.{AtMost, Bounded, Matches, Tree, Turning}
use Rattle.prices.specs.Square.{cell}
use Rattle.deck.specs.declared.Carrier.{Carrier}
use Rattle.deck.specs.declared.Task.{Task}
use Rattle.hungarian.specs.declared.Way.{Way as WayInCode}
use Rattle.hungarian.specs.declared.Column.{Column}
use Rattle.hungarian.specs.declared.Edge.{Edge}
use Rattle.hungarian.specs.declared.Pairs.{Pairs}

-- the number of a carrier's task and that of a task's carrier, 12 for none
abbrev pub task_number : Option Task → ℕ
task_number None = 12
task_number (Some j) = j.0

abbrev pub carrier_number : Option Carrier → ℕ
carrier_number None = 12
carrier_number (Some i) = i.0

abbrev pub task_numbers : List (Option Task) → List ℕ
task_numbers l = map task_number l

abbrev pub carrier_numbers : List (Option Carrier) → List ℕ
carrier_numbers l = map carrier_number l

-- a pair more
abbrev pub paired : Pairs → Carrier → Task → Pairs
paired p i j = record { tasks = set p.tasks i.0 (Some j); carriers = set p.carriers j.0 (Some i) }

-- the pairs are of the first m carriers and tasks
pub record Within (m : ℕ) (p : Pairs) : Type 0 where
  pub tasks : (i : ℕ) (j : Task) → get_or p.tasks i None ≡ Some j → j.0 < m
  pub carriers : (j : ℕ) (i : Carrier) → get_or p.carriers j None ≡ Some i → i.0 < m

-- a column, and of a list of columns the marks, the lengths and the last rows
abbrev pub way_at : ℕ → ℕ → WayInCode
way_at near from = record { near = near; from = carrier from }

abbrev pub column_at : Bool → ℕ → ℕ → Column
column_at mark near from = record { way = way_at near from; marked = mark }

abbrev pub marks : List Column → List Bool
marks l = map (λ c. c.marked) l

abbrev pub nears : List Column → List ℕ
nears l = map (λ c. c.way.near) l

abbrev pub froms : List Column → List ℕ
froms l = map (λ c. c.way.from.0) l

-- a mark of an array
abbrev pub marked : List Bool → ℕ → Bool
marked l k = get_or l k false

-- above every slack
abbrev pub farthest : ℕ
farthest = 18446744073709551615

-- how far the weight for row i and column j is above its prices
abbrev pub slack_of : (w u v : List ℕ) → ℕ → ℕ → ℕ
slack_of w u v i j = (cell w i j + v at j) - u at i

-- no slack is negative, and none is too great
abbrev pub Slacks : ℕ → (w u v : List ℕ) → Type 0
Slacks m w u v = (i j : ℕ) → i < m → j < m → (u at i ≤ cell w i j + v at j) × (cell w i j + v at j < farthest)

-- THE SHORTEST WAYS from the row r, whose tree grows. near j is the length of the shortest way to column j so far, and from j its
-- last row. A column's way is final as it joins the tree; total is the length of the way to the column that joined last.

-- the shortest way to a column with that over the slack s from row i, which has the length total; a marked column's stays as it is
unfoldable pub nearer_of : Column → ℕ → ℕ → ℕ → WayInCode
nearer_of c total s i = cond c.marked c.way (cond (ltb s (c.way.near - total)) (way_at (total + s) i) c.way)

-- the nearer of the edge e and the column j, where that is not marked
unfoldable pub closer_of : Bool → ℕ → ℕ → Edge → Edge
closer_of mark near j e = cond mark e (cond (ltb near e.near) (record { task = task j; near = near }) e)

-- near' and from' are those of the columns after the ways from row i
pub record Relaxed (m : ℕ) (w u v : List ℕ) (columns : List Bool) (total i : ℕ) (near from near' from' : List ℕ) : Type 0 where
  pub each : (k : ℕ) → k < m → way_at (near' at k) (from' at k) ≡ nearer_of (column_at (marked columns k) (near at k) (from at k)) total (slack_of w u v i k) i
  pub sizes : (length near' ≡ 12) × (length from' ≡ 12)

-- e is the nearest of the first n columns that are not marked
pub record Closest (columns : List Bool) (near : List ℕ) (n : ℕ) (e : Edge) : Type 0 where
  pub least : (k : ℕ) → k < n → marked columns k ≡ false → e.near ≤ near at k
  pub found : (e.near ≡ farthest) ⊎ ((e.task.0 < n) × (marked columns e.task.0 ≡ false) × (near at e.task.0 ≡ e.near))

-- a row of the tree is r, or its column is marked
unfoldable pub in_tree : ℕ → ℕ → List ℕ → List Bool → ℕ → Bool
in_tree m r task columns x = cond (eqb x r) true (cond (ltb (task at x) m) (marked columns (task at x)) false)

-- the length of the way to a row of the tree: that to its column
unfoldable pub way_to : ℕ → (task near : List ℕ) → ℕ → ℕ
way_to r task near x = cond (eqb x r) 0 (near at (task at x))

-- a price rises by what total is above the way
abbrev pub gain_of : Bool → ℕ → ℕ → ℕ
gain_of mark near total = cond mark (total - near) 0

unfoldable pub row_gain : ℕ → ℕ → List ℕ → List Bool → List ℕ → ℕ → ℕ → ℕ
row_gain m r task columns near total x = gain_of (in_tree m r task columns x) (way_to r task near x) total

-- the prices as they are to be when the tree stops there
abbrev pub row_price : ℕ → ℕ → (u task : List ℕ) → List Bool → List ℕ → ℕ → ℕ → ℕ
row_price m r u task columns near total x = u at x + row_gain m r task columns near total x

abbrev pub column_price : List ℕ → List Bool → List ℕ → ℕ → ℕ → ℕ
column_price v columns near total y = v at y + gain_of (marked columns y) (near at y) total

-- how many are not marked
abbrev pub unmarked : List Bool → ℕ
unmarked [] = 0
unmarked (true ∷ l) = unmarked l
unmarked (false ∷ l) = suc (unmarked l)

-- Where the way back stands, after k steps: some tree in which column j was reached
pub record Way (m : ℕ) (c : ℕ → ℕ → ℕ) (r : ℕ) (u v from task' carrier' : ℕ → ℕ) (j k : ℕ) : Type 0 where
  pub task : ℕ → ℕ
  pub carrier : ℕ → ℕ
  pub rows : ℕ → Bool
  pub columns : ℕ → Bool
  pub order : ℕ → ℕ
  pub n : ℕ
  pub matches : Matches m c r u v task carrier
  pub tree : Tree m c r u v task carrier rows columns from order n
  pub turning : Turning m c r u v task carrier rows columns from order task' carrier' j
  pub left : order j + k < 12

-- no weight is above 2 ^ 63 - 1, so that two of them can be added
abbrev pub Light : ℕ → List ℕ → Type 0
Light m w = AtMost m (cell w) 9223372036854775807

-- The arrays of prices and of the matching so far, for the rows below r
pub record Solved (m : ℕ) (w : List ℕ) (r : ℕ) (u v task carrier : List ℕ) : Type 0 where
  pub matches : Matches m (cell w) r (◌at◌ u) (◌at◌ v) (◌at◌ task) (◌at◌ carrier)
  pub bounded : Bounded m (cell w) (◌at◌ u) (◌at◌ v)
  pub sizes : (length u ≡ 12) × (length v ≡ 12) × (length task ≡ 12) × (length carrier ≡ 12)

-- The tree of row r, before the ways from its newest row i are looked at
pub record Grown (m : ℕ) (w : List ℕ) (r : ℕ) (u v task carrier : List ℕ) (columns : List Bool) (near from : List ℕ) (total i : ℕ) : Type 0 where
  pub order : ℕ → ℕ
  pub n : ℕ
  pub matches : Matches m (cell w) r (row_price m r u task columns near total) (column_price v columns near total) (◌at◌ task) (◌at◌ carrier)
  pub tree : Tree m (cell w) r (row_price m r u task columns near total) (column_price v columns near total) (◌at◌ task) (◌at◌ carrier)
      (in_tree m r task columns) (marked columns) (◌at◌ from) order n
  pub count : n + unmarked columns ≡ 12
  pub early : (y : ℕ) → y < m → marked columns y ≡ true → near at y ≤ total
  pub late : (y : ℕ) → y < m → marked columns y ≡ false → total ≤ near at y
  -- no way over a row of the tree is shorter, but for the newest
  pub least : (x y : ℕ) → x < m → y < m → in_tree m r task columns x ≡ true → x ≢ i → marked columns y ≡ false
      → u at x + near at y ≤ way_to r task near x + (cell w x y + v at y)
  -- there is such a way, unless r is the newest row
  pub exact : (y : ℕ) → y < m → marked columns y ≡ false → ((near at y ≡ farthest) × (total ≡ 0)) ⊎ ((from at y < m)
      × (in_tree m r task columns (from at y) ≡ true) × (u at (from at y) + near at y ≡ way_to r task near (from at y) + (cell w (from at y) y + v at y))
      × (near at y < farthest))
  pub newest : (i < m) × (in_tree m r task columns i ≡ true) × (way_to r task near i ≡ total)
  pub sizes : (length near ≡ 12) × (length from ≡ 12) × (length columns ≡ 12)

-- Column j is free and was reached: the way back begins there
pub record Reaches (m : ℕ) (w : List ℕ) (r : ℕ) (u v from task carrier : List ℕ) (j : ℕ) : Type 0 where
  pub way : Way m (cell w) r (◌at◌ u) (◌at◌ v) (◌at◌ from) (◌at◌ task) (◌at◌ carrier) j 0
  pub bounded : Bounded m (cell w) (◌at◌ u) (◌at◌ v)
  pub sizes : (length u ≡ 12) × (length v ≡ 12) × (length from ≡ 12)
