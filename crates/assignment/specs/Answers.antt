-- What the call answers: the whole answer, and prices that serve it. Assumes nothing.
use Rattle.std.specs.Prelude.{ℕ, ◌+◌, ◌/◌, ◌≤◌, ◌<◌, ◌≡◌, List, get_or, ℤ, pos, neg_ℤ, ◌-ℤ◌, Some}
use Rattle.std.specs.Int.Signed.{mag}
use Rattle.deck.specs.Assignments.{entry_at, least_assignment, sum_of, Priced}
use Rattle.deck.specs.Calls.{task_list, ZeroFrom, PricesOf}
use Rattle.deck.specs.declared.Assignment.{Assignment}
use Rattle.meaning.specs.Meaning.{◌at◌}
use Rattle.prices.specs.Weights.{weigh}
use Rattle.prices.specs.Square.{cell}

-- the whole answer for an accepted table that has an assignment
pub record Answered (m : ℕ) (table : List ℕ) (r : Assignment) : Type 0 where
  pub list : List ℕ
  pub least : least_assignment m table ≡ Some list
  pub sum : r.sum ≡ sum_of m table list
  pub tasks : r.tasks ≡ task_list list
  pub prices : PricesOf m table (Some list) r.rows r.columns

-- no column's price is farther from 0 than this
abbrev pub dearest : ℕ
dearest = 4000000

-- and no row's than this
abbrev pub highest : ℕ
highest = 4100000

-- a price of the method by merged weights, which is in twelves to the power 12, rounded to the nearest
abbrev pub rounded : ℕ → ℕ
rounded x = (x / 4458050224128 + 1) / 2

-- the price of column k, which the method has negated, by plain and by merged weights, and of row k
abbrev pub column_of : List ℕ → ℕ → ℤ
column_of columns k = neg_ℤ (pos (columns at k))

abbrev pub rounded_column : List ℕ → ℕ → ℤ
rounded_column columns k = neg_ℤ (pos (rounded (columns at k)))

abbrev pub row_of : List ℕ → ℕ → ℤ
row_of rows k = pos (rows at k)

-- the price of row i that is tight on its task
abbrev pub tight_of : (t tasks : List ℕ) → List ℤ → ℕ → ℤ
tight_of t tasks columns i = pos (cell t i (tasks at i)) -ℤ get_or columns (tasks at i) (pos 0)

-- the first m prices are not farther from 0 than top
abbrev pub Small : ℕ → ℕ → List ℤ → Type 0
Small m top r = (k : ℕ) → k < m → mag (get_or r k (pos 0)) ≤ top

-- the first m prices are those of f, the others are 0
pub record Prices (m top : ℕ) (f : ℕ → ℤ) (r : List ℤ) : Type 0 where
  pub each : (k : ℕ) → k < m → get_or r k (pos 0) ≡ f k
  pub small : Small m top r
  pub zero : ZeroFrom m r

-- prices u of the rows and negated prices v of the columns for the assignment a: feasible on the weights and tight on its entries
pub record Serves (m : ℕ) (table a u v : List ℕ) : Type 0 where
  pub feasible : (i j : ℕ) → i < m → j < m → u at i ≤ weigh (entry_at m table i j) + v at j
  pub tight : (i : ℕ) → i < m → u at i ≡ entry_at m table i (a at i) + v at (a at i)

-- prices that can be handed out
pub record Handed (m : ℕ) (table a : List ℕ) (rows columns : List ℤ) : Type 0 where
  pub priced : Priced m table a rows columns
  pub small : Small m highest rows × Small m dearest columns
  pub zero : ZeroFrom m rows × ZeroFrom m columns
