-- Document 01, "The job sheet", and causes 1 to 7 of "When the planner declines". Assumes nothing.
use Rattle.std.specs.Prelude.{ℕ, zero, suc, ◌+◌, ◌*◌, ◌%◌, Bool, ◌&&◌, not, cond, List, [], ◌∷◌, map, length, get_or, take, drop, ltb, leb, eqb, Option, None}
use Rattle.deck.specs.Causes.{unless, ◌or_else◌}
use Rattle.deck.specs.Lists.{below, within, all, distinct, last, greatest}
use Rattle.deck.specs.declared.Carrier.{Carrier}
use Rattle.deck.specs.declared.Task.{Task}
use Rattle.deck.specs.declared.Stretch.{Stretch}
use Rattle.deck.specs.declared.cause.Cause.{Cause}
use Rattle.deck.specs.declared.cause.Cause.TheVariants.{ShortSheet, BadHeader, BadDirectory, BadGrid, BadStart, BadGoal, SharedLastGoal}

abbrev pub carrier : ℕ → Carrier
carrier i = record { 0 = i }

abbrev pub task : ℕ → Task
task j = record { 0 = j }

-- "Byte 0: .." counts bytes from zero. A byte past the end reads 0: no sheet with such a read is accepted
abbrev pub byte_at : List ℕ → ℕ → ℕ
byte_at s k = get_or s k 0

-- "two-byte values are unsigned, low byte first"
abbrev pub word_at : List ℕ → ℕ → ℕ
word_at s k = byte_at s k + 256 * byte_at s (k + 1)

unfoldable pub words : List ℕ → List ℕ
words [] = []
words (a ∷ []) = []
words (a ∷ b ∷ r) = (a + 256 * b) ∷ words r

-- the header
abbrev pub width_of : List ℕ → ℕ
width_of s = byte_at s 0

abbrev pub height_of : List ℕ → ℕ
height_of s = byte_at s 1

abbrev pub count_of : List ℕ → ℕ
count_of s = byte_at s 2

abbrev pub horizon_of : List ℕ → ℕ
horizon_of s = byte_at s 3

abbrev pub limit_of : List ℕ → ℕ
limit_of s = word_at s 4

-- "From byte 8, m + 2 pairs of offset and length": a pair names a stretch of the sheet
abbrev pub pair_at : List ℕ → ℕ → Stretch
pair_at s k = record { offset = word_at s (8 + 4 * k); size = word_at s (10 + 4 * k) }

abbrev pub part : List ℕ → Stretch → List ℕ
part s r = take r.size (drop r.offset s)

-- "grid, starts, then tasks 0 to m − 1": the numbers of the pairs stand here and nowhere else
abbrev pub grid_pair : ℕ
grid_pair = 0

abbrev pub starts_pair : ℕ
starts_pair = 1

abbrev pub task_pair : ℕ → ℕ
task_pair j = 2 + j

abbrev pub pairs_for : ℕ → ℕ
pairs_for m = m + 2

abbrev pub grid_stretch : List ℕ → Stretch
grid_stretch s = pair_at s grid_pair

abbrev pub starts_stretch : List ℕ → Stretch
starts_stretch s = pair_at s starts_pair

abbrev pub task_stretch : List ℕ → Task → Stretch
task_stretch s j = pair_at s (task_pair j.0)

-- What a sheet says. "A place is y × w + x"
pub record Sheet : Type 0 where
  pub width : ℕ
  pub height : ℕ
  -- m, "carriers and tasks alike"
  pub count : ℕ
  -- H
  pub horizon : ℕ
  -- N
  pub limit : ℕ
  pub grid : List ℕ
  pub starts : List ℕ
  -- the goals of each task
  pub tasks : List (List ℕ)

abbrev pub read : List ℕ → Sheet
read s =
    record {
      width = width_of s;
      height = height_of s;
      count = count_of s;
      horizon = horizon_of s;
      limit = limit_of s;
      grid = part s (grid_stretch s);
      starts = words (part s (starts_stretch s));
      tasks = map (λ j. words (part s (task_stretch s (task j)))) (below (count_of s));
    }

-- how many places the grid has
abbrev pub area : Sheet → ℕ
area d = d.width * d.height

-- the grid byte of a place: "0 free, 1 blocked", and 2 to 5 for "a free place that may be left only to the north (place − w), east,
-- south or west"
abbrev pub grid_byte : Sheet → ℕ → ℕ
grid_byte d v = get_or d.grid v 0

-- a place of the grid that is not blocked
abbrev pub free : Sheet → ℕ → Bool
free d v = ltb v (area d) && not (eqb (grid_byte d v) 1)

abbrev pub start_of : Sheet → Carrier → ℕ
start_of d i = get_or d.starts i.0 0

-- g1 to gK
abbrev pub goals_of : Sheet → Task → List ℕ
goals_of d j = get_or d.tasks j.0 []

-- gK
abbrev pub last_goal : Sheet → Task → ℕ
last_goal d j = last 0 (goals_of d j)

-- K of the workspace formula, "the most goals of any task"
abbrev pub most_goals : Sheet → ℕ
most_goals d = greatest (map length d.tasks)

-- "header byte outside its range"; the range of bytes 6 and 7 is zero
unfoldable pub good_header : List ℕ → Bool
good_header s =
    within 1 32 (width_of s) && within 1 32 (height_of s) && within 1 12 (count_of s) && within 0 255 (horizon_of s)
    && within 1 4096 (limit_of s) && eqb (byte_at s 6) 0 && eqb (byte_at s 7) 0

-- where a directory of n pairs ends and the first stretch begins: "The first offset is 8 + 4 × (m + 2)"
abbrev pub end_of_pairs : ℕ → ℕ
end_of_pairs n = 8 + 4 * n

abbrev pub directory_end : List ℕ → ℕ
directory_end s = end_of_pairs (pairs_for (count_of s))

-- of the n pairs from pair k on: the first has the offset o, "each next is the previous offset plus length; the last ends at
-- the sheet's end". The offsets then rise, as no length is 0
unfoldable pub chained : List ℕ → ℕ → ℕ → ℕ → Bool
chained s zero k o = eqb o (length s)
chained s (suc n) k o = eqb (pair_at s k).offset o && chained s n (suc k) (o + (pair_at s k).size)

-- "1 to 8 two-byte goal places, so its length is even, 2 to 16"
unfoldable pub goals_size : ℕ → Bool
goals_size n = within 2 16 n && eqb (n % 2) 0

-- "directory cut off or breaking a pair's rule"
unfoldable pub good_directory : List ℕ → Bool
good_directory s =
    leb (directory_end s) (length s) && chained s (pairs_for (count_of s)) 0 (directory_end s)
    && eqb (grid_stretch s).size (width_of s * height_of s)
    && eqb (starts_stretch s).size (2 * count_of s)
    && all (λ j. goals_size (task_stretch s (task j)).size) (below (count_of s))

-- "Cause 4 now means a byte above 5"
unfoldable pub good_grid : Sheet → Bool
good_grid d = all (λ b. leb b 5) d.grid

-- "start off grid, blocked or shared"
unfoldable pub good_starts : Sheet → Bool
good_starts d = all (free d) d.starts && distinct d.starts

-- "goal off grid or blocked"
unfoldable pub good_goals : Sheet → Bool
good_goals d = all (all (free d)) d.tasks

-- "two tasks with one last goal"
unfoldable pub good_last_goals : Sheet → Bool
good_last_goals d = distinct (map (last 0) d.tasks)

-- of a sheet that has bytes: the first cause that lies in it, none where it is accepted
unfoldable pub cause : List ℕ → Option Cause
cause s =
    unless (leb 8 (length s)) ShortSheet
    or_else unless (good_header s) BadHeader
    or_else unless (good_directory s) BadDirectory
    or_else unless (good_grid (read s)) BadGrid
    or_else unless (good_starts (read s)) BadStart
    or_else unless (good_goals (read s)) BadGoal
    or_else unless (good_last_goals (read s)) SharedLastGoal

-- document 02, "A dark house": "a sheet of no bytes" is accepted; "Cause 1 is left for one to seven bytes"
unfoldable pub sheet_cause : List ℕ → Option Cause
sheet_cause [] = None
sheet_cause (b ∷ s) = cause (b ∷ s)
