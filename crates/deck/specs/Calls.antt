-- Document 01, "When the planner declines": the whole result of every public call, for any input. Of each call: the cause, 0
-- where it is accepted; the answer; and the lent words afterwards. The calls promise an answer that is an enum in document 01's
-- numbers (Numbers), from which the case follows (proofs/Told). Assumes nothing.
use Rattle.std.specs.Prelude.{ℕ, zero, suc, ◌+◌, ◌-◌, ◌*◌, ◌/◌, ◌%◌, ◌≤◌, ◌<◌, ◌≡◌, ◌≢◌, Bool, cond, ◌&&◌, List, [], ◌++◌, map, length, get_or, drop, replicate, ℤ, pos, ltb, leb, eqb, Option, None, Some, Result}
use Rattle.deck.specs.Causes.{unless, ◌or_else◌, answer_unless, accepted_else}
use Rattle.deck.specs.Lists.{below, within, all, flat, pieces}
use Rattle.deck.specs.Sheet.{Sheet, read, area, most_goals, carrier, width_of, height_of, count_of, horizon_of, limit_of, pair_at, pairs_for, task_stretch, sheet_cause}
use Rattle.deck.specs.Paths.{least_path, finish_of}
use Rattle.deck.specs.Collisions.{first_collision}
use Rattle.deck.specs.Assignments.{least_assignment, sum_of, Priced}
use Rattle.deck.specs.Search.{Answer, plan, no_plan, spent}
use Rattle.deck.specs.Planner.{round_of}
use Rattle.deck.specs.PlanCheck.{plan_check}
use Rattle.deck.specs.Numbers.{no_tasks, found_numbers, path_numbers, search_numbers}
use Rattle.deck.specs.declared.Carrier.{Carrier}
use Rattle.deck.specs.declared.Task.{Task}
use Rattle.deck.specs.declared.Stretch.{Stretch}
use Rattle.deck.specs.declared.Constraint.{Constraint}
use Rattle.deck.specs.declared.Constraint.TheVariants.{Place, Move}
use Rattle.deck.specs.declared.Collision.{Collision}
use Rattle.deck.specs.declared.Reading.{Reading}
use Rattle.deck.specs.declared.SearchAnswer.{SearchAnswer}
use Rattle.deck.specs.declared.SearchAnswer.TheVariants.{Plan, NoPlan, Spent}
use Rattle.deck.specs.declared.cause.Cause.{Cause}
use Rattle.deck.specs.declared.cause.Cause.TheVariants.{BadNumber, BadRecords, BadCount, ShortWorkspace, WrongLength}

-- "task list of 12 (255 from m on ..)"
abbrev pub task_list : List ℕ → List ℕ
task_list a = a ++ replicate (12 - length a) 255

-- "at least 512 × N + (H + 1) × w × h × (K + 1) + 4096 words of 32 bits"
unfoldable pub workspace_for : Sheet → ℕ
workspace_for d = 512 * d.limit + suc d.horizon * area d * suc (most_goals d) + 4096

-- "no workspace needed" without carriers
unfoldable pub workspace_of : Sheet → ℕ
workspace_of d = cond (eqb d.count 0) 0 (workspace_for d)

-- "workspace short"
abbrev pub workspace_cause : Sheet → ℕ → Option Cause
workspace_cause d work = unless (leb (workspace_of d) work) ShortWorkspace

-- "output under .. words"
abbrev pub output_cause : ℕ → ℕ → Option Cause
output_cause words out = unless (leb words out) WrongLength

-- the words of a plan's paths, m × (H + 1)
abbrev pub plan_words : Sheet → ℕ
plan_words d = d.count * suc d.horizon

-- the first words of a lent buffer are ws; "Other output words stay"
abbrev pub overwrite : List ℕ → List ℕ → List ℕ
overwrite ws out = ws ++ drop (length ws) out

-- no stretch of a sheet, or the empty one at its start
abbrev pub nowhere : Stretch
nowhere = record { offset = 0; size = 0 }

-- THE SHEET READER. A cause, or the header and the directory's pairs: as many as 12 tasks have, nowhere past the last
abbrev pub most_pairs : ℕ
most_pairs = pairs_for 12

abbrev pub pair_list : List Stretch → List Stretch
pair_list l = l ++ replicate (most_pairs - length l) nowhere

unfoldable pub reading_of : List ℕ → Reading
reading_of s =
    record {
      width = width_of s;
      height = height_of s;
      count = count_of s;
      horizon = horizon_of s;
      limit = limit_of s;
      pairs = pair_list (map (pair_at s) (below (pairs_for (count_of s))));
    }

unfoldable pub read_call : List ℕ → Result Reading Cause
read_call s = answer_unless (sheet_cause s) (reading_of s)

-- A TASK'S GOALS: "hands back that stretch of the sheet itself; on any cause, the empty stretch at the sheet's start"
unfoldable pub goals_cause : List ℕ → Task → Option Cause
goals_cause s j = sheet_cause s or_else unless (ltb j.0 (count_of s)) BadNumber

abbrev pub stretch_for : Option Cause → Stretch → Stretch
stretch_for c r = accepted_else c r nowhere

unfoldable pub goals_call : List ℕ → Task → Stretch
goals_call s j = stretch_for (goals_cause s j) (task_stretch s j)

-- ONE CARRIER'S LEAST PATH. "a list of records of five 16-bit words: kind (0 place, 1 move), carrier, u, v (0 in kind 0), t"
abbrev pub record_word : List ℕ → ℕ → ℕ → ℕ
record_word rs k n = get_or rs (5 * k + n) 0

abbrev pub constraint_of : ℕ → Carrier → ℕ → ℕ → ℕ → Constraint
constraint_of zero a u v t = Place a u t
constraint_of (suc k) a u v t = Move a u v t

abbrev pub constraint_at : List ℕ → ℕ → Constraint
constraint_at rs k =
    constraint_of (record_word rs k 0) (carrier (record_word rs k 1)) (record_word rs k 2) (record_word rs k 3) (record_word rs k 4)

unfoldable pub constraints_of : List ℕ → List Constraint
constraints_of rs = map (constraint_at rs) (below (length rs / 5))

-- "place off grid, v not 0 in kind 0, t above H (kind 0) or not below H (kind 1)"
abbrev pub good_tail : Sheet → ℕ → ℕ → ℕ → Bool
good_tail d zero v t = eqb v 0 && leb t d.horizon
good_tail d (suc k) v t = ltb v (area d) && ltb t d.horizon

-- "kind above 1, carrier not below m" and the rest
unfoldable pub good_record : Sheet → List ℕ → ℕ → Bool
good_record d rs k =
    leb (record_word rs k 0) 1 && ltb (record_word rs k 1) d.count && ltb (record_word rs k 2) (area d)
    && good_tail d (record_word rs k 0) (record_word rs k 3) (record_word rs k 4)

-- "constraint list not in fives, over 4096 records" and the rest
unfoldable pub good_records : Sheet → List ℕ → Bool
good_records d rs =
    eqb (length rs % 5) 0 && leb (length rs / 5) 4096 && all (good_record d rs) (below (length rs / 5))

-- by the numbers of words of workspace and output
unfoldable pub path_cause : List ℕ → Carrier → Task → ℕ → ℕ → List ℕ → Option Cause
path_cause s i j work out rs =
    sheet_cause s
    or_else unless (ltb i.0 (count_of s) && ltb j.0 (count_of s)) BadNumber
    or_else unless (good_records (read s) rs) BadRecords
    or_else workspace_cause (read s) work
    or_else output_cause (suc (horizon_of s)) out

-- the finish of a path, where there is one
unfoldable pub path_found : Sheet → Task → Option (List ℕ) → Option ℕ
path_found d j None = None
path_found d j (Some p) = Some (finish_of d j p)

unfoldable pub path_written : Option (List ℕ) → List ℕ → List ℕ
path_written None out = out
path_written (Some p) out = overwrite p out

unfoldable pub path_answer_for : Option Cause → Sheet → Carrier → Task → List ℕ → Result (Option ℕ) Cause
path_answer_for c d i j rs = answer_unless c (path_found d j (least_path d i j (constraints_of rs)))

unfoldable pub path_output_for : Option Cause → Sheet → Carrier → Task → List ℕ → List ℕ → List ℕ
path_output_for c d i j rs out = accepted_else c (path_written (least_path d i j (constraints_of rs)) out) out

-- of the words lent, the answer's numbers, and the words as they stand afterwards
pub record PathCall (s : List ℕ) (i : Carrier) (j : Task) (work out rs numbers work' out' : List ℕ) : Type 0 where
  pub answered : numbers ≡ path_numbers (path_answer_for (path_cause s i j (length work) (length out) rs) (read s) i j rs)
  pub written : out' ≡ path_output_for (path_cause s i j (length work) (length out) rs) (read s) i j rs out
  -- used workspace is free after an accepted call
  pub refused_work : path_cause s i j (length work) (length out) rs ≢ None → work' ≡ work

-- THE LEAST ASSIGNMENT. "count m outside 1 to 12, or table not m × m"
unfoldable pub assignment_cause : ℕ → List ℕ → Option Cause
assignment_cause m table = unless (within 1 12 m && eqb (length table) (m * m)) BadCount

unfoldable pub least_for : Option Cause → ℕ → List ℕ → Option (List ℕ)
least_for c m table = accepted_else c (least_assignment m table) None

-- the sum of an assignment, where there is one
unfoldable pub sum_found : ℕ → List ℕ → Option (List ℕ) → Option ℕ
sum_found m table None = None
sum_found m table (Some a) = Some (sum_of m table a)

unfoldable pub assignment_answer_for : Option Cause → ℕ → List ℕ → Result (Option ℕ) Cause
assignment_answer_for c m table = answer_unless c (sum_found m table (least_assignment m table))

unfoldable pub assignment_tasks : Option (List ℕ) → List ℕ
assignment_tasks None = no_tasks
assignment_tasks (Some a) = task_list a

-- prices of the numbers from m on are 0
abbrev pub ZeroFrom : ℕ → List ℤ → Type 0
ZeroFrom m prices = (k : ℕ) → m ≤ k → k < 12 → get_or prices k (pos 0) ≡ pos 0

abbrev pub PricesOf : ℕ → List ℕ → Option (List ℕ) → List ℤ → List ℤ → Type 0
PricesOf m table None rows columns = ZeroFrom 0 rows × ZeroFrom 0 columns
PricesOf m table (Some a) rows columns = Priced m table a rows columns × ZeroFrom m rows × ZeroFrom m columns

-- of the answer's numbers, task list and prices
pub record AssignmentCall (m : ℕ) (table numbers tasks : List ℕ) (rows columns : List ℤ) : Type 0 where
  pub answered : numbers ≡ found_numbers (assignment_answer_for (assignment_cause m table) m table)
  pub listed : tasks ≡ assignment_tasks (least_for (assignment_cause m table) m table)
  pub priced : PricesOf m table (least_for (assignment_cause m table) m table) rows columns

-- THE FIRST COLLISION. "m and H, a byte each, and any 16-bit paths"
unfoldable pub collision_cause : ℕ → ℕ → List ℕ → Option Cause
collision_cause m h ws = unless (within 1 12 m) BadCount or_else unless (eqb (length ws) (m * suc h)) WrongLength

unfoldable pub collision_call : ℕ → ℕ → List ℕ → Result (Option Collision) Cause
collision_call m h ws = answer_unless (collision_cause m h ws) (first_collision m h (pieces m (suc h) ws))

-- THE SEARCH. By the numbers of words of workspace and output
unfoldable pub search_cause : List ℕ → ℕ → ℕ → Option Cause
search_cause s work out =
    sheet_cause s
    or_else workspace_cause (read s) work
    or_else output_cause (plan_words (read s)) out

unfoldable pub search_found : Answer (List ℕ) → SearchAnswer
search_found (plan a ps f n b) = Plan (task_list a) f n b
search_found (no_plan n) = NoPlan n
search_found (spent n b) = Spent n b

-- "Only a plan .. is written: the first m × (H + 1) 16-bit words of the output, carrier by carrier"
unfoldable pub search_written : Answer (List ℕ) → List ℕ → List ℕ
search_written (plan a ps f n b) out = overwrite (flat ps) out
search_written (no_plan n) out = out
search_written (spent n b) out = out

unfoldable pub search_answer_for : Option Cause → Sheet → Result SearchAnswer Cause
search_answer_for c d = answer_unless c (search_found (round_of d))

unfoldable pub search_output_for : Option Cause → Sheet → List ℕ → List ℕ
search_output_for c d out = accepted_else c (search_written (round_of d) out) out

unfoldable pub search_answer : List ℕ → ℕ → ℕ → Result SearchAnswer Cause
search_answer s work out = search_answer_for (search_cause s work out) (read s)

unfoldable pub search_output : List ℕ → ℕ → List ℕ → List ℕ
search_output s work out = search_output_for (search_cause s work (length out)) (read s) out

-- of the words lent, the answer's numbers, and the words as they stand afterwards
pub record SearchCall (s work out numbers work' out' : List ℕ) : Type 0 where
  pub answered : numbers ≡ search_numbers (search_answer s (length work) (length out))
  pub written : out' ≡ search_output s (length work) out
  -- used workspace is free after an accepted call
  pub refused_work : search_cause s (length work) (length out) ≢ None → work' ≡ work
  -- a sheet of no bytes uses none
  pub dark_work : s ≡ [] → work' ≡ work

-- THE PLAN CHECK. Of a task list of 12 and paths
unfoldable pub check_cause : List ℕ → List ℕ → Option Cause
check_cause s ws = sheet_cause s or_else unless (eqb (length ws) (plan_words (read s))) WrongLength

unfoldable pub check_call : List ℕ → List ℕ → List ℕ → Result (Option ℕ) Cause
check_call s tasks ws =
    answer_unless (check_cause s ws) (plan_check (read s) tasks (pieces (count_of s) (suc (horizon_of s)) ws))
