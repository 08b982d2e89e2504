-- The worked rounds of document 01 that it marks with a star, and further rounds that pin what those leave open: each a
-- question to a call and the numbers that the definitions have to answer. Assumes nothing.
use Rattle.std.specs.Prelude.{ℕ, suc, ◌+◌, ◌*◌, ◌/◌, ◌%◌, ◌≡◌, List, [], ◌∷◌, ◌++◌, map, length, take, replicate}
use Rattle.deck.specs.Lists.{below, each, flat}
use Rattle.deck.specs.Ranks.{sort_by}
use Rattle.deck.specs.Sheet.{read, carrier, task, end_of_pairs, sheet_cause}
use Rattle.deck.specs.Calls.{task_list, workspace_for, plan_words, goals_call, path_cause, path_answer_for, path_output_for, assignment_cause, least_for, assignment_answer_for, assignment_tasks, collision_call, search_answer, search_output, check_call}
use Rattle.deck.specs.Numbers.{no_tasks, cause_number, found_numbers, path_numbers, collision_numbers, search_numbers, check_numbers}
use Rattle.deck.specs.Listing.{listing}

pub data Question : Type 0 where
  -- the cause that lies in a sheet
  ask_cause : (sheet : List ℕ) → Question
  -- the stretch of a task's goals
  ask_goals : (sheet : List ℕ) (j : ℕ) → Question
  -- the least path of a carrier for a task under a list of records, with so many words of workspace and output
  ask_path : (sheet : List ℕ) (i j work words : ℕ) (records : List ℕ) → Question
  -- the least assignment of a table
  ask_assignment : (m : ℕ) (table : List ℕ) → Question
  -- the first collision of paths
  ask_collision : (m h : ℕ) (paths : List ℕ) → Question
  -- the search, with so many words of workspace and output
  ask_search : (sheet : List ℕ) (work words : ℕ) → Question
  -- the plan check
  ask_check : (sheet tasks paths : List ℕ) → Question
  -- the listing
  ask_listing : (sheet : List ℕ) → Question
  -- lists in the order of their first n numbers
  ask_sorted : (n : ℕ) (lists : List (List ℕ)) → Question

-- the answer in numbers, then the words of output, which held 9 before
unfoldable pub answered : Question → List ℕ
answered (ask_cause s) = cause_number (sheet_cause s) ∷ []
answered (ask_goals s j) = let r = goals_call s (task j) in r.offset ∷ r.size ∷ []
answered (ask_path s i j work words rs) =
    let c = path_cause s (carrier i) (task j) work words rs in
    path_numbers (path_answer_for c (read s) (carrier i) (task j) rs)
    ++ path_output_for c (read s) (carrier i) (task j) rs (replicate words 9)
answered (ask_assignment m table) =
    let c = assignment_cause m table in
    found_numbers (assignment_answer_for c m table) ++ assignment_tasks (least_for c m table)
answered (ask_collision m h ws) = collision_numbers (collision_call m h ws)
answered (ask_search s work words) = search_numbers (search_answer s work words) ++ search_output s work (replicate words 9)
answered (ask_check s tasks ws) = check_numbers (check_call s tasks ws)
answered (ask_listing s) = listing s
answered (ask_sorted n lists) = flat (sort_by (take n) lists)

pub record Round : Type 0 where
  pub question : Question
  pub answer : List ℕ

infix 20 ◌gives◌
abbrev pub ◌gives◌ : Question → List ℕ → Round
q gives a = record { question = q; answer = a }

abbrev pub Holds : Round → Type 0
Holds r = answered r.question ≡ r.answer

-- a two-byte value
abbrev pub bytes_of : ℕ → List ℕ
bytes_of x = x % 256 ∷ x / 256 ∷ []

-- the directory of stretches that stand one after the other from an offset on
abbrev pub directory : ℕ → List (List ℕ) → List ℕ
directory o [] = []
directory o (p ∷ ps) = bytes_of o ++ bytes_of (length p) ++ directory (o + length p) ps

-- a sheet, with its grid
abbrev pub sheet_on : (grid : List ℕ) (w h horizon limit : ℕ) (starts : List ℕ) (tasks : List (List ℕ)) → List ℕ
sheet_on grid w h horizon limit starts tasks =
    let parts : List (List ℕ) = grid ∷ each bytes_of starts ∷ map (each bytes_of) tasks in
    (w ∷ h ∷ length starts ∷ horizon ∷ []) ++ bytes_of limit ++ (0 ∷ 0 ∷ [])
    ++ directory (end_of_pairs (length parts)) parts ++ flat parts

-- a sheet whose places are all free
abbrev pub sheet : (w h horizon limit : ℕ) (starts : List ℕ) (tasks : List (List ℕ)) → List ℕ
sheet w h = sheet_on (replicate (w * h) 0) w h

-- the search with just enough workspace, and with one word of output more than it writes
abbrev pub searching : List ℕ → Question
searching s = ask_search s (workspace_for (read s)) (suc (plan_words (read s)))

-- the same of one path
abbrev pub pathing : List ℕ → ℕ → ℕ → List ℕ → Question
pathing s i j rs = ask_path s i j (workspace_for (read s)) (suc (suc (read s).horizon)) rs

abbrev pub found : (finish : ℕ) → List ℕ → List ℕ
found f p = 0 ∷ 1 ∷ f ∷ p ++ (9 ∷ [])

abbrev pub no_path : (words : ℕ) → List ℕ
no_path words = 0 ∷ 0 ∷ 0 ∷ replicate words 9

abbrev pub planned : (tasks : List ℕ) (paths : List (List ℕ)) (flowtime nodes : ℕ) → List ℕ
planned tasks paths f n = 0 ∷ 0 ∷ f ∷ n ∷ f ∷ task_list tasks ++ flat paths ++ (9 ∷ [])

abbrev pub none : (nodes words : ℕ) → List ℕ
none n words = 0 ∷ 1 ∷ 0 ∷ n ∷ 0 ∷ no_tasks ++ replicate words 9

abbrev pub spent : (bound nodes words : ℕ) → List ℕ
spent b n words = 0 ∷ 2 ∷ 0 ∷ n ∷ b ∷ no_tasks ++ replicate words 9

abbrev pub refused : (cause words : ℕ) → List ℕ
refused c words = c ∷ 3 ∷ 0 ∷ 0 ∷ 0 ∷ no_tasks ++ replicate words 9

-- round 6 with N 18, as document 01 writes it
abbrev pub round6 : List ℕ
round6 =
    2 ∷ 2 ∷ 2 ∷ 3 ∷ 18 ∷ 0 ∷ 0 ∷ 0 ∷ 24 ∷ 0 ∷ 4 ∷ 0 ∷ 28 ∷ 0 ∷ 4 ∷ 0 ∷ 32 ∷ 0 ∷ 4 ∷ 0 ∷ 36 ∷ 0 ∷ 4 ∷ 0
    ∷ 0 ∷ 0 ∷ 0 ∷ 0 ∷ 0 ∷ 0 ∷ 1 ∷ 0 ∷ 1 ∷ 0 ∷ 0 ∷ 0 ∷ 0 ∷ 0 ∷ 1 ∷ 0 ∷ []

-- rounds 5 and 6: starts 0 1, tasks [1 0] and [0 1]
abbrev pub crossing : (w h horizon limit : ℕ) → List ℕ
crossing w h horizon limit = sheet w h horizon limit (0 ∷ 1 ∷ []) ((1 ∷ 0 ∷ []) ∷ (0 ∷ 1 ∷ []) ∷ [])

-- m carriers in a row of 12, each on its goal
abbrev pub row : ℕ → List ℕ
row m = sheet 12 1 0 1 (below m) (map (λ x. x ∷ []) (below m))
