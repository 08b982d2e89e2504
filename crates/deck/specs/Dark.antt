-- Worked rounds of document 02, "A dark house". Assumes nothing.
use Rattle.std.specs.Prelude.{List, [], ◌∷◌, replicate}
use Rattle.deck.specs.Calls.{task_list}
use Rattle.deck.specs.Listing.{text}
use Rattle.deck.specs.Numbers.{no_tasks}
use Rattle.deck.specs.Rounds.{Round, ask_cause, ask_goals, ask_path, ask_assignment, ask_collision, ask_search, ask_check, ask_listing, ◌gives◌, planned}

abbrev pub dark : List Round
dark =
    -- "a sheet of no bytes" is accepted; "Cause 1 is left for one to seven bytes"
    (ask_cause [] gives 0 ∷ [])
    ∷ (ask_cause (0 ∷ []) gives 1 ∷ [])
    ∷ (ask_cause (replicate 7 1) gives 1 ∷ [])
    -- a sheet with bytes that says m 0 is no dark house
    ∷ (ask_cause (replicate 8 0) gives 2 ∷ [])
    -- "plan, flowtime 0, 0 nodes, bound 0, all task entries 255, no word written and no workspace needed"
    ∷ (ask_search [] 0 0 gives 0 ∷ 0 ∷ 0 ∷ 0 ∷ 0 ∷ replicate 12 255)
    ∷ (ask_search [] 0 1 gives planned [] [] 0 0)
    ∷ (ask_search [] 1 0 gives 0 ∷ 0 ∷ 0 ∷ 0 ∷ 0 ∷ replicate 12 255)
    ∷ (ask_listing [] gives text "plan 0 nodes 0\n")
    -- "Asked for a path or a task's goals, it has no carrier or task, so cause 8 applies": before 9, 10 and 11
    ∷ (ask_path [] 0 0 0 0 (7 ∷ []) gives 8 ∷ 0 ∷ 0 ∷ [])
    ∷ (ask_path [] 0 0 4096 1 [] gives 8 ∷ 0 ∷ 0 ∷ 9 ∷ [])
    ∷ (ask_goals [] 0 gives 0 ∷ 0 ∷ [])
    -- "Plan check says yes to it for no paths and a list of 255s"
    ∷ (ask_check [] no_tasks [] gives 0 ∷ 1 ∷ 0 ∷ [])
    ∷ (ask_check [] (task_list (0 ∷ [])) [] gives 0 ∷ 0 ∷ 0 ∷ [])
    ∷ (ask_check [] (replicate 12 0) [] gives 0 ∷ 0 ∷ 0 ∷ [])
    ∷ (ask_check [] no_tasks (0 ∷ []) gives 11 ∷ 0 ∷ 0 ∷ [])
    -- without a sheet m 0 stays a bad count
    ∷ (ask_assignment 0 [] gives 12 ∷ 0 ∷ 0 ∷ no_tasks)
    ∷ (ask_collision 0 0 [] gives 12 ∷ 0 ∷ 0 ∷ 0 ∷ 0 ∷ 0 ∷ 0 ∷ 0 ∷ [])
    ∷ []
