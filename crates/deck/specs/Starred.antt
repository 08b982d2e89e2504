-- The starred rounds 1 to 8 of document 01, "Rounds worked out". Where the document leaves N open it is 4096. Assumes nothing.
use Rattle.std.specs.Prelude.{List, [], ◌∷◌}
use Rattle.deck.specs.Calls.{task_list}
use Rattle.deck.specs.Listing.{text}
use Rattle.deck.specs.Numbers.{no_tasks}
use Rattle.deck.specs.Rounds.{Round, ask_cause, ask_assignment, ask_listing, ◌gives◌, searching, sheet, planned, none, spent, round6, crossing, row}

abbrev pub starred : List Round
starred =
    -- 1
    (searching (sheet 1 1 0 4096 (0 ∷ []) ((0 ∷ []) ∷ [])) gives planned (0 ∷ []) ((0 ∷ []) ∷ []) 0 1)
    -- 2
    ∷ (searching (sheet 2 1 1 4096 (0 ∷ []) ((1 ∷ []) ∷ [])) gives planned (0 ∷ []) ((0 ∷ 1 ∷ []) ∷ []) 1 1)
    ∷ (searching (sheet 2 1 0 4096 (0 ∷ []) ((1 ∷ []) ∷ [])) gives none 0 2)
    -- 3
    ∷ (searching (sheet 2 1 3 4096 (0 ∷ 1 ∷ []) ((1 ∷ []) ∷ (0 ∷ []) ∷ []))
    gives planned (1 ∷ 0 ∷ []) ((0 ∷ 0 ∷ 0 ∷ 0 ∷ []) ∷ (1 ∷ 1 ∷ 1 ∷ 1 ∷ []) ∷ []) 0 1)
    -- 4
    ∷ (searching (sheet 3 1 1 4096 (0 ∷ 1 ∷ []) ((1 ∷ []) ∷ (2 ∷ []) ∷ []))
    gives planned (0 ∷ 1 ∷ []) ((0 ∷ 1 ∷ []) ∷ (1 ∷ 2 ∷ []) ∷ []) 2 1)
    -- 5
    ∷ (searching (crossing 2 1 2 6) gives none 6 7)
    ∷ (searching (crossing 2 1 2 5) gives spent 3 5 7)
    ∷ (searching (crossing 2 1 2 1) gives spent 2 1 7)
    -- 6
    ∷ (searching (crossing 2 2 3 18) gives planned (1 ∷ 0 ∷ []) ((0 ∷ 2 ∷ 3 ∷ 1 ∷ []) ∷ (1 ∷ 0 ∷ 0 ∷ 0 ∷ []) ∷ []) 4 18)
    ∷ (searching (crossing 2 2 3 17) gives spent 4 17 9)
    ∷ (ask_listing round6
    gives text "plan 4 nodes 18\ncarrier 0 task 1 finish 3: 0 2 3 1\ncarrier 1 task 0 finish 1: 1 0 0 0\n")
    -- 7
    ∷ (ask_assignment 2 (1 ∷ 2 ∷ 2 ∷ 4 ∷ []) gives 0 ∷ 1 ∷ 4 ∷ task_list (1 ∷ 0 ∷ []))
    ∷ (ask_assignment 2 (3 ∷ 3 ∷ 3 ∷ 3 ∷ []) gives 0 ∷ 1 ∷ 6 ∷ task_list (0 ∷ 1 ∷ []))
    ∷ (ask_assignment 2 (65535 ∷ 0 ∷ 65535 ∷ 0 ∷ []) gives 0 ∷ 0 ∷ 0 ∷ no_tasks)
    -- 8: a header byte 2 of 12 passes its range, whether the rest is good or not
    ∷ (ask_cause (row 12) gives 0 ∷ [])
    ∷ (ask_cause (1 ∷ 1 ∷ 12 ∷ 0 ∷ 1 ∷ 0 ∷ 0 ∷ 0 ∷ []) gives 3 ∷ [])
    ∷ (ask_cause (1 ∷ 1 ∷ 13 ∷ 0 ∷ 1 ∷ 0 ∷ 0 ∷ 0 ∷ []) gives 2 ∷ [])
    ∷ (ask_cause (1 ∷ 1 ∷ 0 ∷ 0 ∷ 1 ∷ 0 ∷ 0 ∷ 0 ∷ []) gives 2 ∷ [])
    ∷ (ask_cause (1 ∷ 1 ∷ 1 ∷ 0 ∷ 1 ∷ 0 ∷ 0 ∷ []) gives 1 ∷ [])
    ∷ []
