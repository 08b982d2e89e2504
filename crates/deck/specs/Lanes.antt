-- Worked rounds of document 02, "One-way lanes". Assumes nothing.
use Rattle.std.specs.Prelude.{List, [], ◌∷◌}
use Rattle.deck.specs.Calls.{task_list}
use Rattle.deck.specs.Rounds.{Round, ask_cause, ask_check, ◌gives◌, searching, pathing, sheet_on, found, no_path, planned, none}

abbrev pub lanes : List Round
lanes =
    -- a lane is not left against its direction
    (pathing (sheet_on (0 ∷ 3 ∷ []) 2 1 1 1 (1 ∷ []) ((0 ∷ []) ∷ [])) 0 0 [] gives no_path 3)
    -- it may be entered against it
    ∷ (pathing (sheet_on (3 ∷ 0 ∷ []) 2 1 1 1 (1 ∷ []) ((0 ∷ []) ∷ [])) 0 0 [] gives found 1 (1 ∷ 0 ∷ []))
    -- and is then left only as it points
    ∷ (pathing (sheet_on (0 ∷ 3 ∷ 0 ∷ []) 3 1 4 1 (2 ∷ []) ((0 ∷ []) ∷ [])) 0 0 [] gives no_path 6)
    -- a way round
    ∷ (pathing (sheet_on (4 ∷ 0 ∷ 0 ∷ 0 ∷ []) 2 2 3 1 (0 ∷ []) ((1 ∷ []) ∷ [])) 0 0 [] gives found 3 (0 ∷ 2 ∷ 3 ∷ 1 ∷ []))
    -- waiting on a lane stays allowed
    ∷ (pathing (sheet_on (3 ∷ 0 ∷ []) 2 1 2 1 (0 ∷ []) ((0 ∷ []) ∷ [])) 0 0 [] gives found 0 (0 ∷ 0 ∷ 0 ∷ []))
    -- a lane is a place like any other to come back to
    ∷ (pathing (sheet_on (3 ∷ 0 ∷ []) 2 1 2 1 (0 ∷ []) ((1 ∷ 0 ∷ []) ∷ [])) 0 0 [] gives found 2 (0 ∷ 1 ∷ 0 ∷ []))
    -- a lane that leads off the grid is not left
    ∷ (pathing (sheet_on (0 ∷ 3 ∷ []) 2 1 3 1 (0 ∷ []) ((1 ∷ 0 ∷ []) ∷ [])) 0 0 [] gives no_path 5)
    -- 2 is north
    ∷ (pathing (sheet_on (0 ∷ 0 ∷ 0 ∷ 0 ∷ 2 ∷ 0 ∷ 0 ∷ 0 ∷ 0 ∷ []) 3 3 1 1 (4 ∷ []) ((1 ∷ []) ∷ [])) 0 0 [] gives found 1 (4 ∷ 1 ∷ []))
    ∷ (pathing (sheet_on (0 ∷ 0 ∷ 0 ∷ 0 ∷ 2 ∷ 0 ∷ 0 ∷ 0 ∷ 0 ∷ []) 3 3 1 1 (4 ∷ []) ((5 ∷ []) ∷ [])) 0 0 [] gives no_path 3)
    -- 3 is east
    ∷ (pathing (sheet_on (0 ∷ 0 ∷ 0 ∷ 0 ∷ 3 ∷ 0 ∷ 0 ∷ 0 ∷ 0 ∷ []) 3 3 1 1 (4 ∷ []) ((5 ∷ []) ∷ [])) 0 0 [] gives found 1 (4 ∷ 5 ∷ []))
    ∷ (pathing (sheet_on (0 ∷ 0 ∷ 0 ∷ 0 ∷ 3 ∷ 0 ∷ 0 ∷ 0 ∷ 0 ∷ []) 3 3 1 1 (4 ∷ []) ((7 ∷ []) ∷ [])) 0 0 [] gives no_path 3)
    -- 4 is south
    ∷ (pathing (sheet_on (0 ∷ 0 ∷ 0 ∷ 0 ∷ 4 ∷ 0 ∷ 0 ∷ 0 ∷ 0 ∷ []) 3 3 1 1 (4 ∷ []) ((7 ∷ []) ∷ [])) 0 0 [] gives found 1 (4 ∷ 7 ∷ []))
    ∷ (pathing (sheet_on (0 ∷ 0 ∷ 0 ∷ 0 ∷ 4 ∷ 0 ∷ 0 ∷ 0 ∷ 0 ∷ []) 3 3 1 1 (4 ∷ []) ((3 ∷ []) ∷ [])) 0 0 [] gives no_path 3)
    -- 5 is west
    ∷ (pathing (sheet_on (0 ∷ 0 ∷ 0 ∷ 0 ∷ 5 ∷ 0 ∷ 0 ∷ 0 ∷ 0 ∷ []) 3 3 1 1 (4 ∷ []) ((3 ∷ []) ∷ [])) 0 0 [] gives found 1 (4 ∷ 3 ∷ []))
    ∷ (pathing (sheet_on (0 ∷ 0 ∷ 0 ∷ 0 ∷ 5 ∷ 0 ∷ 0 ∷ 0 ∷ 0 ∷ []) 3 3 1 1 (4 ∷ []) ((1 ∷ []) ∷ [])) 0 0 [] gives no_path 3)
    -- on a grid of width 1 the place before is north, not west, and the place after south, not east
    ∷ (pathing (sheet_on (0 ∷ 5 ∷ []) 1 2 1 1 (1 ∷ []) ((0 ∷ []) ∷ [])) 0 0 [] gives no_path 3)
    ∷ (pathing (sheet_on (3 ∷ 0 ∷ []) 1 2 1 1 (0 ∷ []) ((1 ∷ []) ∷ [])) 0 0 [] gives no_path 3)
    ∷ (pathing (sheet_on (0 ∷ 2 ∷ []) 1 2 1 1 (1 ∷ []) ((0 ∷ []) ∷ [])) 0 0 [] gives found 1 (1 ∷ 0 ∷ []))
    -- of the paths that are left the first is taken
    ∷ (pathing (sheet_on (4 ∷ 0 ∷ 0 ∷ 0 ∷ []) 2 2 2 1 (0 ∷ []) ((3 ∷ []) ∷ [])) 0 0 [] gives found 2 (0 ∷ 2 ∷ 3 ∷ []))
    -- round 6 with a lane
    ∷ (searching (sheet_on (0 ∷ 4 ∷ 0 ∷ 0 ∷ []) 2 2 3 60 (0 ∷ 1 ∷ []) ((1 ∷ 0 ∷ []) ∷ (0 ∷ 1 ∷ []) ∷ [])) gives planned (1 ∷ 0 ∷ []) ((0 ∷ 1 ∷ 1 ∷ 1 ∷ []) ∷ (1 ∷ 3 ∷ 2 ∷ 0 ∷ []) ∷ []) 4 1)
    -- lanes that face each other: an exchange collides still
    ∷ (searching (sheet_on (3 ∷ 5 ∷ []) 2 1 1 8 (0 ∷ 1 ∷ []) ((0 ∷ 1 ∷ []) ∷ (1 ∷ 0 ∷ []) ∷ [])) gives none 1 5)
    -- one after the other along a lane
    ∷ (searching (sheet_on (3 ∷ 3 ∷ 0 ∷ []) 3 1 2 8 (0 ∷ 1 ∷ []) ((1 ∷ []) ∷ (2 ∷ []) ∷ [])) gives planned (0 ∷ 1 ∷ []) ((0 ∷ 1 ∷ 1 ∷ []) ∷ (1 ∷ 2 ∷ 2 ∷ []) ∷ []) 2 1)
    -- the plan check knows lanes
    ∷ (ask_check (sheet_on (0 ∷ 3 ∷ []) 2 1 1 1 (1 ∷ []) ((0 ∷ []) ∷ [])) (task_list (0 ∷ [])) (1 ∷ 0 ∷ []) gives 0 ∷ 0 ∷ 0 ∷ [])
    ∷ (ask_check (sheet_on (3 ∷ 0 ∷ []) 2 1 1 1 (1 ∷ []) ((0 ∷ []) ∷ [])) (task_list (0 ∷ [])) (1 ∷ 0 ∷ []) gives 0 ∷ 1 ∷ 1 ∷ [])
    -- starts and goals may be lanes, and 5 is a grid byte
    ∷ (ask_cause (sheet_on (2 ∷ 3 ∷ 4 ∷ 5 ∷ []) 2 2 0 1 (0 ∷ []) ((3 ∷ []) ∷ [])) gives 0 ∷ [])
    -- 6 is none, and this is found before the starts and the goals
    ∷ (ask_cause (sheet_on (0 ∷ 6 ∷ []) 2 1 0 1 (5 ∷ 5 ∷ []) ((5 ∷ []) ∷ (5 ∷ []) ∷ [])) gives 4 ∷ [])
    -- a constraint on a move that no lane allows is accepted, and bars nothing
    ∷ (pathing (sheet_on (0 ∷ 5 ∷ 0 ∷ []) 3 1 2 1 (1 ∷ []) ((0 ∷ []) ∷ [])) 0 0 (1 ∷ 0 ∷ 1 ∷ 2 ∷ 0 ∷ []) gives found 1 (1 ∷ 0 ∷ 0 ∷ []))
    ∷ []
