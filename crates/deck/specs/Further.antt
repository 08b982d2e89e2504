-- Rounds of our own: each pins a rule of document 01 that the starred rounds leave open, named above it. Assumes nothing.
use Rattle.std.specs.Prelude.{List, [], ◌∷◌, ◌++◌, replicate}
use Rattle.deck.specs.Calls.{task_list}
use Rattle.deck.specs.Listing.{text}
use Rattle.deck.specs.Numbers.{no_tasks}
use Rattle.deck.specs.Rounds.{Round, ask_cause, ask_goals, ask_path, ask_assignment, ask_collision, ask_search, ask_check, ask_listing, ◌gives◌, searching, pathing, sheet, sheet_on, found, no_path, planned, none, spent, refused, round6, crossing}

abbrev pub searches : List Round
searches =
    -- i's child is made first
    (searching (sheet 3 1 4 9 (2 ∷ 0 ∷ []) ((1 ∷ []) ∷ (1 ∷ 0 ∷ []) ∷ [])) gives planned (0 ∷ 1 ∷ []) ((2 ∷ 2 ∷ 1 ∷ 1 ∷ 1 ∷ []) ∷ (0 ∷ 1 ∷ 0 ∷ 0 ∷ 0 ∷ []) ∷ []) 4 6)
    -- the next root is made before the children
    ∷ (searching (sheet 3 2 4 4096 (3 ∷ 0 ∷ []) ((1 ∷ 1 ∷ []) ∷ (0 ∷ []) ∷ [])) gives planned (1 ∷ 0 ∷ []) ((3 ∷ 0 ∷ 0 ∷ 0 ∷ 0 ∷ []) ∷ (0 ∷ 1 ∷ 1 ∷ 1 ∷ 1 ∷ []) ∷ []) 2 4)
    -- only roots make roots
    ∷ (searching (sheet 3 1 3 12 (1 ∷ 2 ∷ 0 ∷ []) ((0 ∷ []) ∷ (1 ∷ 2 ∷ []) ∷ (1 ∷ []) ∷ [])) gives spent 4 12 13)
    -- roots are made one at a time
    ∷ (searching (sheet 2 1 1 1 (1 ∷ 0 ∷ []) ((1 ∷ 1 ∷ []) ∷ (0 ∷ []) ∷ [])) gives planned (0 ∷ 1 ∷ []) ((1 ∷ 1 ∷ []) ∷ (0 ∷ 0 ∷ []) ∷ []) 0 1)
    -- a child without a path is not made and does not spend
    ∷ (searching (sheet_on (0 ∷ 0 ∷ 0 ∷ 1 ∷ []) 2 2 2 6 (1 ∷ 0 ∷ 2 ∷ []) ((2 ∷ []) ∷ (2 ∷ 1 ∷ []) ∷ (0 ∷ 0 ∷ []) ∷ [])) gives none 6 10)
    -- of a move collision each carrier's own direction is barred
    ∷ (searching (sheet 2 1 1 8 (0 ∷ 1 ∷ []) ((0 ∷ 1 ∷ []) ∷ (1 ∷ 0 ∷ []) ∷ [])) gives none 1 5)
    -- a finished carrier still collides
    ∷ (searching (sheet 2 1 2 3 (1 ∷ 0 ∷ []) ((1 ∷ []) ∷ (1 ∷ 0 ∷ []) ∷ [])) gives spent 2 3 7)
    -- a constraint binds after the finish
    ∷ (searching (sheet_on (1 ∷ 0 ∷ 0 ∷ []) 3 1 3 6 (1 ∷ 2 ∷ []) ((1 ∷ 1 ∷ []) ∷ (1 ∷ 2 ∷ []) ∷ [])) gives spent 3 6 9)
    -- of the paths of least finish the first is taken
    ∷ (searching (sheet 2 2 3 4096 (0 ∷ []) ((1 ∷ 2 ∷ []) ∷ [])) gives planned (0 ∷ []) ((0 ∷ 1 ∷ 0 ∷ 2 ∷ []) ∷ []) 3 1)
    -- of the assignments of least sum the first is taken
    ∷ (searching (sheet 3 1 2 4096 (0 ∷ 1 ∷ []) ((1 ∷ 0 ∷ []) ∷ (2 ∷ 2 ∷ []) ∷ [])) gives planned (0 ∷ 1 ∷ []) ((0 ∷ 1 ∷ 0 ∷ []) ∷ (1 ∷ 2 ∷ 2 ∷ []) ∷ []) 3 1)
    ∷ []

abbrev pub paths : List Round
paths =
    -- several equal goals at one time
    (pathing (sheet 2 1 1 1 (0 ∷ []) ((1 ∷ 1 ∷ []) ∷ [])) 0 0 [] gives found 1 (0 ∷ 1 ∷ []))
    -- time 0 counts
    ∷ (pathing (sheet 2 1 1 1 (0 ∷ []) ((0 ∷ 1 ∷ []) ∷ [])) 0 0 [] gives found 1 (0 ∷ 1 ∷ []))
    -- passing over a goal counts
    ∷ (pathing (sheet 3 1 2 1 (0 ∷ []) ((1 ∷ 2 ∷ []) ∷ [])) 0 0 [] gives found 2 (0 ∷ 1 ∷ 2 ∷ []))
    -- the least finish comes before the list
    ∷ (pathing (sheet 2 1 2 1 (1 ∷ []) ((1 ∷ []) ∷ [])) 0 0 [] gives found 0 (1 ∷ 1 ∷ 1 ∷ []))
    -- a place barred on the last goal, after the path could be there
    ∷ (pathing (sheet 2 1 3 1 (0 ∷ []) ((1 ∷ []) ∷ [])) 0 0 (0 ∷ 0 ∷ 1 ∷ 0 ∷ 2 ∷ []) gives found 3 (0 ∷ 0 ∷ 0 ∷ 1 ∷ []))
    -- barred there at H
    ∷ (pathing (sheet 2 1 3 1 (0 ∷ []) ((1 ∷ []) ∷ [])) 0 0 (0 ∷ 0 ∷ 1 ∷ 0 ∷ 3 ∷ []) gives no_path 5)
    -- waiting barred there, after the path could be there
    ∷ (pathing (sheet 2 1 3 1 (0 ∷ []) ((1 ∷ []) ∷ [])) 0 0 (1 ∷ 0 ∷ 1 ∷ 1 ∷ 1 ∷ []) gives found 2 (0 ∷ 0 ∷ 1 ∷ 1 ∷ []))
    -- another carrier's constraint does not bind
    ∷ (pathing (sheet 2 1 1 1 (0 ∷ 1 ∷ []) ((1 ∷ []) ∷ (0 ∷ []) ∷ [])) 0 0 (0 ∷ 1 ∷ 1 ∷ 0 ∷ 1 ∷ []) gives found 1 (0 ∷ 1 ∷ []))
    -- no step from the end of a row to the next
    ∷ (pathing (sheet 2 2 1 1 (1 ∷ []) ((2 ∷ []) ∷ [])) 0 0 [] gives no_path 3)
    -- a grid one place wide
    ∷ (pathing (sheet 1 3 2 1 (0 ∷ []) ((2 ∷ []) ∷ [])) 0 0 [] gives found 2 (0 ∷ 1 ∷ 2 ∷ []))
    ∷ []

abbrev pub assignments : List Round
assignments =
    -- rows are carriers and columns tasks
    (ask_assignment 3 (5 ∷ 0 ∷ 5 ∷ 5 ∷ 5 ∷ 0 ∷ 0 ∷ 5 ∷ 5 ∷ []) gives 0 ∷ 1 ∷ 0 ∷ task_list (1 ∷ 2 ∷ 0 ∷ []))
    -- 65534 is an entry like any other
    ∷ (ask_assignment 2 (65534 ∷ 65535 ∷ 65535 ∷ 65534 ∷ []) gives 0 ∷ 1 ∷ 131068 ∷ task_list (0 ∷ 1 ∷ []))
    -- a table that is not m by m
    ∷ (ask_assignment 2 (0 ∷ 0 ∷ 0 ∷ []) gives 12 ∷ 0 ∷ 0 ∷ no_tasks)
    ∷ (ask_assignment 13 [] gives 12 ∷ 0 ∷ 0 ∷ no_tasks)
    ∷ []

abbrev pub collisions : List Round
collisions =
    -- place before move at one time
    (ask_collision 3 1 (0 ∷ 1 ∷ 1 ∷ 0 ∷ 1 ∷ 1 ∷ []) gives 0 ∷ 1 ∷ 0 ∷ 0 ∷ 1 ∷ 2 ∷ 1 ∷ 0 ∷ [])
    -- the least time before the kind
    ∷ (ask_collision 3 1 (0 ∷ 1 ∷ 1 ∷ 0 ∷ 5 ∷ 1 ∷ []) gives 0 ∷ 1 ∷ 1 ∷ 0 ∷ 0 ∷ 1 ∷ 0 ∷ 1 ∷ [])
    -- the pair by i, then by j
    ∷ (ask_collision 4 0 (5 ∷ 7 ∷ 7 ∷ 5 ∷ []) gives 0 ∷ 1 ∷ 0 ∷ 0 ∷ 0 ∷ 3 ∷ 5 ∷ 0 ∷ [])
    ∷ (ask_collision 3 0 (4 ∷ 4 ∷ 4 ∷ []) gives 0 ∷ 1 ∷ 0 ∷ 0 ∷ 0 ∷ 1 ∷ 4 ∷ 0 ∷ [])
    -- time H counts
    ∷ (ask_collision 2 1 (0 ∷ 1 ∷ 2 ∷ 1 ∷ []) gives 0 ∷ 1 ∷ 0 ∷ 1 ∷ 0 ∷ 1 ∷ 1 ∷ 0 ∷ [])
    -- entering a place as another leaves it is allowed
    ∷ (ask_collision 3 1 (0 ∷ 1 ∷ 1 ∷ 3 ∷ 3 ∷ 0 ∷ []) gives 0 ∷ 0 ∷ 0 ∷ 0 ∷ 0 ∷ 0 ∷ 0 ∷ 0 ∷ [])
    -- the count before the length
    ∷ (ask_collision 0 3 (7 ∷ []) gives 12 ∷ 0 ∷ 0 ∷ 0 ∷ 0 ∷ 0 ∷ 0 ∷ 0 ∷ [])
    ∷ (ask_collision 1 1 (7 ∷ []) gives 11 ∷ 0 ∷ 0 ∷ 0 ∷ 0 ∷ 0 ∷ 0 ∷ 0 ∷ [])
    ∷ []

abbrev pub checks : List Round
checks =
    -- the plan of round 6
    (ask_check round6 (task_list (1 ∷ 0 ∷ [])) (0 ∷ 2 ∷ 3 ∷ 1 ∷ 1 ∷ 0 ∷ 0 ∷ 0 ∷ []) gives 0 ∷ 1 ∷ 4 ∷ [])
    -- not with the tasks exchanged, nor with a task past m, nor with a task twice: no, and no cause
    ∷ (ask_check round6 (task_list (0 ∷ 1 ∷ [])) (0 ∷ 2 ∷ 3 ∷ 1 ∷ 1 ∷ 0 ∷ 0 ∷ 0 ∷ []) gives 0 ∷ 0 ∷ 0 ∷ [])
    ∷ (ask_check round6 (1 ∷ 0 ∷ replicate 10 2) (0 ∷ 2 ∷ 3 ∷ 1 ∷ 1 ∷ 0 ∷ 0 ∷ 0 ∷ []) gives 0 ∷ 0 ∷ 0 ∷ [])
    ∷ (ask_check round6 (task_list (1 ∷ 1 ∷ [])) (0 ∷ 2 ∷ 3 ∷ 1 ∷ 1 ∷ 0 ∷ 0 ∷ 0 ∷ []) gives 0 ∷ 0 ∷ 0 ∷ [])
    -- nor with a collision, nor with a place off the grid
    ∷ (ask_check round6 (task_list (1 ∷ 0 ∷ [])) (0 ∷ 1 ∷ 1 ∷ 1 ∷ 1 ∷ 0 ∷ 0 ∷ 0 ∷ []) gives 0 ∷ 0 ∷ 0 ∷ [])
    ∷ (ask_check round6 (task_list (1 ∷ 0 ∷ [])) (0 ∷ 2 ∷ 9 ∷ 1 ∷ 1 ∷ 0 ∷ 0 ∷ 0 ∷ []) gives 0 ∷ 0 ∷ 0 ∷ [])
    -- the length of the paths before all that
    ∷ (ask_check round6 (task_list (1 ∷ 1 ∷ [])) (0 ∷ []) gives 11 ∷ 0 ∷ 0 ∷ [])
    ∷ []

abbrev pub causes : List Round
causes =
    -- a cause before the later ones that hold too
    (ask_cause (33 ∷ []) gives 1 ∷ [])
    ∷ (ask_cause (33 ∷ 1 ∷ 1 ∷ 0 ∷ 1 ∷ 0 ∷ 0 ∷ 0 ∷ []) gives 2 ∷ [])
    ∷ (ask_cause (sheet_on (6 ∷ 0 ∷ 0 ∷ []) 2 1 0 1 (5 ∷ 5 ∷ []) ((5 ∷ []) ∷ (5 ∷ []) ∷ [])) gives 3 ∷ [])
    ∷ (ask_cause (sheet_on (6 ∷ 0 ∷ []) 2 1 0 1 (5 ∷ 5 ∷ []) ((5 ∷ []) ∷ (5 ∷ []) ∷ [])) gives 4 ∷ [])
    ∷ (ask_cause (sheet 2 1 0 1 (0 ∷ 0 ∷ []) ((5 ∷ []) ∷ (5 ∷ []) ∷ [])) gives 5 ∷ [])
    ∷ (ask_cause (sheet 3 1 0 1 (0 ∷ 1 ∷ 2 ∷ []) ((1 ∷ []) ∷ (1 ∷ []) ∷ (7 ∷ []) ∷ [])) gives 6 ∷ [])
    ∷ (ask_cause (sheet 3 1 0 1 (0 ∷ 1 ∷ 2 ∷ []) ((1 ∷ []) ∷ (2 ∷ []) ∷ (1 ∷ []) ∷ [])) gives 7 ∷ [])
    -- a blocked start, a blocked goal
    ∷ (ask_cause (sheet_on (1 ∷ 0 ∷ []) 2 1 0 1 (0 ∷ 1 ∷ []) ((0 ∷ []) ∷ (1 ∷ []) ∷ [])) gives 5 ∷ [])
    ∷ (ask_cause (sheet_on (1 ∷ 0 ∷ []) 2 1 0 1 (1 ∷ []) ((0 ∷ []) ∷ [])) gives 6 ∷ [])
    -- the node limit as one value, and bytes 6 and 7
    ∷ (ask_cause (sheet 1 1 0 4097 (0 ∷ []) ((0 ∷ []) ∷ [])) gives 2 ∷ [])
    ∷ (ask_cause (sheet 1 1 0 0 (0 ∷ []) ((0 ∷ []) ∷ [])) gives 2 ∷ [])
    ∷ (ask_cause (1 ∷ 1 ∷ 1 ∷ 0 ∷ 1 ∷ 0 ∷ 0 ∷ 1 ∷ []) gives 2 ∷ [])
    -- 1 to 8 goals, and nothing after the last
    ∷ (ask_cause (sheet 1 1 0 4096 (0 ∷ []) ((0 ∷ 0 ∷ 0 ∷ 0 ∷ 0 ∷ 0 ∷ 0 ∷ 0 ∷ []) ∷ [])) gives 0 ∷ [])
    ∷ (ask_cause (sheet 1 1 0 4096 (0 ∷ []) ((0 ∷ 0 ∷ 0 ∷ 0 ∷ 0 ∷ 0 ∷ 0 ∷ 0 ∷ 0 ∷ []) ∷ [])) gives 3 ∷ [])
    ∷ (ask_cause (sheet 1 1 0 4096 (0 ∷ []) ([] ∷ [])) gives 3 ∷ [])
    ∷ (ask_cause (sheet 1 1 0 4096 (0 ∷ []) ((0 ∷ []) ∷ []) ++ (0 ∷ [])) gives 3 ∷ [])
    -- a task's goals, or the empty stretch at the sheet's start
    ∷ (ask_goals round6 1 gives 36 ∷ 4 ∷ [])
    ∷ (ask_goals round6 2 gives 0 ∷ 0 ∷ [])
    ∷ (ask_goals (33 ∷ []) 0 gives 0 ∷ 0 ∷ [])
    -- of one path: numbers, records, workspace, output
    ∷ (ask_path round6 2 2 0 0 (7 ∷ []) gives 8 ∷ 0 ∷ 0 ∷ [])
    ∷ (ask_path round6 1 1 0 0 (7 ∷ []) gives 9 ∷ 0 ∷ 0 ∷ [])
    ∷ (ask_path round6 1 1 0 0 [] gives 10 ∷ 0 ∷ 0 ∷ [])
    ∷ (ask_path round6 1 1 13360 3 [] gives 11 ∷ 0 ∷ 0 ∷ 9 ∷ 9 ∷ 9 ∷ [])
    -- each part of a record
    ∷ (ask_path round6 0 0 0 0 (2 ∷ 0 ∷ 0 ∷ 0 ∷ 0 ∷ []) gives 9 ∷ 0 ∷ 0 ∷ [])
    ∷ (ask_path round6 0 0 0 0 (0 ∷ 2 ∷ 0 ∷ 0 ∷ 0 ∷ []) gives 9 ∷ 0 ∷ 0 ∷ [])
    ∷ (ask_path round6 0 0 0 0 (0 ∷ 0 ∷ 4 ∷ 0 ∷ 0 ∷ []) gives 9 ∷ 0 ∷ 0 ∷ [])
    ∷ (ask_path round6 0 0 0 0 (0 ∷ 0 ∷ 0 ∷ 1 ∷ 0 ∷ []) gives 9 ∷ 0 ∷ 0 ∷ [])
    ∷ (ask_path round6 0 0 0 0 (0 ∷ 0 ∷ 0 ∷ 0 ∷ 4 ∷ []) gives 9 ∷ 0 ∷ 0 ∷ [])
    ∷ (ask_path round6 0 0 0 0 (1 ∷ 0 ∷ 0 ∷ 4 ∷ 0 ∷ []) gives 9 ∷ 0 ∷ 0 ∷ [])
    ∷ (ask_path round6 0 0 0 0 (1 ∷ 0 ∷ 0 ∷ 0 ∷ 3 ∷ []) gives 9 ∷ 0 ∷ 0 ∷ [])
    -- of the search: workspace, output
    ∷ (ask_search round6 0 0 gives refused 10 0)
    ∷ (ask_search round6 13360 7 gives refused 11 7)
    ∷ (ask_search round6 13359 8 gives refused 10 8)
    ∷ []

abbrev pub listings : List Round
listings =
    -- the other lines
    (ask_listing (crossing 2 1 2 6) gives text "none nodes 6\n")
    ∷ (ask_listing (crossing 2 1 2 5) gives text "spent 3 nodes 5\n")
    ∷ (ask_listing (1 ∷ 1 ∷ 13 ∷ 0 ∷ 1 ∷ 0 ∷ 0 ∷ 0 ∷ []) gives text "refused 2\n")
    -- 24 nodes do not fit into the workspace that is lent
    ∷ (ask_listing (crossing 2 1 2 24) gives text "refused 10\n")
    ∷ []

abbrev pub further : List Round
further = searches ++ paths ++ assignments ++ collisions ++ checks ++ causes ++ listings
