-- Worked orders of lists, compared number by number. Assumes nothing.
use Rattle.std.specs.Prelude.{List, [], ◌∷◌}
use Rattle.deck.specs.Rounds.{Round, ask_sorted, ◌gives◌}

abbrev pub orders : List Round
orders =
    -- by the first number that differs, rising
    (ask_sorted 3 ((1 ∷ 3 ∷ []) ∷ (0 ∷ 9 ∷ []) ∷ (1 ∷ 2 ∷ []) ∷ []) gives 0 ∷ 9 ∷ 1 ∷ 2 ∷ 1 ∷ 3 ∷ [])
    -- a list that is the beginning of another comes first
    ∷ (ask_sorted 3 ((4 ∷ 0 ∷ 7 ∷ []) ∷ (4 ∷ 0 ∷ []) ∷ (4 ∷ []) ∷ []) gives 4 ∷ 4 ∷ 0 ∷ 4 ∷ 0 ∷ 7 ∷ [])
    -- a longer list comes first by a smaller number
    ∷ (ask_sorted 3 ((2 ∷ []) ∷ (1 ∷ 8 ∷ 8 ∷ []) ∷ []) gives 1 ∷ 8 ∷ 8 ∷ 2 ∷ [])
    -- those of equal rank stay as they stand
    ∷ (ask_sorted 1 ((3 ∷ 1 ∷ []) ∷ (2 ∷ 0 ∷ []) ∷ (3 ∷ 0 ∷ []) ∷ (2 ∷ 5 ∷ []) ∷ []) gives 2 ∷ 0 ∷ 2 ∷ 5 ∷ 3 ∷ 1 ∷ 3 ∷ 0 ∷ [])
    ∷ []
