-- Workspace and output after a round's text is written. Assumes nothing.
use Rattle.std.specs.Prelude.{ℕ, ◌≡◌, ◌≢◌, List, [], None}
use Rattle.deck.specs.Calls.{search_cause, search_output}

-- as the search leaves them: the output is the definition's, and used workspace is free after an accepted call; a sheet of no bytes
-- uses none
pub record LentWords (s work out work' out' : List ℕ) : Type 0 where
  pub written : out' ≡ search_output s 16384 out
  pub refused_work : search_cause s 16384 3072 ≢ None → work' ≡ work
  pub dark_work : s ≡ [] → work' ≡ work
