-- What making a root's record leaves of the nodes, and what later writes leave of the slots. Assumes nothing.
use Rattle.std.specs.Prelude.{ℕ, ◌<◌, ◌≡◌, List, [], get_or, length}
use Rattle.deck.specs.Sheet.{Sheet}
use Rattle.deck.specs.Calls.{task_list}
use Rattle.meaning.specs.Meaning.{◌at◌}
use Rattle.records.specs.Record.{fields_at, key_at}
use Rattle.nodes.specs.Stored.{RootSoFar, NodeAlike}

-- the record of root `made` is begun: none of its paths is written; of the other records only slots and words of the tournament are, and no key
pub record RootBegun (before after : List ℕ) (made : ℕ) (tasks : List ℕ) : Type 0 where
  pub root : (d : Sheet) (a : List ℕ) → length a ≡ d.count → ((k : ℕ) → a at k < 256) → tasks ≡ task_list a → RootSoFar d after made a 0
  pub alike : (k : ℕ) → (k ≡ made → ⊥) → NodeAlike (fields_at after k) (fields_at before k)
  pub keys : (limit k : ℕ) → made < limit → key_at limit after k ≡ key_at limit before k

-- the fields of two records that slots are read from are the same
pub record PartsAlike (fs gs : List (List ℕ)) : Type 0 where
  pub tasks : get_or fs 2 [] ≡ get_or gs 2 []
  pub row : get_or fs 4 [] ≡ get_or gs 4 []
  pub slots : get_or fs 6 [] ≡ get_or gs 6 []
  pub closed : get_or fs 8 [] ≡ get_or gs 8 []

-- and the word of the tournament
pub record SlotsAlike (fs gs : List (List ℕ)) : Type 0 where
  pub parts : PartsAlike fs gs
  pub tournament : get_or fs 5 [] ≡ get_or gs 5 []
