-- Constraints in records of five words. Assumes nothing.
use Rattle.std.specs.Prelude.{ℕ, ◌+◌, ◌*◌, ◌≡◌, List, ◌++◌, length, take}
use Rattle.deck.specs.Lists.{each}
use Rattle.deck.specs.Calls.{constraints_of}
use Rattle.deck.specs.declared.Constraint.{Constraint}
use Rattle.records.specs.Record.{words_of}
use Rattle.nodes.specs.declared.constraint_list.ConstraintList.{ConstraintList}

-- the words of the list's records
abbrev pub recorded : ConstraintList → List ℕ
recorded l = take (5 * l.count) l.words.now

-- the list has the constraints cs too, in the same lent words
pub record Appended (before : ConstraintList) (cs : List Constraint) (after : ConstraintList) : Type 0 where
  pub same_words : after.words.ghost_name ≡ before.words.ghost_name
  pub room : length after.words.now ≡ length before.words.now
  pub words : recorded after ≡ recorded before ++ each words_of cs
  pub number : after.count ≡ before.count + length cs
  pub constraints : constraints_of (recorded after) ≡ constraints_of (recorded before) ++ cs
