-- What the passes of the tasks are given. Assumes nothing.
use Rattle.std.specs.Prelude.{ℕ, ◌<◌, ◌≡◌, true, List, [], Option}
use Rattle.std.specs.Borrow.{Bor}
use Rattle.deck.specs.Sheet.{read, count_of, carrier}
use Rattle.deck.specs.declared.Task.{Task}
use Rattle.bars.specs.Padded.{MaskOf}
use Rattle.bars.specs.declared.Chains.{Chains}
use Rattle.bars.specs.declared.Size.{Size}
use Rattle.bars.specs.declared.Direction.TheVariants.{Backward}
use Rattle.layers.specs.Step.{Passable}
use Rattle.layers.specs.declared.Pass.{Pass}
use Rattle.passes.specs.Ready.{Sized, Turned}

-- the size of the sheet's grid, its mask, chains of no records, and the doors backward
pub record Serving (s : List ℕ) (size : Size) (mask : List ℕ) (chains : Chains) (doors : Option (Bor (List ℕ))) : Type 0 where
  pub masked : MaskOf (read s) mask
  pub sized : Sized s size.width size.height
  pub first : chains.carrier ≡ carrier 0
  pub free : chains.records.now ≡ []
  pub passable : Passable mask size.width size.height true doors

-- the same of one task of the sheet, with its goals in reverse
pub record Serves (s : List ℕ) (j : Task) (pass : Pass) : Type 0 where
  pub task_in : j.0 < count_of s
  pub serving : Serving s pass.size pass.mask.now pass.chains.now pass.doors
  pub backward : pass.direction ≡ Backward
  pub turned : Turned s j pass.goals.now
