-- `Way::opens` meets its contract: a shift divides by a power of two, and a way's number is its place in the list. Assumes nothing.
use Rattle.std.proofs.Common.{◌≡◌, refl, ◌/◌, ◌^◌, ◌%◌, eqb}
use Rattle.bars.specs.Ways.{number_of, opens_by}
use Rattle.bars.specs.contracts.Way.{the_type}
use Rattle.bars.specs.declared.Way.{Way}
use Rattle.bars.specs.declared.Way.TheVariants.{Above, Left, Same, Right, Below}
use denote.Enum.Declared.{tag_of}
use Rattle.bars.proofs.Way.opens.Goals as goal

pub returns : goal.returns
unfolding opens_by
returns c = go c.args.self
  where
    go : (x : Way) → eqb (c.args.byte / 2 ^ tag_of the_type x % 2) 1 ≡ opens_by c.args.byte (number_of x)
    go Above = refl
    go Left = refl
    go Same = refl
    go Right = refl
    go Below = refl
