-- All bytes of the grid pass the test.
use Rattle.std.proofs.Common.{rules, leb}
use Rattle.std.proofs.lemmas.Iterator.{YieldsList-from_slice}
use Rattle.deck.specs.Sheet.{read, good_grid}
use Rattle.meaning.proofs.Iterators.{all_yielded}
use Rattle.sheet_causes.proofs.grid_good.Goals as goal

pub returns : goal.returns
unfolding good_grid
returns c =
    all_yielded (λ b. leb b 5) _ _ _ c.all.ensures.ran (YieldsList-from_slice (read c.args.s.now).grid (search rules)) (λ x b q k. search rules)
