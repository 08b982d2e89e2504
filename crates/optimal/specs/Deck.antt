-- The deck as an instance: the rules of a sheet, as the meaning has them. Assumes nothing.
use Rattle.std.specs.Prelude.{ℕ, List}
use Rattle.deck.specs.Sheet.{Sheet, carrier, task}
use Rattle.deck.specs.Paths.{finish_of}
use Rattle.deck.specs.declared.Constraint.{Constraint}
use Rattle.meaning.specs.Meaning.{Path, Keeps, Collides, Assignment}
use Rattle.meaning.specs.Constraints.{InRange}
use Rattle.optimal.specs.Plans.{Rules}

abbrev pub rules : Sheet → Rules (List ℕ) Constraint
rules d =
    record {
      IsAsg = Assignment d.count;
      Legal = λ i j p. Path d (carrier i) (task j) p (finish_of d (task j) p);
      Fit = InRange d;
      Keeps = λ i p c. Keeps (carrier i) p c;
      Clash = Collides d.horizon;
    }
