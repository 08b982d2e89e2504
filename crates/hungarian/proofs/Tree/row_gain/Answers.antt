-- `hungarian::Tree::row_gain` meets its contract. Assumes nothing.
use Rattle.std.proofs.Common.{eqb-true, sym, ◌∙◌, arith}
use Rattle.std.proofs.lemmas.Bool.{eqb-false}
use Rattle.hungarian.proofs.Gains.{gain_root, gain_free, own_early, gain_own}
use Rattle.hungarian.proofs.Tree.row_gain.Goals as goal

pub returns-then-eq : goal.returns-then-eq
returns-then-eq c = gain_root _ _ _ _ _ _ _ (eqb-true _ _ (sym c.eq.ensures ∙ c.if-eq.true))

pub gain-requires : goal.gain-requires
gain-requires c =
    own_early _ _ c.args.pairs.now.tasks _ _ _ (eqb-false _ _ (sym c.eq.ensures ∙ c.if-eq.false)) (omega arith) _ c.in-Some.is
    (c.requires.1.tasks _ _ c.in-Some.is) c.requires.2

pub returns-in-None : goal.returns-in-None
returns-in-None c =
    gain_free _ _ c.args.pairs.now.tasks _ _ _ (eqb-false _ _ (sym c.eq.ensures ∙ c.if-eq.false)) (omega arith) c.args.self.now.problem.few c.in-None.is

pub returns-in-Some : goal.returns-in-Some
returns-in-Some c =
    c.gain.ensures
    ∙ gain_own _ _ c.args.pairs.now.tasks _ _ _ (eqb-false _ _ (sym c.eq.ensures ∙ c.if-eq.false)) (omega arith) _ c.in-Some.is (c.requires.1.tasks _ _ c.in-Some.is)
