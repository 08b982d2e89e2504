-- At each time the goals that are left are those that the whole path leaves. Assumes nothing.
use Rattle.std.proofs.Common.{refl, sym, ap, ◌∙◌, eqb}
use Rattle.deck.specs.Lists.{is_nil}
use Rattle.deck.specs.Sheet.{words}
use Rattle.sheet_parts.proofs.Words.{length_words}
use Rattle.path_check.proofs.Walks.{visit_run, left_next, left_over, none_left}
use Rattle.path_check.proofs.visits_all.Goals as goal

pub loop-u-preserved : goal.loop-u-preserved
loop-u-preserved c = (
  c.visited-k.ensures.upper_bound,
  c.loop-u.invariant.1
      ∙ left_next _ (words c.args.goals.now) _ c.loop-u.k c.visited-k.result c.loop-u-test.true refl
      (visit_run _ _ _ c.visited-k.ensures.upper_bound (rw c.from.ensures at c.visited-k.ensures.next) _ c.visited-k.ensures.onward (rw c.from.ensures at c.visited-k.ensures.passed)),
)

pub returns : goal.returns
returns c =
    ap (eqb c.loop-u.k) (sym (length_words c.args.goals.now))
    ∙ none_left (words c.args.goals.now) c.loop-u.k c.loop-u.invariant.0
    ∙ sym (ap is_nil (c.loop-u.invariant.1 ∙ left_over _ (words c.args.goals.now) _ c.loop-u.k c.loop-u-test.false))
