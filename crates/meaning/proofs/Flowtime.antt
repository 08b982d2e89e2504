-- The finishes of a plan are those that are computed, and its flowtime is their sum. Assumes nothing.
use Rattle.std.proofs.Common.{ℕ, ◌<◌, ◌≡◌, refl, sym, ap, ◌∙◌, List, map, arith, length, ext_get_or}
use Rattle.deck.specs.Lists.{below, sum}
use Rattle.deck.specs.Sheet.{Sheet, task}
use Rattle.deck.specs.Paths.{finish_of}
use Rattle.deck.specs.Search.{flowtime}
use Rattle.deck.specs.Planner.{problem}
use Rattle.meaning.specs.Meaning.{◌at◌, path_of, Plan}
use Rattle.meaning.proofs.Lists.{length_below, get_or_below}
use Rattle.meaning.proofs.Paths.{path_finish}

module _ (d : Sheet) (a : List ℕ) (ps : List (List ℕ)) where
  -- of carrier i
  abbrev pub finish_at : ℕ → ℕ
  finish_at i = finish_of d (task (a at i)) (path_of ps i)

  abbrev pub finishes : List ℕ
  finishes = map finish_at (below d.count)

  pub finishes_at : (i : ℕ) → i < d.count → finishes at i ≡ finish_at i
  finishes_at i h = get_or_below d.count finish_at i 0 h

  pub flowtime_sum : flowtime (problem d) a ps ≡ sum finishes
  unfolding problem
  flowtime_sum = refl

  pub plan_finishes : {fs : List ℕ} → Plan d a ps fs → fs ≡ finishes
  plan_finishes {fs} h =
      let n : length finishes ≡ d.count = length_below d.count finish_at in
      ext_get_or 0 fs finishes (h.a_finish_each ∙ sym n)
      (λ i l. let k : i < d.count = omega (arith, h.a_finish_each) in sym (finishes_at i k ∙ path_finish (h.paths i k)))

  pub plan_flowtime : {fs : List ℕ} → Plan d a ps fs → flowtime (problem d) a ps ≡ sum fs
  plan_flowtime h = flowtime_sum ∙ sym (ap sum (plan_finishes h))
