-- `Sweep::enter` meets its contract: the layers passed are marked. Assumes nothing.
use Rattle.std.proofs.Common.{refl, sym, ap, subst, ◌∙◌, ◌≡◌, length, arith}
use Rattle.deck.specs.Sheet.{read, count_of}
use Rattle.bars.specs.Padded.{pad_of}
use Rattle.finishes.specs.Entries.{Starts}
use Rattle.finishes.proofs.Sweeps.{seeded_steps, passing_first, whole_full, whole_last, passing_on}
use Rattle.finishes.proofs.sweep.Sweep.enter.Goals as goal

pub loop-k-init : goal.loop-k-init
loop-k-init c =
    let s = c.args.self.now in
    let layer = seeded_steps s.sheet.now.bytes.now s.sheet.now.accepted s.task s.pass s.serves c.pad-goal.result
    (c.pad-goal.ensures ∙ ap (pad_of s.pass.size.width) c.last_goal.ensures.value) _ c.seed-a.ensures in
    (passing_first s.sheet.now.bytes.now s.sheet.now.accepted s.task s.pass s.serves _ c.args.entries.now c.requires.long c.requires.unknown layer, refl)

pub returns-then-all_known : goal.returns-then-all_known
returns-then-all_known c =
    let s = c.args.self.now in
    let l = c.loop-k in
    let begins = subst (Starts s.sheet.now.bytes.now) (sym l.invariant.1) c.requires.starts in
    let long : length l.entries ≡ count_of s.sheet.now.bytes.now = l.auto.entries ∙ c.requires.long in
    whole_full s.sheet.now.bytes.now s.sheet.now.accepted s.task s.pass s.serves l.entries c.mark.new.entries long begins l.k _ _ l.invariant.0 c.mark.ensures.steps
    (λ i h. c.all_known.ensures c.if-all_known.true i (omega (arith, long, c.mark.auto.entries)))

pub loop-k-preserved : goal.loop-k-preserved
loop-k-preserved c =
    let s = c.args.self.now in
    let l = c.loop-k in
    let begins = subst (Starts s.sheet.now.bytes.now) (sym l.invariant.1) c.requires.starts in (
      passing_on s.sheet.now.bytes.now s.sheet.now.accepted s.task s.pass s.serves l.entries c.mark.new.entries (l.auto.entries ∙ c.requires.long) begins l.k _ _ l.invariant.0 c.mark.ensures.steps
          (omega (arith, c.loop-k-test.true, c.horizon-horizon.ensures.value)) c.step.ensures,
      c.mark.ensures.starts ∙ l.invariant.1,
    )

pub returns : goal.returns
returns c =
    let s = c.args.self.now in
    let l = c.loop-k in
    let begins = subst (Starts s.sheet.now.bytes.now) (sym l.invariant.1) c.requires.starts in
    let late : l.k ≡ (read s.sheet.now.bytes.now).horizon = omega (arith, l.invariant.0.in_time, c.loop-k-test.false, c.horizon-horizon.ensures.value) in
    whole_last s.sheet.now.bytes.now s.sheet.now.accepted s.task s.pass s.serves l.entries c.mark-2.new.entries (l.auto.entries ∙ c.requires.long) begins l.k _ _ l.invariant.0
    (rw (← (late ∙ sym c.horizon-horizon.ensures.value)) at c.mark-2.ensures.steps) late
