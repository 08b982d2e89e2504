-- `by_walk` meets its contract: before the time `from` no path finishes, and nothing is written. Assumes nothing.
use Rattle.std.proofs.Common.{Ok, refl, ap, ◌∙◌, arith}
use Rattle.passes.proofs.Given.{few_records}
use Rattle.by_passes.proofs.Finding.{rest_of, early_of}
use Rattle.scratch.proofs.Seeking.{early_bound, tried_found, tried_cut, tried_later, part_inside, part_low}
use Rattle.scratch.proofs.by_walk.Goals as goal

pub chains-chains-requires : goal.chains-chains-requires
chains-chains-requires c = omega (arith, few_records c.args.errand.now.ready)

pub overflow_mul-at : goal.overflow_mul-at
overflow_mul-at c = let e = c.args.errand.now in omega (arith, part_inside e c.args.bounds.now c.requires.bounded, c.requires.bounded.long)

pub overflow_add-bounds : goal.overflow_add-bounds
overflow_add-bounds c = let e = c.args.errand.now in omega (arith, part_inside e c.args.bounds.now c.requires.bounded, c.requires.bounded.long)

pub slice_bounds-bounds-end : goal.slice_bounds-bounds-end
slice_bounds-bounds-end c = part_inside c.args.errand.now c.args.bounds.now c.requires.bounded

pub loop-init : goal.loop-init
loop-init c =
    let e = c.args.errand.now in (
      early_of _ _ _ _ _ e.ready c.args.bound c.stay_from.result c.max-from.result c.requires.not_before (rest_of _ _ _ _ _ e.ready c.stay_from.result c.last_goal.result c.stay_from.ensures c.last_goal.ensures.value)
          c.max-from.ensures,
      refl,
    )

pub returns-then-horizon-from : goal.returns-then-horizon-from
returns-then-horizon-from c = (early_bound c.args.errand.now c.loop.from c.loop.invariant.0, c.loop.invariant.1)

pub first_walk-requires-clause-low : goal.first_walk-requires-clause-low
first_walk-requires-clause-low c = part_low c.args.errand.now c.args.bounds.now c.requires.bounded

pub returns-in-Ok-true : goal.returns-in-Ok-true
returns-in-Ok-true c =
    let h = c.chains-chains.ensures in
    tried_found c.args.errand.now c.loop.from c.loop.invariant.0 (omega (arith, c.horizon-horizon.ensures.value, c.if-horizon-from.false)) c.args.out.now c.loop.out
    c.first_walk.new.out c.loop.invariant.1 c.first_walk.result (rw (h.0, h.1) at c.first_walk.ensures) (c.in-Ok-true.is ∙ ap Ok c.in-Ok-true.field-0-test)

pub returns-in-Err : goal.returns-in-Err
returns-in-Err c =
    let h = c.chains-chains.ensures in
    tried_cut c.args.errand.now c.loop.from c.loop.invariant.0 (omega (arith, c.horizon-horizon.ensures.value, c.if-horizon-from.false)) c.args.out.now c.loop.out
    c.first_walk.new.out c.loop.invariant.1 c.first_walk.result (rw (h.0, h.1) at c.first_walk.ensures) c.in-Err.is

pub loop-preserved : goal.loop-preserved
loop-preserved c =
    let h = c.chains-chains.ensures in
    tried_later c.args.errand.now c.loop.from c.loop.invariant.0 (omega (arith, c.horizon-horizon.ensures.value, c.if-horizon-from.false)) c.args.out.now c.loop.out
    c.first_walk.new.out c.loop.invariant.1 c.first_walk.result (rw (h.0, h.1) at c.first_walk.ensures) (c.in-Ok-false.is ∙ ap Ok c.in-Ok-false.field-0-test)

pub returns : goal.returns
returns c = (early_bound c.args.errand.now c.loop.from c.loop.invariant.0, c.loop.invariant.1)
