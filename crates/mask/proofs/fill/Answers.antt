-- `mask::fill` meets its contract: the rows passed are masked. Assumes nothing.
use Rattle.std.proofs.Common.{ℕ, sym, subst, arith}
use native.Mathlib.Nat.{zero-mul}
use Rattle.deck.specs.Sheet.{read}
use Rattle.mask.specs.Mask.{Masked}
use Rattle.mask.proofs.Masking.{mask_none, code_end, code_asks, code_more, mask_all}
use Rattle.mask.proofs.fill.Goals as goal

pub loop-y-init : goal.loop-y-init
loop-y-init c =
    let s = c.args.sheet.now in (
      omega arith,
      subst (λ (k : ℕ). Masked (read s.bytes.now) k c.args.mask.now) (sym (zero-mul (read s.bytes.now).width)) (rw c.requires (mask_none s.bytes.now s.accepted)),
    )

pub slice_bounds-row-end : goal.slice_bounds-row-end
slice_bounds-row-end c =
    let s = c.args.sheet.now in
    omega (arith, code_end s.bytes.now s.accepted c.width-w.ensures.value c.grid_of-grid.ensures c.loop-y.y (omega (arith, c.height-y-end.ensures.value)))

pub mask_row-requires : goal.mask_row-requires
mask_row-requires c =
    let s = c.args.sheet.now in
    let q = code_asks s.bytes.now s.accepted c.width-w.ensures.value c.grid_of-grid.ensures c.loop-y.y (omega (arith, c.height-y-end.ensures.value)) in
    (q.0, rw c.greatest-plain.ensures q.1)

pub loop-y-preserved : goal.loop-y-preserved
loop-y-preserved c =
    let s = c.args.sheet.now in (
      omega (arith, c.height-y-end.ensures.value),
      code_more s.bytes.now s.accepted c.width-w.ensures.value c.grid_of-grid.ensures c.loop-y.y (omega (arith, c.height-y-end.ensures.value)) _ _ c.loop-y.invariant.1 c.mask_row.ensures,
    )

pub returns : goal.returns
returns c = let s = c.args.sheet.now in mask_all s.bytes.now s.accepted c.loop-y.y _ (omega (arith, c.height-y-end.ensures.value)) c.loop-y.invariant.1
