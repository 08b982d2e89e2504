-- The word is the number of the digits from t on. Assumes nothing.
use Rattle.std.proofs.Common.{◌≡◌, ◌+◌, ◌-◌, arith}
use Rattle.pack.specs.Pack.{step_at, value}
use Rattle.pack.proofs.Trips.{step_small}
use Rattle.pack.proofs.Loops.{value_more, value_fits}
use Rattle.pack.proofs.chunk.Goals as goal

pub loop-t-init : goal.loop-t-init
unfolding value
loop-t-init c = let none : c.args.from + c.args.n - (c.args.from + c.args.n) ≡ 0 = omega arith in record { above = omega arith; within = omega arith; digits = rw none }

pub overflow_mul-word : goal.overflow_mul-word
overflow_mul-word c =
    omega (arith, value_fits (step_at c.args.w c.args.path.now) c.loop-t.t (c.args.from + c.args.n - c.loop-t.t) (step_small c.args.w c.args.path.now) (omega arith))

pub overflow_add-word : goal.overflow_add-word
overflow_add-word c =
    omega (arith, value_fits (step_at c.args.w c.args.path.now) c.loop-t.t (c.args.from + c.args.n - c.loop-t.t) (step_small c.args.w c.args.path.now) (omega arith), step_small c.args.w c.args.path.now (c.loop-t.t - 1), c.step.ensures)

pub loop-t-preserved : goal.loop-t-preserved
loop-t-preserved c = record {
  above = omega arith;
  within = omega arith;
  digits = value_more (step_at c.args.w c.args.path.now) c.loop-t.t (c.args.from + c.args.n) _ _ (omega arith) (omega arith) c.loop-t.invariant.digits c.step.ensures;
}
