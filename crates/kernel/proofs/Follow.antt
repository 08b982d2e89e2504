-- Along the trace each step is allowed and keeps the time. Assumes nothing.
use Rattle.std.proofs.Common.{ℕ, suc, ◌+◌, ◌-◌, ◌≤◌, ◌≡◌, sym, subst, List, arith, T, ltb→lt}
use Rattle.deck.proofs.Members.{Mem}
use Rattle.deck.specs.Sheet.{Sheet, free, start_of, last_goal}
use Rattle.deck.specs.declared.Carrier.{Carrier}
use Rattle.deck.specs.declared.Task.{Task}
use Rattle.deck.specs.declared.Constraint.{Constraint}
use Rattle.meaning.proofs.Paths.{free_meant}
use Rattle.kernel.specs.Layers.{Parts, back, next, pass, first_of, good}
use Rattle.kernel.specs.Labels.{first_label, raised}
use Rattle.kernel.specs.Parts.{free_move, step_free, parts_of}
use Rattle.kernel.specs.Kernel.{onward, OnTime, LeastTime}
use Rattle.kernel.proofs.Both.{and_left, and_right}
use Rattle.kernel.proofs.Choice.{first_passes}
use Rattle.kernel.proofs.OfTask.{first_label_le, raised_le}
use Rattle.kernel.proofs.Passes.{Laws, back_some, step_of}
use Rattle.kernel.proofs.Trace.{can_back, good_of}
use Rattle.kernel.proofs.OfSheet.{InTime, step_free_meant, sheet_laws}
use Rattle.kernel.proofs.Kernel.{onward_good, first_same}
use Rattle.kernel.proofs.Least.{meets_can}

module _ (d : Sheet) (i : Carrier) (j : Task) (cs : List Constraint) (start : T (free d (start_of d i))) where
  abbrev w : Parts
  w = parts_of d i j cs

  -- the next place of the trace keeps the time
  pub next_on_time : (n t u k : ℕ) → OnTime d i j cs (suc n) t u k
      → OnTime d i j cs n (suc t) (first_of (onward d i j cs n t u k) (w.succs u)) (raised d j u (first_of (onward d i j cs n t u k) (w.succs u)) k)
  next_on_time n t u k o =
      let e = back_some w laws (suc n) t u k o.label o.comes in
      let p = e.1 in
      let g = (first_passes (good w n t u k) (laws.onward t u e.0 (step_of w t u e.0 p)) (good_of w laws n t u k e.0 p e.2)).0 in
      let v : ℕ = next w n t u k in
      let x : first_of (onward d i j cs n t u k) (w.succs u) ≡ v = first_same (onward d i j cs n t u k) (good w n t u k) (onward_good d i j cs n t u k o.label) (w.succs u) in
      subst (λ (z : ℕ). OnTime d i j cs n (suc t) z (raised d j u z k)) (sym x)
      (record {
        on_free = (free_meant d v).test ((step_free_meant d u v).fact (and_left (step_free d u v) (free_move i cs t u v) (step_of w t u v (and_left (pass w t u v) _ g)))).1.0;
        label = raised_le d j u v k o.label;
        comes = ltb→lt w.whole (w.raise u v k + back w n (suc t) v) (and_right (pass w t u v) _ g);
      })
    where
      laws : Laws (parts_of d i j cs)
      laws = sheet_laws d i j cs start

  -- the trace begins in time
  pub first_on_time : T (free d (last_goal d j)) → ((c : Constraint) → Mem c cs → InTime d.horizon c) → (r : ℕ) → LeastTime d i j cs r → r ≤ d.horizon
      → OnTime d i j cs r 0 (start_of d i) (first_label d i j)
  first_on_time end timely r l h = record {
    on_free = start;
    label = first_label_le d j i;
    comes = can_back w (sheet_laws d i j cs start) (d.horizon - r) r ((meets_can d i j cs start end timely r (d.horizon - r) (omega arith)).fact (l.meets h));
  }
