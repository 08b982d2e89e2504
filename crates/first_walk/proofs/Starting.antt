-- From the walk that begins on the start to the answer. Assumes nothing.
use Prim.Native.Nat.{ℕ, suc, ◌+◌, ◌≤◌, ◌<◌, zero-le}
use Rattle.std.proofs.Common.{◌≡◌, refl, sym, ap, ap₂, ◌∙◌, subst, Bool, true, false, List, arith, length, T}
use Rattle.deck.specs.Sheet.{Sheet, read, start_of, last_goal}
use Rattle.deck.specs.Calls.{constraints_of}
use Rattle.deck.specs.declared.Carrier.{Carrier}
use Rattle.deck.specs.declared.Task.{Task}
use Rattle.deck.specs.declared.Constraint.{Constraint}
use Rattle.kernel.specs.Labels.{first_label}
use Rattle.kernel.specs.Parts.{free_place, stands}
use Rattle.kernel.proofs.OfTask.{first_label_le}
use Rattle.kernel.proofs.OfSheet.{stands_is}
use Rattle.bars.specs.Padded.{pad_of}
use Rattle.layers.specs.Fill.{Filled}
use Rattle.passes.specs.Ready.{Ready, GoalsOf}
use Rattle.sheet.proofs.Accepted.{area_range, start_on_grid}
use Rattle.passes.proofs.Given.{begins_free, wide_one, few_labels, pad_small}
use Rattle.trace.specs.Along.{Visited}
use Rattle.trace.proofs.Looking.{visited_first}
use Rattle.std.specs.Prelude.{Result, Ok, Err}
use Rattle.first_walk.specs.declared.CutOff.{CutOff}
use Rattle.first_walk.specs.Walk.{Dived, Walked}
use Rattle.first_walk.specs.Steps.{OnPlace}
use Rattle.first_walk.proofs.Walking.{start_meets, start_fails, start_barred, all_written}

module _ {s : List ℕ} {i : Carrier} {j : Task} {mask rs : List ℕ} (r : Ready s i j mask rs) (end : ℕ) where
  abbrev d : Sheet
  d = read s

  abbrev cs : List Constraint
  cs = constraints_of rs

  -- the label on the start
  pub start_label : {goals : List ℕ} {p k u w : ℕ} → GoalsOf s j goals → u ≡ start_of d i → w ≡ d.width → p ≡ pad_of w u → Visited goals (length goals) p 0 k
      → k ≡ first_label d i j
  start_label {goals} {p} {k} {u} {w} g eu ew ep v =
      visited_first d j d.width (omega (arith, wide_one r)) goals (length goals) g i p k (ep ∙ ap₂ pad_of ew eu) v

  -- the numbers of the start are those of a spot
  pub start_small : {p k u w : ℕ} → u ≡ start_of d i → w ≡ d.width → p ≡ pad_of w u → k ≡ first_label d i j → (0 < 256) × (u < 1024) × (p < 1156) × (k ≤ 8)
  start_small {p} {k} {u} {w} eu ew ep ek =
      let on = start_on_grid s r.accepted i in (
        omega arith,
        omega (arith, on, (area_range s r.accepted).1),
        rw (ep, ew, eu) (pad_small r (start_of d i) on),
        omega (arith, first_label_le d j i, few_labels r),
      )

  pub start_on : {p k u w : ℕ} → u ≡ start_of d i → w ≡ d.width → p ≡ pad_of w u → k ≡ first_label d i j → OnPlace d j end 0 u p k
  start_on {p} {k} {u} {w} eu ew ep ek = record {
    on_free = rw eu (begins_free r);
    padded = ep ∙ ap (λ (y : ℕ). pad_of y u) ew;
    label = rw ek (first_label_le d j i);
    time = zero-le;
  }

  -- what the constraints say of the start at time 0
  start_stands : (b : Bool) (u : ℕ) → u ≡ start_of d i → b ≡ free_place i cs 0 u → b ≡ stands d i cs 0 (start_of d i)
  start_stands b u eu e = e ∙ sym (stands_is d i cs 0 u) ∙ ap (λ (y : ℕ). stands d i cs 0 y) eu

  -- barred at time 0
  pub walked_barred : (b : Bool) (u : ℕ) (before : List ℕ) → u ≡ start_of d i → b ≡ free_place i cs 0 u → b ≡ false → Walked d i j cs end before before (Ok false)
  walked_barred b u before eu e f = (start_barred d i j cs end b (start_stands b u eu e) f, refl)

  module _ {u k : ℕ} (eu : u ≡ start_of d i) (ek : k ≡ first_label d i j) {before after : List ℕ} {a : Result Bool CutOff} (h : Dived d i j cs end 0 u k before after a) where
    as_case : (b : Result Bool CutOff) → a ≡ b → Dived d i j cs end 0 u k before after b
    as_case b e = subst (Dived d i j cs end 0 u k before after) e h

    pub walked_none : a ≡ Ok false → Walked d i j cs end before after (Ok false)
    walked_none e = let q = (as_case (Ok false) e).says in (start_fails d i j cs end u k eu ek q.0, q.1)

    pub walked_cut : {q : CutOff} → a ≡ Err q → Walked d i j cs end before after (Err q)
    walked_cut {q} e = (as_case (Err q) e).says

    pub found_long : a ≡ Ok true → length after ≡ length before
    found_long e = (as_case (Ok true) e).says.1.size

    pub walked_found : a ≡ Ok true → (b : Bool) → b ≡ free_place i cs 0 u → b ≡ true → end ≤ d.horizon → suc d.horizon ≤ length before
        → {last : List ℕ} {g lo hi : ℕ} → Filled lo hi (λ _. g) after last → lo ≡ end + 1 → hi ≡ suc d.horizon → g ≡ last_goal d j
        → Walked d i j cs end before last (Ok true)
    walked_found e b eb f l room {last} {g} {lo} {hi} fill elo ehi eg =
        let q = (as_case (Ok true) e).says in (
          start_meets d i j cs end (subst T (sym (sym (start_stands b u eu eb) ∙ f)) tt) u k eu ek q.0,
          all_written d i j cs end l before after last u k g lo hi eu ek room q.1 fill elo ehi eg,
        )
