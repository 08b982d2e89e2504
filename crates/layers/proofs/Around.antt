-- The greatest label around a place of the grid, by the way from each of the five places. Assumes nothing.
use Prim.Native.Nat.{ℕ, suc, ◌<◌, max, min}
use Rattle.std.proofs.Common.{◌≡◌, refl, sym, ap, ◌∙◌, Bool, true, false, cond, ◌&&◌, List, arith, T}
use Rattle.deck.specs.Sheet.{Sheet, area}
use Rattle.kernel.specs.Layers.{best}
use Rattle.kernel.specs.Near.{cons_if, near}
use Rattle.bars.specs.Padded.{Gate}
use Rattle.bars.specs.Ways.{place_by, has_by}
use Rattle.bars.proofs.Gates.{gate_min}
use Rattle.bars.proofs.Leads.{by_ways, near_ways}

-- the greatest over a list, element by element
best_if : (ok : ℕ → Bool) (f : ℕ → ℕ) (b : Bool) (x : ℕ) (l : List ℕ) → best ok f (cons_if b x l) ≡ max (cond (b && ok x) (f x) 0) (best ok f l)
best_if ok f true x l = go (ok x)
  where
    go : (c : Bool) → cond c (max (f x) (best ok f l)) (best ok f l) ≡ max (cond c (f x) 0) (best ok f l)
    go true = refl
    go false = omega arith
best_if ok f false x l = omega arith

max_assoc : (a b c : ℕ) → max (max a b) c ≡ max a (max b c)
max_assoc a b c = omega arith

max_none : (a : ℕ) → max a 0 ≡ a
max_none a = omega arith

shuffle : (a l s r b : ℕ) → max a (max l (max s (max r (max b 0)))) ≡ max (max (max a l) (max s r)) b
shuffle a l s r b =
    rw (max_none b) (sym (max_assoc (max a l) (max s r) b ∙ max_assoc a l (max (max s r) b) ∙ ap (λ (z : ℕ). max a (max l z)) (max_assoc s r b)))

module _ (d : Sheet) (ok : ℕ → Bool) (f : ℕ → ℕ) (v : ℕ) (on : v < area d) where
  -- the label that comes by the way x
  abbrev pub label_by : ℕ → ℕ
  label_by x = cond (has_by d v x && ok (place_by d v x)) (f (place_by d v x)) 0

  -- the greatest over the five places around v
  pub best_near : best ok f (near d v) ≡ max (max (max (label_by 0) (label_by 1)) (max (label_by 2) (label_by 3))) (label_by 4)
  best_near =
      ap (best ok f) (near_ways d v on)
      ∙ one 4 0
      ∙ ap (max (label_by 0)) (one 3 1 ∙ ap (max (label_by 1)) (one 2 2 ∙ ap (max (label_by 2)) (one 1 3 ∙ ap (max (label_by 3)) (one 0 4))))
      ∙ shuffle (label_by 0) (label_by 1) (label_by 2) (label_by 3) (label_by 4)
    where
      one : (n x : ℕ) → best ok f (cons_if (has_by d v x) (place_by d v x) (by_ways d v n (suc x))) ≡ max (label_by x) (best ok f (by_ways d v n (suc x)))
      one n x = best_if ok f (has_by d v x) (place_by d v x) (by_ways d v n (suc x))

-- the label n that comes by a way through its gate: the place that it comes from is free if b
pub way_term : (has b g : Bool) (n m : ℕ) → n < 224 → (b ≡ false → n ≡ 0) → (T has → T b → Gate g m) → min (cond has n 0) m ≡ cond (has && (b && g)) n 0
way_term false b g n m l z h = omega arith
way_term true false g n m l z h = rw (z refl) (omega arith)
way_term true true g n m l z h = gate_min g n m l (h tt tt)
