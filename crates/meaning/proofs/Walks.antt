-- The walks that are enumerated are those that go by steps, and they stand in the order of lists. Assumes nothing.
use Rattle.std.proofs.Common.{ℕ, zero, suc, ◌<◌, ◌≡◌, refl, ap, ◌↔◌, inl, inr, List, [], ◌∷◌, not-suc-le-zero, arith, length, T}
use Rattle.deck.proofs.Members.{Mem, here, not-nil, cast, only, map_mem}
use Rattle.deck.specs.Lists.{below, each}
use Rattle.deck.specs.Sheet.{Sheet, area}
use Rattle.deck.specs.Paths.{may_step, steps, walks}
use Rattle.meaning.specs.Meaning.{◌at◌, Before}
use Rattle.meaning.specs.Sorted.{Sorted}
use Rattle.meaning.proofs.Lists.{mem_map, mem_each, each_mem, mem_select, select_mem, mem_below, sorted_select, sorted_map, sorted_count_from, sorted_each}

-- the places that a step may lead to are those of the grid that the test allows
pub step_iff : (d : Sheet) (u v : ℕ) → Mem v (steps d u) ↔ ((v < area d) × T (may_step d u v))
unfolding steps
step_iff d u v = (
  λ m. let r = mem_select (may_step d u) (below (area d)) m in ((mem_below (area d)).0 r.0, r.1),
  λ h. select_mem (may_step d u) ((mem_below (area d)).1 h.0) h.1,
)

-- p is a walk of n steps from u: by its places
pub record Walk (d : Sheet) (n u : ℕ) (p : List ℕ) : Type 0 where
  pub long : length p ≡ suc n
  pub begins : p at 0 ≡ u
  pub goes : (t : ℕ) → t < n → Mem (p at (suc t)) (steps d (p at t))

-- what is enumerated is a walk
pub walk_of_mem : (d : Sheet) (n u : ℕ) {p : List ℕ} → Mem p (walks d n u) → Walk d n u p
unfolding walks
walk_of_mem d zero u m = rw (only m) (record { long = refl; begins = refl; goes = λ t l. absurd (not-suc-le-zero l) })
walk_of_mem d (suc n) u m =
    let r = mem_map (λ q. u ∷ q) (each (walks d n) (steps d u)) m in
    let e = mem_each (walks d n) (steps d u) r.1 in
    let w = walk_of_mem d n e.0 e.2 in
    rw r.2 (record { long = ap suc w.long; begins = refl; goes = onward r.0 (cast w.begins e.1) w.goes })
  where
    onward : (q : List ℕ) → Mem (q at 0) (steps d u) → ((t : ℕ) → t < n → Mem (q at (suc t)) (steps d (q at t)))
        → (t : ℕ) → t < suc n → Mem ((u ∷ q) at (suc t)) (steps d ((u ∷ q) at t))
    onward q s g zero l = s
    onward q s g (suc t) l = g t (omega arith)

-- each walk is enumerated
pub mem_of_walk : (d : Sheet) (n u : ℕ) (p : List ℕ) → Walk d n u p → Mem p (walks d n u)
unfolding walks
mem_of_walk d n u [] w = absurd (omega (arith, w.long))
mem_of_walk d zero u (x ∷ []) w = here (ap (λ (z : ℕ). z ∷ []) w.begins)
mem_of_walk d zero u (x ∷ y ∷ p) w = absurd (omega (arith, w.long))
mem_of_walk d (suc n) u (x ∷ q) w =
    let s : Mem (q at 0) (steps d u) = rw w.begins at (w.goes 0 (omega arith)) in
    let rest : Walk d n (q at 0) q = record { long = omega (arith, w.long); begins = refl; goes = λ t l. w.goes (suc t) (omega arith) } in
    cast (ap (λ (z : ℕ). z ∷ q) w.begins) (map_mem (λ p. u ∷ p) (each_mem (walks d n) s (mem_of_walk d n (q at 0) q rest)))

before_heads : (p q : List ℕ) → 0 < length p → 0 < length q → p at 0 < q at 0 → Before p q
before_heads [] q a b h = absurd (not-suc-le-zero a)
before_heads (x ∷ p) [] a b h = absurd (not-suc-le-zero b)
before_heads (x ∷ p) (y ∷ q) a b h = inl h

-- the enumeration stands in the order of lists
pub walks_sorted : (d : Sheet) (n u : ℕ) → Sorted Before (walks d n u)
unfolding walks steps
walks_sorted d zero u = (λ q m. absurd (not-nil m), tt)
walks_sorted d (suc n) u =
    sorted_map Before Before (λ p. u ∷ p) (λ p q b. inr (refl, b)) (each (walks d n) (steps d u))
    (sorted_each ◌<◌ Before (walks d n) (walks_sorted d n) apart (steps d u)
    (sorted_select ◌<◌ (may_step d u) (below (area d)) (sorted_count_from 0 (area d))))
  where
    apart : (x y : ℕ) → x < y → (p q : List ℕ) → Mem p (walks d n x) → Mem q (walks d n y) → Before p q
    apart x y h p q k m =
        let v = walk_of_mem d n x k in
        let w = walk_of_mem d n y m in
        before_heads p q (omega arith) (omega arith) (omega arith)
