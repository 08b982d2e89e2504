-- What the bytes of a mask let through. Assumes nothing.
use Prim.Native.Nat.{ℕ, zero, suc, ◌≤◌, ◌<◌, min}
use Rattle.std.proofs.Common.{◌≡◌, refl, sym, subst, ◌≢◌, Bool, true, false, cond, ◌&&◌, ◌||◌, not, arith, T, ltb, eqb}
use Rattle.deck.specs.Sheet.{Sheet, area, grid_byte, free}
use Rattle.kernel.proofs.Both.{and_right}
use Rattle.bars.specs.Padded.{shade, Gate}
use Rattle.bars.specs.Ways.{leaves, opens_by}

-- a place lets labels through where it is free
pub shade_gate : (d : Sheet) (v : ℕ) → Gate (free d v) (shade d v)
unfolding shade
shade_gate d v = go (ltb v (area d)) (eqb (grid_byte d v) 1) (eqb (grid_byte d v) 2) (eqb (grid_byte d v) 3) (eqb (grid_byte d v) 4) (eqb (grid_byte d v) 5)
  where
    lets_all : (m : ℕ) → 224 ≤ m → Gate true m
    lets_all m l = record { lets = λ t. l; shuts = λ n. absurd (n tt) }

    go : (a f n e s w : Bool) → Gate (a && not f) (cond a (cond f 0 (cond n 229 (cond e 236 (cond s 244 (cond w 230 255))))) 0)
    go false f n e s w = record { lets = λ t. absurd t; shuts = λ n. refl }
    go true true n e s w = record { lets = λ t. absurd t; shuts = λ n. refl }
    go true false true e s w = lets_all 229 (omega arith)
    go true false false true s w = lets_all 236 (omega arith)
    go true false false false true w = lets_all 244 (omega arith)
    go true false false false false true = lets_all 230 (omega arith)
    go true false false false false false = lets_all 255 (omega arith)

-- what holds of the five ways holds of every way
pub each_way : (P : ℕ → Type 0) → P 0 → P 1 → P 2 → P 3 → P 4 → (x : ℕ) → x < 5 → P x
each_way P a b c d e zero l = a
each_way P a b c d e (suc zero) l = b
each_way P a b c d e (suc (suc zero)) l = c
each_way P a b c d e (suc (suc (suc zero))) l = d
each_way P a b c d e (suc (suc (suc (suc zero)))) l = e
each_way P a b c d e (suc (suc (suc (suc (suc x))))) l = absurd (omega arith)

-- the mask's byte of a place has the bit of each way by which the place may be left
pub opens_shade : (d : Sheet) (v x : ℕ) → x < 5 → opens_by (shade d v) x ≡ (free d v && leaves d v x)
unfolding shade leaves opens_by
opens_shade d v x l = go (ltb v (area d)) (eqb (grid_byte d v) 1) (eqb (grid_byte d v) 2) (eqb (grid_byte d v) 3) (eqb (grid_byte d v) 4) (eqb (grid_byte d v) 5)
  where
    Same : (a f n e s w : Bool) → ℕ → Type 0
    Same a f n e s w x =
        opens_by (cond a (cond f 0 (cond n 229 (cond e 236 (cond s 244 (cond w 230 255))))) 0) x
        ≡ ((a && not f) && (eqb x 2 || cond n (eqb x 0) (cond e (eqb x 3) (cond s (eqb x 4) (cond w (eqb x 1) true)))))

    go : (a f n e s w : Bool) → Same a f n e s w x
    go false f n e s w = each_way (Same false f n e s w) refl refl refl refl refl x l
    go true true n e s w = each_way (Same true true n e s w) refl refl refl refl refl x l
    go true false true e s w = each_way (Same true false true e s w) refl refl refl refl refl x l
    go true false false true s w = each_way (Same true false false true s w) refl refl refl refl refl x l
    go true false false false true w = each_way (Same true false false false true w) refl refl refl refl refl x l
    go true false false false false true = each_way (Same true false false false false true) refl refl refl refl refl x l
    go true false false false false false = each_way (Same true false false false false false) refl refl refl refl refl x l

-- a place whose byte has all bits may be left by every way
pub all_open : (x : ℕ) → x < 5 → T (opens_by 255 x)
unfolding opens_by
all_open = each_way (λ (x : ℕ). T (opens_by 255 x)) tt tt tt tt tt

pub open_leaves : (d : Sheet) (v x : ℕ) → x < 5 → shade d v ≡ 255 → T (leaves d v x)
open_leaves d v x l e = and_right (free d v) (leaves d v x) (subst T (opens_shade d v x l) (subst (λ (m : ℕ). T (opens_by m x)) (sym e) (all_open x l)))

-- a gate behind a test
pub gate_if : (b : Bool) {c : Bool} {m : ℕ} → Gate c m → Gate (b && c) (cond b m 0)
gate_if true g = g
gate_if false g = record { lets = λ t. absurd t; shuts = λ n. refl }

pub gate_shut : (b : Bool) {m : ℕ} → Gate b m → m ≡ 0 → ¬ T b
gate_shut b g e t = omega (arith, g.lets t)

pub gate_open : (b : Bool) {m : ℕ} → Gate b m → m ≢ 0 → T b
gate_open true g n = tt
gate_open false g n = n (g.shuts (λ t. t))

pub gate_min : (b : Bool) (n m : ℕ) → n < 224 → Gate b m → min n m ≡ cond b n 0
gate_min true n m l g = omega (arith, g.lets tt)
gate_min false n m l g = omega (arith, g.shuts (λ t. t))
