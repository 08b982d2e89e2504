-- Labels: a larger one stays larger. Assumes nothing.
use Rattle.std.proofs.Common.{ℕ, zero, suc, ◌+◌, ◌-◌, ◌≤◌, ◌<◌, zero-le, ◌≡◌, refl, ap, Bool, true, false, cond, List, [], ◌∷◌, arith, length, drop, eqb}
use Rattle.deck.specs.Paths.{visit, left}
use Rattle.kernel.specs.Goals.{up, fall, down, lowered}

pub up_ge : (x : ℕ) (gs : List ℕ) (k : ℕ) → k ≤ up x gs k
up_ge x [] k = omega arith
up_ge x (g ∷ gs) zero = zero-le
up_ge x (g ∷ gs) (suc k) = omega (arith, up_ge x gs k)

pub up_le : (x : ℕ) (gs : List ℕ) (k : ℕ) → k ≤ length gs → up x gs k ≤ length gs
up_le x [] k h = h
up_le x (g ∷ gs) zero h = go (eqb x g) (up_le x gs zero zero-le)
  where
    go : (b : Bool) → up x gs zero ≤ length gs → cond b (suc (up x gs zero)) zero ≤ suc (length gs)
    go true i = omega arith
    go false i = zero-le
up_le x (g ∷ gs) (suc k) h = omega (arith, up_le x gs k (omega arith))

-- dominance at one place
pub up_mono : (x : ℕ) (gs : List ℕ) (k j : ℕ) → k ≤ j → up x gs k ≤ up x gs j
up_mono x [] k j h = h
up_mono x (g ∷ gs) zero zero h = omega arith
up_mono x (g ∷ gs) zero (suc j) h = go (eqb x g) (up_mono x gs zero j zero-le)
  where
    go : (b : Bool) → up x gs zero ≤ up x gs j → cond b (suc (up x gs zero)) zero ≤ suc (up x gs j)
    go true i = omega arith
    go false i = zero-le
up_mono x (g ∷ gs) (suc k) zero h = absurd (omega arith)
up_mono x (g ∷ gs) (suc k) (suc j) h = omega (arith, up_mono x gs k j (omega arith))

-- what x raises once it raises no more
pub up_twice : (x : ℕ) (gs : List ℕ) (k : ℕ) → up x gs (up x gs k) ≡ up x gs k
up_twice x [] k = refl
up_twice x (g ∷ gs) zero = go (eqb x g) refl (up_twice x gs zero)
  where
    go : (b : Bool) → eqb x g ≡ b → up x gs (up x gs zero) ≡ up x gs zero → up x (g ∷ gs) (cond b (suc (up x gs zero)) zero) ≡ cond b (suc (up x gs zero)) zero
    go true e i = ap suc i
    go false e i = rw e refl
up_twice x (g ∷ gs) (suc k) = ap suc (up_twice x gs k)

pub down_iff : (x : ℕ) (gs : List ℕ) (m k : ℕ) → (down x gs m ≤ k → m ≤ up x gs k) × (m ≤ up x gs k → down x gs m ≤ k)
down_iff x [] m k = (λ h. h, λ h. h)
down_iff x (g ∷ gs) zero k = (λ h. zero-le, λ h. zero-le)
down_iff x (g ∷ gs) (suc m) zero = go (eqb x g) (down x gs m) (down_iff x gs m zero)
  where
    go : (b : Bool) (r : ℕ) → (r ≤ 0 → m ≤ up x gs zero) × (m ≤ up x gs zero → r ≤ 0)
        → (fall b r ≤ 0 → suc m ≤ cond b (suc (up x gs zero)) zero) × (suc m ≤ cond b (suc (up x gs zero)) zero → fall b r ≤ 0)
    go false r i = (λ h. absurd (omega arith), λ h. absurd (omega arith))
    go true zero i = (λ h. omega (arith, i.0 zero-le), λ h. zero-le)
    go true (suc r) i = (λ h. absurd (omega arith), λ h. absurd (omega (arith, i.1 (omega arith))))
down_iff x (g ∷ gs) (suc m) (suc k) = go (eqb x g) (down x gs m) (down_iff x gs m k)
  where
    go : (b : Bool) (r : ℕ) → (r ≤ k → m ≤ up x gs k) × (m ≤ up x gs k → r ≤ k)
        → (fall b r ≤ suc k → suc m ≤ suc (up x gs k)) × (suc m ≤ suc (up x gs k) → fall b r ≤ suc k)
    go false r i = (λ h. omega (arith, i.0 (omega arith)), λ h. omega (arith, i.1 (omega arith)))
    go true zero i = (λ h. omega (arith, i.0 zero-le), λ h. zero-le)
    go true (suc r) i = (λ h. omega (arith, i.0 (omega arith)), λ h. omega (arith, i.1 (omega arith)))

-- labels and the goals that are left
pub drop_up : (x : ℕ) (gs : List ℕ) (k : ℕ) → drop (up x gs k) gs ≡ visit x (drop k gs)
unfolding visit
drop_up x [] zero = refl
drop_up x [] (suc k) = refl
drop_up x (g ∷ gs) zero = go (eqb x g) (drop_up x gs zero)
  where
    go : (b : Bool) → drop (up x gs zero) gs ≡ visit x gs → drop (cond b (suc (up x gs zero)) zero) (g ∷ gs) ≡ cond b (visit x gs) (g ∷ gs)
    go true i = i
    go false i = refl
drop_up x (g ∷ gs) (suc k) = drop_up x gs k

-- the label after the places of p, one after the other
abbrev pub visited : List ℕ → ℕ → List ℕ → ℕ
visited gs k [] = k
visited gs k (x ∷ p) = visited gs (up x gs k) p

pub left_after : (gs : List ℕ) (k : ℕ) (p : List ℕ) → left p (drop k gs) ≡ drop (visited gs k p) gs
unfolding left
left_after gs k [] = refl
left_after gs k (x ∷ p) = rw (← (drop_up x gs k)) (left_after gs (up x gs k) p)

pub visited_le : (gs : List ℕ) (k : ℕ) (p : List ℕ) → k ≤ length gs → visited gs k p ≤ length gs
visited_le gs k [] h = h
visited_le gs k (x ∷ p) h = visited_le gs (up x gs k) p (up_le x gs k h)

-- what suffices before x, and after it
pub lowered_iff : (gs : List ℕ) (x k b : ℕ) → (length gs < up x gs k + b → length gs < k + lowered x gs b) × (length gs < k + lowered x gs b → length gs < up x gs k + b)
lowered_iff gs x k b =
    let m : ℕ = suc (length gs) - b in
    let i = down_iff x gs m k in
    let l = (down_iff x gs m m).1 (up_ge x gs m) in
    (λ h. let x = i.1 (omega arith) in omega arith, λ h. let x = i.0 (omega arith) in omega arith)
