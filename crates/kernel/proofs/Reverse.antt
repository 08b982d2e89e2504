-- Backward as forward: the labels counted backward rise as labels do, with the goals reversed. Assumes nothing.
use Rattle.std.proofs.Common.{ℕ, zero, suc, ◌-◌, ◌≤◌, zero-le, ◌≡◌, refl, sym, ap, ◌∙◌, subst, ⊎_elim, Bool, true, false, cond, ◌&&◌, List, [], ◌∷◌, ◌++◌, reverse, le_refl, arith, length, eqb, eq-eqb, ne_eqb}
use Rattle.std.proofs.lemmas.Bool.{cases_lt}
use Rattle.std.proofs.lemmas.List.{length-reverse, reverse-append}
use Rattle.std.proofs.Math.Dec.{eqb-suc-suc, eqb-zero-suc}
use Rattle.kernel.specs.Layers.{lift}
use Rattle.kernel.specs.Goals.{up, fall, down, lowered}
use Rattle.kernel.proofs.Labels.{up_ge, up_le, down_iff}

-- The step that raises a label forward is, on the goals reversed, the step that counts backward
abbrev pub bump : Bool → ℕ → ℕ → ℕ
bump b n r = cond (b && eqb r n) (suc r) r

bump_suc : (b : Bool) (n r : ℕ) → bump b (suc n) (suc r) ≡ suc (bump b n r)
bump_suc false n r = refl
bump_suc true n r = rw (eqb-suc-suc r n) (go (eqb r n))
  where
    go : (c : Bool) → cond c (suc (suc r)) (suc r) ≡ suc (cond c (suc r) r)
    go true = refl
    go false = refl

bump_zero : (b : Bool) (n : ℕ) → bump b (suc n) 0 ≡ 0
bump_zero false n = refl
bump_zero true n = rw (eqb-zero-suc n) refl

bump_nil : (b : Bool) → cond b 1 0 ≡ bump b 0 0
bump_nil true = refl
bump_nil false = refl

bump_fall : (b : Bool) (n r : ℕ) → r ≤ n → bump b n (n - r) ≡ suc n - fall b r
bump_fall false n r h = omega arith
bump_fall true n zero h = rw (eq-eqb (n - 0) n (omega arith)) (omega arith)
bump_fall true n (suc r) h = rw (ne_eqb (n - suc r) n (λ e. omega arith)) (omega arith)

pub up_end : (x g : ℕ) (l : List ℕ) (k : ℕ) → k ≤ length l → up x (l ++ g ∷ []) k ≡ bump (eqb x g) (length l) (up x l k)
up_end x g [] zero h = bump_nil (eqb x g)
up_end x g [] (suc k) h = absurd (omega arith)
up_end x g (y ∷ l) zero h = go (eqb x y) (up_end x g l zero zero-le)
  where
    go : (b : Bool) → up x (l ++ g ∷ []) zero ≡ bump (eqb x g) (length l) (up x l zero)
        → cond b (suc (up x (l ++ g ∷ []) zero)) zero ≡ bump (eqb x g) (suc (length l)) (cond b (suc (up x l zero)) zero)
    go true i = ap suc i ∙ sym (bump_suc (eqb x g) (length l) (up x l zero))
    go false i = sym (bump_zero (eqb x g) (length l))
up_end x g (y ∷ l) (suc k) h = ap suc (up_end x g l k (omega arith)) ∙ sym (bump_suc (eqb x g) (length l) (up x l k))

down_le : (x : ℕ) (gs : List ℕ) (m : ℕ) → down x gs m ≤ m
down_le x gs m = (down_iff x gs m m).1 (up_ge x gs m)

up_reverse : (x : ℕ) (gs : List ℕ) (m : ℕ) → m ≤ length gs → up x (reverse gs) (length gs - m) ≡ length gs - down x gs m
up_reverse x [] m h = refl
up_reverse x (g ∷ gs) zero h =
    let n : ℕ = length (reverse (g ∷ gs)) in
    let e : suc (length gs) - 0 ≡ n = omega (arith, length-reverse (g ∷ gs)) in
    rw e (omega (arith, length-reverse (g ∷ gs), up_ge x (reverse (g ∷ gs)) n, up_le x (reverse (g ∷ gs)) n (le_refl n)))
up_reverse x (g ∷ gs) (suc m) h =
    let k : ℕ = length gs - m in
    let e : suc (length gs) - suc m ≡ k = omega arith in
    let i : up x (reverse gs) k ≡ length gs - down x gs m = up_reverse x gs m (omega arith) in
    let a : up x (reverse gs ++ g ∷ []) k ≡ bump (eqb x g) (length gs) (up x (reverse gs) k)
    = rw (length-reverse gs) at (up_end x g (reverse gs) k (omega (arith, length-reverse gs))) in
    subst (λ (y : ℕ). up x (reverse (g ∷ gs)) y ≡ suc (length gs) - fall (eqb x g) (down x gs m)) (sym e)
    (subst (λ (l : List ℕ). up x l k ≡ suc (length gs) - fall (eqb x g) (down x gs m)) (sym (reverse-append (g ∷ []) gs))
    (a ∙ ap (bump (eqb x g) (length gs)) i ∙ bump_fall (eqb x g) (length gs) (down x gs m) (omega (arith, down_le x gs m))))

pub backward_as_forward : (x : ℕ) (gs : List ℕ) (b : ℕ) → b ≤ suc (length gs) → lowered x gs b ≡ lift (up x (reverse gs)) b
backward_as_forward x gs zero h =
    let i = (down_iff x gs (suc (length gs) - 0) (length gs)).0 in
    ⊎_elim (λ g. absurd (omega (arith, i (omega arith), up_le x gs (length gs) (le_refl (length gs))))) (λ g. omega arith) (cases_lt (down x gs (suc (length gs) - 0)) (suc (length gs)))
backward_as_forward x gs (suc b) h =
    let m : ℕ = length gs - b in
    let e : suc (length gs) - suc b ≡ m = omega arith in
    let f : length gs - m ≡ b = omega arith in
    let r : up x (reverse gs) b ≡ length gs - down x gs m = rw f at (up_reverse x gs m (omega arith)) in
    rw e (omega (arith, r, down_le x gs m))
