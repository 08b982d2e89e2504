-- Raising a layer goal by goal raises each label as far as its place raises it. Assumes nothing.
use Rattle.std.proofs.lemmas.Bool.{cases_lt}
use Prim.Native.Nat.{ℕ, zero, suc, ◌≤◌, ◌<◌}
use Rattle.std.proofs.Common.{◌≡◌, refl, sym, ap, ◌∙◌, ⊎_elim, Bool, true, false, cond, ◌&&◌, List, [], ◌∷◌, ◌++◌, arith, length, get_or, take, take-suc, take_all, length-take-le, eqb, ne_eqb, eqb-true}
use Rattle.std.proofs.Math.Dec.{eqb-suc-suc, eqb-zero-suc}
use Rattle.meaning.proofs.Tests.{says_eqb, same_test}
use Rattle.kernel.specs.Layers.{lift}
use Rattle.kernel.specs.Goals.{up}
use Rattle.kernel.proofs.Reverse.{bump, up_end}
use Rattle.bars.specs.Padded.{pad_of}
use Rattle.bars.proofs.Grid.{pad_inj}
use Rattle.layers.specs.Raise.{bumped, raised_by, GoalsAt}

-- a label past the last goal is raised no more
up_past : (x : ℕ) (gs : List ℕ) (k : ℕ) → length gs ≤ k → up x gs k ≡ k
up_past x [] k h = refl
up_past x (g ∷ gs) zero h = absurd (omega arith)
up_past x (g ∷ gs) (suc k) h = ap suc (up_past x gs k (omega arith))

length_end : (l : List ℕ) (g : ℕ) → length (l ++ g ∷ []) ≡ suc (length l)
length_end [] g = refl
length_end (x ∷ l) g = ap suc (length_end l g)

-- one goal more, at any label
up_last : (x g : ℕ) (l : List ℕ) (k : ℕ) → up x (l ++ g ∷ []) k ≡ bump (eqb x g) (length l) (up x l k)
up_last x g l k = ⊎_elim
    (λ h. up_past x (l ++ g ∷ []) k (omega (arith, length_end l g)) ∙ rw (up_past x l k (omega arith)) (stays (eqb x g) (ne_eqb k (length l) (λ e. omega arith))))
    (λ h. up_end x g l k h) (cases_lt (length l) k)
  where
    stays : (b : Bool) → eqb k (length l) ≡ false → k ≡ cond (b && eqb k (length l)) (suc k) k
    stays true e = rw e
    stays false e = refl

-- one goal more, in a layer's numbers
bump_suc : (b : Bool) (k u : ℕ) → cond b (bumped k (suc u)) (suc u) ≡ suc (bump b k u)
bump_suc false k u = refl
bump_suc true k u = rw (eqb-suc-suc u k) (go (eqb u k) refl)
  where
    go : (c : Bool) → eqb u k ≡ c → cond c (suc (suc k)) (suc u) ≡ suc (cond c (suc u) u)
    go true e = let x : u ≡ k = eqb-true u k e in ap (λ (z : ℕ). suc (suc z)) (sym x)
    go false e = refl

-- nothing is raised to something
pub raise_none : (goals : List ℕ) (k p : ℕ) → raised_by goals k p 0 ≡ 0
raise_none goals zero p = refl
raise_none goals (suc k) p = rw (raise_none goals k p) (go (eqb p (get_or goals k 0)))
  where
    go : (b : Bool) → ◌≡◌ {A = ℕ} (cond b (bumped k 0) 0) 0
    go true = rw (eqb-zero-suc k) refl
    go false = refl

module _ (w : ℕ) (z : 0 < w) (gs goals : List ℕ) (n : ℕ) (g : GoalsAt w gs goals n) (v : ℕ) where
  same_goal : (k : ℕ) → k < n → eqb (pad_of w v) (get_or goals k 0) ≡ eqb v (get_or gs k 0)
  same_goal k h = rw (g.at k h) (same_test (eqb (pad_of w v) (pad_of w (get_or gs k 0))) (eqb v (get_or gs k 0))
      (λ t. says_eqb.test (pad_inj w v (get_or gs k 0) z (says_eqb.fact t))) (λ t. says_eqb.test (ap (pad_of w) (says_eqb.fact t))))

  raise_first : (k b : ℕ) → k ≤ n → raised_by goals k (pad_of w v) (suc b) ≡ suc (up v (take k gs) b)
  raise_first zero b h = refl
  raise_first (suc k) b h =
      let ih : raised_by goals k (pad_of w v) (suc b) ≡ suc (up v (take k gs) b) = raise_first k b (omega arith) in
      let l : List ℕ = take k gs in
      let len : length (take k gs) ≡ k = length-take-le k gs (omega (arith, g.many)) in
      rw (same_goal k (omega arith), ih)
      (bump_suc (eqb v (get_or gs k 0)) k (up v l b)
      ∙ ap suc (sym (rw (take-suc gs k 0 (omega (arith, g.many))) (rw len at (up_last v (get_or gs k 0) l b)))))

  pub raised_up : (b : ℕ) → raised_by goals n (pad_of w v) b ≡ lift (up v gs) b
  raised_up zero = raise_none goals n (pad_of w v)
  raised_up (suc b) = raise_first n b (omega arith) ∙ rw (take_all n gs (omega (arith, g.many))) refl
