-- Lists of padded goals filled from the front, and turned round. Assumes nothing.
use Prim.Native.Nat.{ℕ, suc, ◌+◌, ◌-◌, ◌≤◌, ◌<◌}
use Rattle.std.proofs.Common.{◌≡◌, sym, ap, ◌∙◌, subst, ⊎_elim, List, [], ◌∷◌, ◌++◌, reverse, eq-or-lt_of_le, arith, length, get_or, set, take, get_or-set_same, get_or-set_other, get_or-append-add, get_or-take, length-take-le}
use Rattle.std.proofs.lemmas.List.{length-reverse, reverse-append}
use Rattle.std.proofs.Math.ListN.{get_or-append}
use Rattle.bars.specs.Padded.{pad_of}
use Rattle.layers.specs.Raise.{GoalsAt, Indexes}

-- f at each index passed
abbrev pub Each : (ℕ → ℕ) → List ℕ → ℕ → Type 0
Each f l k = (m : ℕ) → m < k → get_or l m 0 ≡ f m

pub each_more : (f : ℕ → ℕ) (l : List ℕ) (k v : ℕ) → k < length l → v ≡ f k → Each f l k → Each f (set l k v) (k + 1)
each_more f l k v h e g m b = ⊎_elim (λ q. let z : m ≡ k = omega arith in rw z (get_or-set_same l k v 0 h ∙ e))
    (λ q. get_or-set_other l k m v 0 (omega arith) ∙ g m (omega arith)) (eq-or-lt_of_le b)

-- an element of a list turned round
pub reverse_at : (l : List ℕ) (k : ℕ) → k < length l → get_or (reverse l) k 0 ≡ get_or l (length l - 1 - k) 0
reverse_at [] k h = absurd (omega arith)
reverse_at (x ∷ l) k h = ⊎_elim
    (λ e.
    let z : k ≡ length (reverse l) + 0 = omega (arith, length-reverse l) in
    let i : suc (length l) - 1 - k ≡ 0 = omega arith in
    rw (reverse-append (x ∷ []) l, i) (subst (λ (y : ℕ). get_or (reverse l ++ x ∷ []) y 0 ≡ x) (sym z) (get_or-append-add (reverse l) (x ∷ []) 0 0)))
    (λ b.
    let i : suc (length l) - 1 - k ≡ suc (length l - 1 - k) = omega arith in
    rw (reverse-append (x ∷ []) l, i) (get_or-append (reverse l) (x ∷ []) 0 k (omega (arith, length-reverse l)) ∙ reverse_at l k (omega arith)))
    (eq-or-lt_of_le h)

-- goals turned round are the goals of the list turned round
pub turned_goals : (w : ℕ) (gs goals turned : List ℕ) → GoalsAt w gs goals (length goals) → turned ≡ reverse goals → GoalsAt w (reverse gs) turned (length turned)
turned_goals w gs goals turned g e = rw e (record {
  many = length-reverse gs ∙ g.many ∙ sym (length-reverse goals);
  at = λ k l.
      let m : k < length goals = omega (arith, length-reverse goals) in
      let q : length gs - 1 - k ≡ length goals - 1 - k = omega (arith, g.many) in
      reverse_at goals k m ∙ g.at (length goals - 1 - k) (omega arith) ∙ ap (pad_of w) (sym (reverse_at gs k (omega (arith, g.many)) ∙ ap (λ (z : ℕ). get_or gs z 0) q));
})

-- the goals that are filled in, as a list of their own
pub listed_goals : (w : ℕ) (gs places : List ℕ) (n : ℕ) → n ≡ length gs → n ≤ length places → Each (λ m. pad_of w (get_or gs m 0)) places n → GoalsAt w gs (take n places) (length (take n places))
listed_goals w gs places n e l each =
    let long : length (take n places) ≡ n = length-take-le n places l in
    rw long (record { many = sym e; at = λ k h. get_or-take n places k 0 h ∙ each k h })

-- goals on the grid are indexes of a layer
pub goals_index : (w : ℕ) (gs goals : List ℕ) (n : ℕ) → GoalsAt w gs goals n → ((k : ℕ) → k < n → pad_of w (get_or gs k 0) < 1156) → Indexes goals n
goals_index w gs goals n g h k l = rw (g.at k l) (h k l)
