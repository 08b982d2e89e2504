-- No byte is that of a lane where none is away from 0 and from 255. Assumes nothing.
use Rattle.std.proofs.Common.{ℕ, zero, suc, ◌+◌, ◌-◌, ◌≤◌, ◌<◌, ◌≡◌, min, List, [], ◌∷◌, arith, length, get_or, take, drop, length-take, length-drop, get_or-take, get_or-drop, ap, ◌∙◌}
use Rattle.std.specs.List.{fold}
use Rattle.layers.specs.Step.{farther, Plain}

-- no byte is farther than the farthest
far_fold : (a : ℕ) (l : List ℕ) → (a ≤ fold farther a l) × ((k : ℕ) → k < length l → min (get_or l k 0) (255 - get_or l k 0) ≤ fold farther a l)
far_fold a [] = (omega arith, λ k h. absurd (omega arith))
far_fold a (b ∷ l) = let r = far_fold (farther a b) l in (omega (arith, r.0), at r)
  where
    at : (farther a b ≤ fold farther (farther a b) l) × ((k : ℕ) → k < length l → min (get_or l k 0) (255 - get_or l k 0) ≤ fold farther (farther a b) l)
        → (k : ℕ) → k < length (b ∷ l) → min (get_or (b ∷ l) k 0) (255 - get_or (b ∷ l) k 0) ≤ fold farther (farther a b) l
    at r zero h = omega (arith, r.0)
    at r (suc k) h = r.1 k (omega arith)

pub plain_of : (mask : List ℕ) (row end : ℕ) → ((p : ℕ) → get_or mask p 0 < 256) → end ≤ length mask → fold farther 0 (take (end - row) (drop row mask)) ≡ 0 → Plain mask row end
plain_of mask row end small room e p l m n =
    let part = take (end - row) (drop row mask) in
    let long : length part ≡ end - row = simp (length-take, length-drop) (omega arith) in
    let far = (far_fold 0 part).1 (p - row) (omega (arith, long)) in
    let same : get_or part (p - row) 0 ≡ get_or mask p 0 = get_or-take (end - row) (drop row mask) (p - row) 0 (omega arith) ∙ get_or-drop row mask (p - row) 0 ∙ (let z : row + (p - row) ≡ p = omega arith in ap (λ (q : ℕ). get_or mask q 0) z) in
    let less : min (get_or mask p 0) (255 - get_or mask p 0) ≤ 0 = omega (arith, rw (same, e) at far) in
    omega (arith, less, small p, n)
