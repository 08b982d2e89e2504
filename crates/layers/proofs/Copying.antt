-- The masks of the five ways, copied one after the other. Assumes nothing.
use Rattle.std.proofs.Common.{ℕ, ◌+◌, ◌*◌, ◌≤◌, ◌<◌, ◌≡◌, sym, ap, ◌∙◌, subst, List, length, get_or, arith, rules, ⊎_elim}
use Rattle.std.proofs.lemmas.List.{places}
use borrow.Rule.Slice.PartMut.{put_mid}
use Rattle.layers.proofs.Fills.{up_to}

-- the first n masks are copies
pub record CopiedTo (n : ℕ) (mask ways : List ℕ) : Type 0 where
  pub size : length ways ≡ 5780
  pub copied : (k : ℕ) → k < n → (p : ℕ) → p < 1156 → get_or ways (1156 * k + p) 0 ≡ get_or mask p 0

module _ (at n : ℕ) (before part : List ℕ) (room : at + n ≤ length before) (size : length part ≡ n) where
  pub part_size : length (put_mid at n before part) ≡ length before
  part_size = search (rules, places)

  pub part_in : (p : ℕ) → p < n → get_or (put_mid at n before part) (at + p) 0 ≡ get_or part p 0
  part_in p h = search (rules, places)

  pub part_out : (p : ℕ) → p < at → get_or (put_mid at n before part) p 0 ≡ get_or before p 0
  part_out p h = search (rules, places)

-- one mask more
pub copied_more : (k : ℕ) {mask ways part : List ℕ} {n : ℕ} → n ≡ 1156 → k < 5 → length mask ≡ 1156 → CopiedTo k mask ways → part ≡ mask → CopiedTo (k + 1) mask (put_mid (1156 * k) n ways part)
copied_more k {mask} {ways} {part} {n} en l size c e =
    let at : ℕ = 1156 * k in
    let room : at + n ≤ length ways = omega (arith, c.size) in
    let long : length part ≡ n = ap length e ∙ size ∙ sym en in
    record {
      size = part_size at n ways part room long ∙ c.size;
      copied = λ j h p q. ⊎_elim
          (λ f. subst (λ (z : ℕ). get_or (put_mid at n ways part) (1156 * z + p) 0 ≡ get_or mask p 0) (sym f) (part_in at n ways part room long p (omega arith) ∙ ap (λ l. get_or l p 0) e))
          (λ f. part_out at n ways part room long (1156 * j + p) (omega arith) ∙ c.copied j f p q) (up_to j k h);
    }
