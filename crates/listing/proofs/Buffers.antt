-- Bytes written into a buffer one after the other. Assumes nothing.
use Rattle.std.proofs.Common.{ℕ, zero, suc, ◌+◌, ◌-◌, ◌≤◌, min, Bool, true, false, List, [], ◌∷◌, ◌++◌, length, take, drop, leb, ◌≡◌, refl, sym, ap, ◌∙◌, append_assoc, arith, length-append, length-take, length-drop}
use Rattle.std.proofs.lemmas.Slice.{take-put_mid, drop-put_mid}
use Rattle.std.proofs.lemmas.List.{append-nil, take_all, drop-drop}
use Rattle.std.proofs.lemmas.Bool.{leb-true, leb-false}
use borrow.Rule.Slice.PartMut.{put_mid, same_len_mid}
use Rattle.listing.specs.declared.text.Text.{Text}
use Rattle.listing.specs.Wrote.{Wrote}
use Rattle.listing.specs.Appends.{Appends}

-- what is cut off stays cut off
cut_twice : (n : ℕ) (l t : List ℕ) → take n (take n l ++ t) ≡ take n (l ++ t)
cut_twice zero l t = refl
cut_twice (suc n) [] t = refl
cut_twice (suc n) (x ∷ l) t = ap (λ (k : List ℕ). x ∷ k) (cut_twice n l t)

-- the first n of a and l are those of a and of as many of l as there is room for
cut_later : (n k : ℕ) (a l : List ℕ) → length a ≤ n → n ≤ length a + k → take n (a ++ take k l) ≡ take n (a ++ l)
cut_later n zero [] l h g = let e : n ≡ 0 = omega arith in rw e refl
cut_later zero (suc k) [] l h g = refl
cut_later (suc n) (suc k) [] [] h g = refl
cut_later (suc n) (suc k) [] (y ∷ l) h g = ap (λ (t : List ℕ). y ∷ t) (cut_later n k [] l (omega arith) (omega arith))
cut_later zero k (x ∷ a) l h g = refl
cut_later (suc n) k (x ∷ a) l h g = ap (λ (t : List ℕ). x ∷ t) (cut_later n k a l (omega arith) (omega arith))

-- the place after the bytes is not before their place
pub not_before : (b : List ℕ) (at : ℕ) (l c : List ℕ) (r : ℕ) → at ≤ length b → Wrote b at l c r → at ≤ r
not_before b at l c r h w =
    omega (arith, w.inside, w.same, simp (length-take, length-append) at (ap length w.held))

-- nothing
pub wrote_none : (b : List ℕ) (at : ℕ) → at ≤ length b → Wrote b at [] b at
wrote_none b at h =
    record {
      same = refl;
      inside = h;
      held = rw (append-nil (take at b)) (sym (take_all (length b) (take at b) (simp length-take (omega arith))));
      rest = refl;
    }

-- one text after another
pub wrote_then : {b : List ℕ} {at : ℕ} {l c : List ℕ} {r : ℕ} {k d : List ℕ} {e : ℕ} → at ≤ length b → Wrote b at l c r → Wrote c r k d e → Wrote b at (l ++ k) d e
wrote_then {b} {at} {l} {c} {r} {k} {d} {e} h v w =
    let le : r ≤ e = not_before c r k d e (omega (arith, v.inside, v.same)) w in
    let s : r + (e - r) ≡ e = omega arith in
    record {
      same = w.same ∙ v.same;
      inside = omega (arith, w.inside, v.same);
      held =
          w.held ∙ ap (λ n. take n (take r c ++ k)) v.same ∙ ap (λ t. take (length b) (t ++ k)) v.held
          ∙ cut_twice (length b) (take at b ++ l) k
          ∙ ap (take (length b)) (append_assoc (take at b) l k);
      rest =
          w.rest ∙ ap (λ n. drop n c) (sym s) ∙ sym (drop-drop (e - r) r c) ∙ ap (drop (e - r)) v.rest
          ∙ drop-drop (e - r) r b ∙ ap (λ n. drop n b) s;
    }

-- as much of the bytes as there is room for
pub wrote_part : (b l ys : List ℕ) (at e : ℕ) → at ≤ length b → e ≡ min (length b) (at + length l) → ys ≡ take (e - at) l → Wrote b at l (put_mid at (e - at) b ys) e
wrote_part b l ys at e h f g =
    let long : length ys ≡ e - at = rw g (simp length-take (omega arith)) in
    let upto : e ≡ at + length ys = omega arith in
    record {
      same = same_len_mid at (e - at) b ys (simp (length-take, length-drop) (omega arith));
      inside = omega arith;
      held =
          take-put_mid at (e - at) b ys e upto h ∙ ap (λ (t : List ℕ). take at b ++ t) g
          ∙ sym (take_all (length b) (take at b ++ take (e - at) l) (simp (length-append, length-take) (omega arith)))
          ∙ cut;
      rest = drop-put_mid at (e - at) b ys e (omega arith) h long;
    }
  where
    cut : take (length b) (take at b ++ take (e - at) l) ≡ take (length b) (take at b ++ l)
    cut = go (leb (at + length l) (length b)) refl
      where
        go : (t : Bool) → leb (at + length l) (length b) ≡ t → take (length b) (take at b ++ take (e - at) l) ≡ take (length b) (take at b ++ l)
        go true q =
            let r = leb-true (at + length l) (length b) q in
            ap (λ (t : List ℕ). take (length b) (take at b ++ t)) (take_all (e - at) l (omega arith))
        go false q =
            let r = leb-false (at + length l) (length b) q in
            cut_later (length b) (e - at) (take at b) l (simp length-take (omega arith)) (simp length-take (omega arith))

-- TEXTS
pub appends_none : (a : Text) → Appends a [] a
appends_none a = record { same_buffer = refl; wrote = wrote_none a.buffer.now a.written a.inside }

module _ {a b : Text} {l : List ℕ} where
  pub appends_same : {k : List ℕ} → l ≡ k → Appends a l b → Appends a k b
  appends_same e v = rw (← e) v

  -- one text after another
  pub appends_then : {c : Text} {k : List ℕ} → Appends a l b → Appends b k c → Appends a (l ++ k) c
  appends_then v w = record { same_buffer = w.same_buffer ∙ v.same_buffer; wrote = wrote_then a.inside v.wrote w.wrote }

  -- a label with its number comes as one text
  pub appends_field : {c : Text} (k m : List ℕ) → Appends a l b → Appends b (k ++ m) c → Appends a (l ++ k ++ m) c
  appends_field k m v w = rw (append_assoc l k m) (appends_then v w)
