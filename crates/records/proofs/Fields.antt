-- The words of a record's fields, where they stand in the record. Assumes nothing.
use Rattle.std.proofs.Common.{Some, None, ℕ, zero, suc, ◌≡◌, ◌+◌, ◌*◌, ◌-◌, ◌<◌, ◌≤◌, List, [], length, get_or, refl, sym, ◌∙◌, arith, take_all}
use Rattle.deck.specs.declared.Constraint.{Constraint}
use Rattle.records.specs.Cut.{part, offset}
use Rattle.records.specs.Record.{layout, fields, slot_in, origin_of}
use Rattle.records.proofs.Cuts.{cut_at, part_get, part_part, length_part, offset_sum}

-- fs are the fields of a record
module _ (rec : List ℕ) {fs : List (List ℕ)} (v : fields rec ≡ fs) where
  field_at : (f : ℕ) → f < 10 → get_or fs f [] ≡ part (offset layout f) (get_or layout f 0) rec
  unfolding fields
  field_at f g = rw (← v) (cut_at layout f rec g)

  -- word j of field f
  pub read_word : (f j o : ℕ) → f < 10 → j < get_or layout f 0 → o ≡ offset layout f + j → get_or rec o 0 ≡ get_or (get_or fs f []) j 0
  read_word f j o g b q = rw (field_at f g, q) (sym (part_get (offset layout f) (get_or layout f 0) j rec b))

  -- k words of field f from j on
  pub field_part : (f j k o : ℕ) → f < 10 → j + k ≤ get_or layout f 0 → o ≡ offset layout f + j → part o k rec ≡ part j k (get_or fs f [])
  field_part f j k o g b q = rw (field_at f g, q) (sym (part_part (offset layout f) (get_or layout f 0) j k rec b))

  -- the same as the part from o to e
  pub read_part : (f j k o e : ℕ) → f < 10 → j + k ≤ get_or layout f 0 → o ≡ offset layout f + j → e ≡ o + k → part o (e - o) rec ≡ part j k (get_or fs f [])
  read_part f j k o e g b q r =
      let d : e - o ≡ k = omega arith in
      rw d (field_part f j k o g b q)

  module _ (h : length rec ≡ 512) where
    pub length_of_field : (f : ℕ) → f < 10 → length (get_or fs f []) ≡ get_or layout f 0
    length_of_field f g = rw (field_at f g) (length_part (offset layout f) (get_or layout f 0) rec (omega (arith, offset_sum layout f)))

    -- field f, as the part from o to e
    pub read_field : (f o e : ℕ) → f < 10 → o ≡ offset layout f → e ≡ o + get_or layout f 0 → part o (e - o) rec ≡ get_or fs f []
    read_field f o e g q r =
        read_part f 0 (get_or layout f 0) o e g (omega arith) (omega arith) r
        ∙ take_all (get_or layout f 0) (get_or fs f []) (omega (arith, length_of_field f g))

-- word k of slot j
pub slot_word : (fs : List (List ℕ)) (j k : ℕ) → k < 14 → get_or (get_or fs 6 []) (14 * j + k) 0 ≡ get_or (slot_in fs j) k 0
slot_word fs j k h = sym (part_get (14 * j) 14 k (get_or fs 6 []) h)

-- twelve words of slot j
pub slot_part : (fs : List (List ℕ)) (j : ℕ) → part (14 * j + 2) 12 (get_or fs 6 []) ≡ part 2 12 (slot_in fs j)
slot_part fs j = sym (part_part (14 * j) 14 2 12 (get_or fs 6 []) (omega arith))

-- a child has a parent
pub no_origin : (l : ℕ) (c : Constraint) → (1 ≤ l → ⊥) → None ≡ origin_of l c
no_origin zero c n = refl
no_origin (suc q) c n = absurd (n (omega arith))

pub origin_is : (l p : ℕ) (c : Constraint) → (1 ≤ l) × (p ≡ l - 1) → Some (record { parent = p; constraint = c }) ≡ origin_of l c
origin_is zero p c h = absurd (omega (arith, h.0))
origin_is (suc q) p c h = let e : p ≡ q = omega (arith, h.1) in rw e refl
