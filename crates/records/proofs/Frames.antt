-- What a write in one record leaves as it was, and where a field's words stand. Assumes nothing.
use Rattle.std.proofs.Common.{◌≡◌, refl, sym, ◌∙◌, ap, Bool, true, false, List, [], ◌∷◌, ℕ, ◌+◌, ◌*◌, ◌<◌, ◌≤◌, add-zero, arith, length, get_or, set, take, drop, ltb, ltb-true, ltb-false, get_or-drop, get_or-take, get_or-set_same, get_or-set_other}
use Rattle.records.specs.Cut.{part, put, offset, cut}
use Rattle.records.specs.Record.{layout, fields, fields_at, key_at, with_key, Wrote}
use Rattle.records.proofs.Cuts.{set_put, length_part, part_inside, part_here, part_behind, drop_before, part_before, offset_sum, cut_inside, part_part}
use Rattle.records.proofs.Fields.{length_of_field}

-- another record, and a key, are not touched by words put into record n
module _ (work ys : List ℕ) (n j k : ℕ) (e : length ys ≡ k) (b : j + k ≤ 512) (h : 512 * n + 512 ≤ length work) where
  other_record : (m : ℕ) → (m ≡ n → ⊥) → part (512 * m) 512 (put (512 * n + j) k ys work) ≡ part (512 * m) 512 work
  other_record m ne = go (ltb m n) refl
    where
      go : (t : Bool) → ltb m n ≡ t → part (512 * m) 512 (put (512 * n + j) k ys work) ≡ part (512 * m) 512 work
      go true q = part_behind (512 * m) 512 (512 * n + j) k ys work (omega (arith, ltb-true m n q)) (omega arith)
      go false q =
          let g : n < m = omega (arith, ltb-false m n q) in
          part_before (512 * m) 512 (512 * n + j) k ys work e (omega arith) (omega arith)

  any_key : (limit m : ℕ) → n < limit → key_at limit (put (512 * n + j) k ys work) m ≡ key_at limit work m
  unfolding key_at
  any_key limit m l =
      let d : drop (512 * limit) (put (512 * n + j) k ys work) ≡ drop (512 * limit) work = drop_before (512 * limit) (512 * n + j) k ys work e (omega arith) (omega arith) in
      sym (get_or-drop (512 * limit) (put (512 * n + j) k ys work) m 0) ∙ ap (λ (l : List ℕ). get_or l m 0) d ∙ get_or-drop (512 * limit) work m 0

-- words put anew inside field f of record n
pub wrote : (work ys : List ℕ) (n f j k o : ℕ) → f < 10 → j + k ≤ get_or layout f 0 → length ys ≡ k → 512 * n + 512 ≤ length work → o ≡ 512 * n + (offset layout f + j)
    → Wrote work (put o k ys work) n (set (fields_at work n) f (put j k ys (get_or (fields_at work n) f [])))
unfolding fields_at fields
wrote work ys n f j k o g b e h q =
    let s : offset layout f + j + k ≤ 512 = omega (arith, offset_sum layout f) in
    rw q
    (record {
      here =
          ap (cut layout) (part_inside (512 * n) 512 (offset layout f + j) k ys work e s h)
          ∙ cut_inside layout f j k ys (part (512 * n) 512 work) g b e (omega (arith, length_part (512 * n) 512 work h));
      records = λ m ne. ap (cut layout) (other_record work ys n (offset layout f + j) k e s h m ne);
      keys = λ limit m l. any_key work ys n (offset layout f + j) k e s h limit m l;
    })

-- a word stored in field f of record n
pub wrote_word : (work : List ℕ) (n f j v o : ℕ) → f < 10 → j < get_or layout f 0 → 512 * n + 512 ≤ length work → o ≡ 512 * n + (offset layout f + j)
    → Wrote work (set work o v) n (set (fields_at work n) f (put j 1 (v ∷ []) (get_or (fields_at work n) f [])))
wrote_word work n f j v o g b h q =
    rw (set_put work o v (omega (arith, offset_sum layout f)))
    (wrote work (v ∷ []) n f j 1 o g (omega arith) refl h q)

-- a whole record put anew
pub wrote_record : (work ys : List ℕ) (n : ℕ) → length ys ≡ 512 → 512 * n + 512 ≤ length work → Wrote work (put (512 * n) 512 ys work) n (fields ys)
unfolding fields_at
wrote_record work ys n e h =
    let z : 512 * n + 0 ≡ 512 * n = add-zero (512 * n) in
    record {
      here = ap fields (part_here (512 * n) 512 ys work e h);
      records = λ m ne. ap fields (rw z at (other_record work ys n 0 512 e (omega arith) h m ne));
      keys = λ limit m l. rw z at (any_key work ys n 0 512 e (omega arith) h limit m l);
    }

-- one write after another in the same record
pub wrote_then : (a b c : List ℕ) (n : ℕ) (g : List (List ℕ) → List (List ℕ)) (fs : List (List ℕ)) → Wrote a b n fs → Wrote b c n (g (fields_at b n)) → Wrote a c n (g fs)
wrote_then a b c n g fs u v =
    record {
      here = v.here ∙ ap g u.here;
      records = λ k ne. v.records k ne ∙ u.records k ne;
      keys = λ limit k l. v.keys limit k l ∙ u.keys limit k l;
    }

-- the length of field f
pub length_field : (work : List ℕ) (n f : ℕ) → f < 10 → 512 * n + 512 ≤ length work → length (get_or (fields_at work n) f []) ≡ get_or layout f 0
unfolding fields_at
length_field work n f g h = length_of_field (part (512 * n) 512 work) refl (length_part (512 * n) 512 work h) f g

-- KEYS
pub key_same : (work : List ℕ) (limit n v : ℕ) → 512 * limit + n < length work → key_at limit (with_key limit n v work) n ≡ v
unfolding key_at
key_same work limit n v h = get_or-set_same work (512 * limit + n) v 0 h

pub key_other : (work : List ℕ) (limit n k v : ℕ) → (k ≡ n → ⊥) → key_at limit (with_key limit n v work) k ≡ key_at limit work k
unfolding key_at
key_other work limit n k v ne = get_or-set_other work (512 * limit + n) (512 * limit + k) v 0 (λ e. ne (omega arith))

pub key_record : (work : List ℕ) (limit n k v : ℕ) → k < limit → 512 * limit + n < length work → fields_at (with_key limit n v work) k ≡ fields_at work k
unfolding fields_at
key_record work limit n k v l h =
    rw (set_put work (512 * limit + n) v h)
    (ap fields (part_behind (512 * k) 512 (512 * limit + n) 1 (v ∷ []) work (omega arith) (omega arith)))

-- the records and the keys are read from the first words alone
pub fields_front : (a b : List ℕ) (limit k : ℕ) → k < limit → take (512 * limit + 4096) a ≡ take (512 * limit + 4096) b → fields_at a k ≡ fields_at b k
unfolding fields_at
fields_front a b limit k l e = ap fields (sym (front a) ∙ ap (λ (t : List ℕ). part (512 * k) 512 t) e ∙ front b)
  where
    front : (w : List ℕ) → part (512 * k) 512 (take (512 * limit + 4096) w) ≡ part (512 * k) 512 w
    front w = part_part 0 (512 * limit + 4096) (512 * k) 512 w (omega arith) ∙ (let z : 0 + 512 * k ≡ 512 * k = omega arith in rw z)

pub key_front : (a b : List ℕ) (limit k : ℕ) → k < 4096 → take (512 * limit + 4096) a ≡ take (512 * limit + 4096) b → key_at limit a k ≡ key_at limit b k
unfolding key_at
key_front a b limit k l e = sym (front a) ∙ ap (λ (t : List ℕ). get_or t (512 * limit + k) 0) e ∙ front b
  where
    front : (w : List ℕ) → get_or (take (512 * limit + 4096) w) (512 * limit + k) 0 ≡ get_or w (512 * limit + k) 0
    front w = get_or-take (512 * limit + 4096) w (512 * limit + k) 0 (omega arith)
