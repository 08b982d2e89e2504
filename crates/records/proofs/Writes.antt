-- What each writer leaves in the workspace, from what its calls and stores leave. Assumes nothing.
use Rattle.std.proofs.Common.{◌≡◌, refl, sym, ◌∙◌, ap, List, [], ◌∷◌, append-nil, append_assoc, ℕ, ◌+◌, ◌*◌, ◌-◌, ◌<◌, ◌≤◌, add-zero, arith, length, get_or, set, take, drop, replicate, length-set, drop_of_length-le, get_or-set_other, drop-drop, Option}
use Rattle.std.proofs.lemmas.List.{length-replicate}
use Rattle.std.proofs.Math.Seq.{paste}
use Rattle.deck.specs.declared.Constraint.{Constraint}
use Rattle.records.specs.Cut.{part, put, offset, cut}
use Rattle.records.specs.Record.{layout, fields, fields_at, words_of, with_path, with_slot, slot_in, slot_words, root_fields, Wrote}
use Rattle.candidates.specs.declared.Candidate.{Candidate}
use Rattle.records.proofs.Cuts.{set_put, length_part, length_put, part_lent, part_part, cut_inside, offset_sum}
use Rattle.records.proofs.Frames.{wrote, wrote_word, wrote_record, wrote_then, length_field}
use Rattle.records.proofs.Fields.{length_of_field, field_part}
use Rattle.records.proofs.Words.{length_words}

-- all of a list put anew
put_whole : (k : ℕ) (ys xs : List ℕ) → length xs ≤ k → put 0 k ys xs ≡ ys
put_whole k ys xs h = rw (drop_of_length-le xs {i = k} h) (append-nil ys)

-- a part lent from o to e, and come back as long as it was
pub lent_size : (o e : ℕ) (ys xs : List ℕ) → o ≤ e → e ≤ length xs → length ys ≡ length (part o (e - o) xs) → length ys ≡ e - o
lent_size o e ys xs h g l = l ∙ length_part o (e - o) xs (omega arith)

pub lent_length : (o e : ℕ) (ys xs : List ℕ) → o ≤ e → e ≤ length xs → length ys ≡ length (part o (e - o) xs) → length (put o (e - o) ys xs) ≡ length xs
lent_length o e ys xs h g l = length_put o (e - o) ys xs (lent_size o e ys xs h g l) (omega arith)

-- field f lent as the part from o to e, and come back as ys
wrote_whole : (work ys : List ℕ) (n f o e : ℕ) → f < 10 → length ys ≡ get_or layout f 0 → 512 * n + 512 ≤ length work → o ≡ 512 * n + offset layout f → e ≡ o + get_or layout f 0
    → Wrote work (put o (e - o) ys work) n (set (fields_at work n) f ys)
wrote_whole work ys n f o e g l h q r =
    let d : e - o ≡ get_or layout f 0 = omega arith in
    let w : Wrote work (put o (get_or layout f 0) ys work) n (set (fields_at work n) f (put 0 (get_or layout f 0) ys (get_or (fields_at work n) f []))) =
    wrote work ys n f 0 (get_or layout f 0) o g (omega arith) l h (omega arith) in
    rw d (rw (put_whole (get_or layout f 0) ys (get_or (fields_at work n) f []) (omega (arith, length_field work n f g h))) at w)

-- field f, of one word, stored
pub wrote_one : (work : List ℕ) (n f v o : ℕ) → f < 10 → get_or layout f 0 ≡ 1 → 512 * n + 512 ≤ length work → o ≡ 512 * n + offset layout f
    → Wrote work (set work o v) n (set (fields_at work n) f (v ∷ []))
wrote_one work n f v o g l h q =
    rw (put_whole 1 (v ∷ []) (get_or (fields_at work n) f []) (omega (arith, length_field work n f g h)))
    at (wrote_word work n f 0 v o g (omega arith) h (omega arith))

-- the link and the constraint
pub origin_wrote : (work ys : List ℕ) (n link : ℕ) (c : Constraint) → 512 * n + 512 ≤ length work → ys ≡ words_of c
    → Wrote work (put (512 * n + 1) (512 * n + 1 + 5 - (512 * n + 1)) ys (set work (512 * n) link)) n (set (set (fields_at work n) 0 (link ∷ [])) 1 (words_of c))
origin_wrote work ys n link c h s =
    rw s
    (wrote_then work (set work (512 * n) link) _ n (λ fs. set fs 1 (words_of c)) (set (fields_at work n) 0 (link ∷ []))
    (wrote_one work n 0 link (512 * n) (omega arith) refl h (omega arith))
    (wrote_whole (set work (512 * n) link) (words_of c) n 1 (512 * n + 1) (512 * n + 1 + 5) (omega arith) (length_words c) (rw (length-set work (512 * n) link) h) (omega arith) (omega arith)))

-- the finish and the packed path
pub path_wrote : (work ys : List ℕ) (n i finish : ℕ) (packed : List ℕ) → 512 * n + 512 ≤ length work → i < 12 → length packed ≡ 20 → ys ≡ packed
    → Wrote work (put (512 * n + (200 + 20 * i)) (512 * n + (200 + 20 * i) + 20 - (512 * n + (200 + 20 * i))) ys (set work (512 * n + (18 + i)) finish)) n (with_path (fields_at work n) i finish packed)
path_wrote work ys n i finish packed h b s q =
    let d : 512 * n + (200 + 20 * i) + 20 - (512 * n + (200 + 20 * i)) ≡ 20 = omega arith in
    let w : List ℕ = set work (512 * n + (18 + i)) finish in
    let z : length w ≡ length work = length-set work (512 * n + (18 + i)) finish in
    let x : List ℕ = put i 1 (finish ∷ []) (get_or (fields_at work n) 3 []) in
    let y : get_or (set (fields_at work n) 3 x) 7 [] ≡ get_or (fields_at work n) 7 [] = get_or-set_other (fields_at work n) 3 7 x [] (λ u. omega arith) in
    rw (q, d, set_put (get_or (fields_at work n) 3 []) i finish (omega (arith, length_field work n 3 (omega arith) h)), ← y)
    (wrote_then work w _ n (λ fs. set fs 7 (put (20 * i) 20 packed (get_or fs 7 []))) (set (fields_at work n) 3 (put i 1 (finish ∷ []) (get_or (fields_at work n) 3 [])))
    (wrote_word work n 3 i finish (512 * n + (18 + i)) (omega arith) (omega arith) h refl)
    (wrote w packed n 7 (20 * i) 20 (512 * n + (200 + 20 * i)) (omega arith) (omega arith) s (omega arith) refl))

-- the words of slot j as they were lent
pub slot_lent : (work : List ℕ) (n j : ℕ) → j < 12 → part (512 * n + (32 + 14 * j)) (512 * n + (32 + 14 * j) + 14 - (512 * n + (32 + 14 * j))) work ≡ slot_in (fields_at work n) j
unfolding fields_at
slot_lent work n j b =
    part_lent (512 * n + (32 + 14 * j)) 14 work
    ∙ sym (part_part (512 * n) 512 (32 + 14 * j) 14 work (omega arith))
    ∙ field_part (part (512 * n) 512 work) refl 6 (14 * j) 14 (32 + 14 * j) (omega arith) (omega arith) refl

-- a slot that is filled or emptied
pub slot_wrote : (work ys : List ℕ) (n j : ℕ) (slot : Option Candidate) → 512 * n + 512 ≤ length work → j < 12
    → length ys ≡ length (part (512 * n + (32 + 14 * j)) (512 * n + (32 + 14 * j) + 14 - (512 * n + (32 + 14 * j))) work)
    → ys ≡ slot_words slot (part (512 * n + (32 + 14 * j)) (512 * n + (32 + 14 * j) + 14 - (512 * n + (32 + 14 * j))) work)
    → Wrote work (put (512 * n + (32 + 14 * j)) (512 * n + (32 + 14 * j) + 14 - (512 * n + (32 + 14 * j))) ys work) n (with_slot (fields_at work n) j (slot_words slot (slot_in (fields_at work n) j)))
slot_wrote work ys n j slot h b l q =
    let o : ℕ = 512 * n + (32 + 14 * j) in
    let d : 512 * n + (32 + 14 * j) + 14 - (512 * n + (32 + 14 * j)) ≡ 14 = omega arith in
    let z : length ys ≡ 14 = lent_size o (o + 14) ys work (omega arith) (omega arith) l ∙ d in
    rw (d, ← slot_lent work n j b, ← q)
    (wrote work ys n 6 (14 * j) 14 (512 * n + (32 + 14 * j)) (omega arith) (omega arith) z h refl)

-- two stores and twelve words over a slot
pub slot_filled : (s ys tasks : List ℕ) (a b : ℕ) → length s ≡ 14 → ys ≡ tasks → put 2 12 ys (set (set s 0 a) 1 b) ≡ a ∷ b ∷ tasks
slot_filled (x ∷ y ∷ s) ys tasks a b l e = rw (e, drop_of_length-le s {i = 12} (omega arith), append-nil)
slot_filled [] ys tasks a b l e = absurd (omega arith)
slot_filled (x ∷ []) ys tasks a b l e = absurd (omega arith)

-- an earlier record copied
pub copy_wrote : (work w : List ℕ) (from to : ℕ) → from < to → 512 * to + 512 ≤ length work → w ≡ paste work (512 * to) (drop (512 * from) work) (512 * from + 512 - 512 * from)
    → Wrote work w to (fields_at work from)
unfolding fields_at
copy_wrote work w from to l h e =
    let d : 512 * from + 512 - 512 * from ≡ 512 = omega arith in
    rw (e, d, append_assoc (take (512 * to) work) (take 512 (drop (512 * from) work)) (drop (512 * to + 512) work), ← drop-drop 512 (512 * to) work)
    (wrote_record work (part (512 * from) 512 work) to (length_part (512 * from) 512 work (omega arith)) h)

-- A ROOT'S RECORD
fields_whole : (rec ys : List ℕ) (f o e : ℕ) → f < 10 → length rec ≡ 512 → length ys ≡ get_or layout f 0 → o ≡ offset layout f → e ≡ o + get_or layout f 0
    → fields (put o (e - o) ys rec) ≡ set (fields rec) f ys
unfolding fields
fields_whole rec ys f o e g l s q r =
    let d : e - o ≡ get_or layout f 0 = omega arith in
    let z : offset layout f + 0 ≡ offset layout f = add-zero (offset layout f) in
    rw (d, q)
    (rw (z, put_whole (get_or layout f 0) ys (get_or (cut layout rec) f []) (omega (arith, length_of_field rec refl l f g)))
    at (cut_inside layout f 0 (get_or layout f 0) ys rec g (omega arith) s (omega arith)))

fields_one : (rec : List ℕ) (f o v : ℕ) → f < 10 → get_or layout f 0 ≡ 1 → length rec ≡ 512 → o ≡ offset layout f → fields (set rec o v) ≡ set (fields rec) f (v ∷ [])
fields_one rec f o v g s l q =
    let d : o + 1 - o ≡ 1 = omega arith in
    rw (set_put rec o v (omega (arith, offset_sum layout f)))
    (rw d at (fields_whole rec (v ∷ []) f o (o + 1) g l (sym s) q (omega arith)))

blank_root : (tasks : List ℕ) (row : ℕ) (closed : List ℕ) → set (set (set (fields (replicate 512 0)) 2 tasks) 8 closed) 4 (row ∷ []) ≡ root_fields tasks row closed
unfolding fields root_fields
blank_root tasks row closed = refl

pub root_record : (rec ys zs tasks closed : List ℕ) (row : ℕ) → rec ≡ replicate 512 0 → ys ≡ tasks → zs ≡ closed → length tasks ≡ 12 → length closed ≡ 12
    → fields (set (put 440 12 zs (put 6 12 ys rec)) 30 row) ≡ root_fields tasks row closed
root_record rec ys zs tasks closed row e y x s t =
    let z : List ℕ = replicate 512 0 in
    let k : length z ≡ 512 = length-replicate {A = ℕ} 512 0 in
    let r1 : List ℕ = put 6 12 tasks z in
    let k1 : length r1 ≡ 512 = length_put 6 12 tasks z s (omega arith) ∙ k in
    let r2 : List ℕ = put 440 12 closed r1 in
    let k2 : length r2 ≡ 512 = length_put 440 12 closed r1 t (omega arith) ∙ k1 in
    rw (e, y, x)
    (fields_one r2 4 30 row (omega arith) refl k2 refl
    ∙ ap (λ (l : List (List ℕ)). set l 4 (row ∷ [])) (fields_whole r1 closed 8 440 452 (omega arith) k1 t refl refl)
    ∙ ap (λ (l : List (List ℕ)). set (set l 8 closed) 4 (row ∷ [])) (fields_whole z tasks 2 6 18 (omega arith) k s refl refl)
    ∙ blank_root tasks row closed)

pub root_wrote : (work ys : List ℕ) (n : ℕ) (fs : List (List ℕ)) → 512 * n + 512 ≤ length work → length ys ≡ 512 → fields ys ≡ fs
    → Wrote work (put (512 * n) (512 * n + 512 - 512 * n) ys work) n fs
root_wrote work ys n fs h l e =
    let d : 512 * n + 512 - 512 * n ≡ 512 = omega arith in
    rw (d, ← e) (wrote_record work ys n l h)
