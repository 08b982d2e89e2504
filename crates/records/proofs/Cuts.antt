-- The frame: words put anew inside one field change that field of the cut list and no other. Assumes nothing.
use Rattle.std.proofs.Common.{◌≡◌, refl, ◌∙◌, ap, List, [], ◌∷◌, ◌++◌, append_assoc, ℕ, zero, suc, ◌+◌, ◌-◌, ◌<◌, ◌≤◌, add_assoc, arith, add-one, length, get_or, set, take, drop, length-drop, length-append, take_at, drop_at, take-add, drop-drop, length-take-le, get_or-take, get_or-drop, take-take}
use Rattle.std.proofs.lemmas.List.{set_split, take-append-le, drop-append-le, drop-take}
use Rattle.std.proofs.Math.Seq.{take-append-add, drop-append-add}
use Rattle.deck.specs.Lists.{sum}
use Rattle.records.specs.Cut.{part, put, offset, cut}

put_after : (n o k : ℕ) (ys xs : List ℕ) → put (n + o) k ys xs ≡ take n xs ++ put o k ys (drop n xs)
put_after n o k ys xs = rw (take-add n o xs, drop-drop o n xs, append_assoc)

-- a store is a part of one word put anew
pub set_put : (xs : List ℕ) (i v : ℕ) → i < length xs → set xs i v ≡ put i 1 (v ∷ []) xs
set_put xs i v h = set_split xs i v h ∙ rw (drop-drop 1 i xs, add-one i)

pub length_part : (a k : ℕ) (xs : List ℕ) → a + k ≤ length xs → length (part a k xs) ≡ k
length_part a k xs h = length-take-le k (drop a xs) (rw (length-drop a xs) (omega arith))

pub length_put : (a k : ℕ) (ys xs : List ℕ) → length ys ≡ k → a + k ≤ length xs → length (put a k ys xs) ≡ length xs
length_put a k ys xs e h = simp (length-append, length-drop, length-take-le a xs (omega arith)) (omega arith)

-- the first n words, and the words from b on
take_put : (n j k r : ℕ) (ys zs : List ℕ) → length ys ≡ k → n ≡ j + (k + r) → n ≤ length zs → take n (put j k ys zs) ≡ put j k ys (take n zs)
take_put n j k r ys zs e s h =
    let p : length (take j zs) ≡ j = length-take-le j zs (omega arith) in
    let t : take (j + (k + r)) (put j k ys zs) ≡ take j zs ++ (ys ++ take r (drop k (drop j zs))) =
    rw (e, p) at (take-append-add (take j zs) (ys ++ drop k (drop j zs)) (length ys + r) ∙ ap (λ (l : List ℕ). take j zs ++ l) (take-append-add ys (drop k (drop j zs)) r)) in
    let u : take j (take (j + (k + r)) zs) ≡ take j zs = take-take j (j + (k + r)) zs (omega arith) in
    rw (s, t, u, drop-take j (k + r) zs, drop-take k r (drop j zs))

drop_put : (b a k m : ℕ) (ys xs : List ℕ) → length ys ≡ k → b ≡ a + (k + m) → a + k ≤ length xs → drop b (put a k ys xs) ≡ drop b xs
drop_put b a k m ys xs e s h =
    let p : length (take a xs) ≡ a = length-take-le a xs (omega arith) in
    let t : drop (a + (k + m)) (put a k ys xs) ≡ drop m (drop k (drop a xs)) =
    rw (e, p) at (drop-append-add (take a xs) (ys ++ drop k (drop a xs)) (length ys + m) ∙ drop-append-add ys (drop k (drop a xs)) m) in
    rw (s, t, drop-drop m k (drop a xs), drop-drop (k + m) a xs)

-- PARTS
-- a part put anew inside another part
pub part_inside : (a n j k : ℕ) (ys xs : List ℕ) → length ys ≡ k → j + k ≤ n → a + n ≤ length xs → part a n (put (a + j) k ys xs) ≡ put j k ys (part a n xs)
part_inside a n j k ys xs e b h =
    let p : length (take a xs) ≡ a = length-take-le a xs (omega arith) in
    rw (put_after a j k ys xs, drop_at (take a xs) (put j k ys (drop a xs)) a p)
    (take_put n j k (n - (j + k)) ys (drop a xs) e (omega arith) (rw (length-drop a xs) (omega arith)))

-- a part put anew is that part
pub part_here : (a k : ℕ) (ys xs : List ℕ) → length ys ≡ k → a + k ≤ length xs → part a k (put a k ys xs) ≡ ys
part_here a k ys xs e h =
    let p : length (take a xs) ≡ a = length-take-le a xs (omega arith) in
    rw (drop_at (take a xs) (ys ++ drop k (drop a xs)) a p) (take_at ys (drop k (drop a xs)) k e)

-- a part put anew behind another part, and in front of it
pub part_behind : (b n a k : ℕ) (ys xs : List ℕ) → b + n ≤ a → a ≤ length xs → part b n (put a k ys xs) ≡ part b n xs
part_behind b n a k ys xs g h =
    let p : length (take a xs) ≡ a = length-take-le a xs h in
    let q : b + (a - b) ≡ a = omega arith in
    let l : length (drop b (take a xs)) ≡ a - b = length-drop b (take a xs) ∙ rw p in
    let s : drop b (take a xs) ≡ take (a - b) (drop b xs) = rw q at (drop-take b (a - b) xs) in
    rw (drop-append-le b (take a xs) (ys ++ drop k (drop a xs)) (omega arith), take-append-le n (drop b (take a xs)) (ys ++ drop k (drop a xs)) (omega arith), s)
    (take-take n (a - b) (drop b xs) (omega arith))

pub drop_before : (b a k : ℕ) (ys xs : List ℕ) → length ys ≡ k → a + k ≤ b → a + k ≤ length xs → drop b (put a k ys xs) ≡ drop b xs
drop_before b a k ys xs e g h = drop_put b a k (b - (a + k)) ys xs e (omega arith) h

pub part_before : (b n a k : ℕ) (ys xs : List ℕ) → length ys ≡ k → a + k ≤ b → a + k ≤ length xs → part b n (put a k ys xs) ≡ part b n xs
part_before b n a k ys xs e g h = rw (drop_before b a k ys xs e g h)

-- FIELDS
pub offset_sum : (ns : List ℕ) (i : ℕ) → offset ns i + get_or ns i 0 ≤ sum ns
offset_sum [] zero = omega arith
offset_sum [] (suc i) = omega arith
offset_sum (n ∷ ns) zero = omega arith
offset_sum (n ∷ ns) (suc i) = omega (arith, offset_sum ns i)

-- THE FRAME: words put anew inside field i; every other field is as it was
pub cut_inside : (ns : List ℕ) (i j k : ℕ) (ys xs : List ℕ) → i < length ns → j + k ≤ get_or ns i 0 → length ys ≡ k → sum ns ≤ length xs
    → cut ns (put (offset ns i + j) k ys xs) ≡ set (cut ns xs) i (put j k ys (get_or (cut ns xs) i []))
cut_inside [] i j k ys xs h b e s = absurd (omega arith)
cut_inside (n ∷ ns) zero j k ys xs h b e s =
    let z : 0 + j ≡ j = omega arith in
    rw (z, take_put n j k (n - (j + k)) ys xs e (omega arith) (omega arith), drop_before n j k ys xs e b (omega arith))
cut_inside (n ∷ ns) (suc i) j k ys xs h b e s =
    let l : length (take n xs) ≡ n = length-take-le n xs (omega arith) in
    let r : List ℕ = put (offset ns i + j) k ys (drop n xs) in
    rw (add_assoc n (offset ns i) j, put_after n (offset ns i + j) k ys xs, take_at (take n xs) r n l, drop_at (take n xs) r n l)
    (ap (λ (t : List (List ℕ)). take n xs ∷ t) (cut_inside ns i j k ys (drop n xs) (omega arith) b e (rw (length-drop n xs) (omega arith))))

-- a field is the part that begins at its offset
pub cut_at : (ns : List ℕ) (i : ℕ) (xs : List ℕ) → i < length ns → get_or (cut ns xs) i [] ≡ part (offset ns i) (get_or ns i 0) xs
cut_at [] i xs h = absurd (omega arith)
cut_at (n ∷ ns) zero xs h = refl
cut_at (n ∷ ns) (suc i) xs h = cut_at ns i (drop n xs) (omega arith) ∙ rw (drop-drop (offset ns i) n xs)

-- a word of a part
pub part_get : (a k j : ℕ) (xs : List ℕ) → j < k → get_or (part a k xs) j 0 ≡ get_or xs (a + j) 0
part_get a k j xs h = get_or-take k (drop a xs) j 0 h ∙ get_or-drop a xs j 0

-- a part of a part
pub part_part : (a n b k : ℕ) (xs : List ℕ) → b + k ≤ n → part b k (part a n xs) ≡ part (a + b) k xs
part_part a n b k xs h =
    let q : b + (n - b) ≡ n = omega arith in
    let s : drop b (take n (drop a xs)) ≡ take (n - b) (drop b (drop a xs)) = rw q at (drop-take b (n - b) (drop a xs)) in
    rw (s, take-take k (n - b) (drop b (drop a xs)) (omega arith), drop-drop b a xs)

-- a part from a to a + k that was lent and came back as ys; as it was lent; its length
pub lent : (a k : ℕ) (ys zs xs : List ℕ) → ys ≡ zs → put a (a + k - a) ys xs ≡ put a k zs xs
lent a k ys zs xs e =
    let d : a + k - a ≡ k = omega arith in
    rw (d, e)

pub part_lent : (a k : ℕ) (xs : List ℕ) → part a (a + k - a) xs ≡ part a k xs
part_lent a k xs =
    let d : a + k - a ≡ k = omega arith in
    rw d
