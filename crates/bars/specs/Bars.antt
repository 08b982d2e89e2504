-- The constraints of one carrier, found by their time: records of five words, chained by carrier and time. Assumes nothing.
use mathlib.Core.List.{Memᴰ as Mem}
use Rattle.std.specs.Prelude.{ℕ, zero, suc, ◌+◌, ◌*◌, ◌/◌, ◌≤◌, ◌<◌, ◌≡◌, ◌≢◌, Bool, cond, ◌&&◌, List, [], ◌∷◌, length, get_or, false, Option, None, Some, eqb}
use Rattle.deck.specs.Calls.{record_word, constraint_at}
use Rattle.deck.specs.declared.Constraint.{Constraint}
use Rattle.deck.specs.declared.Constraint.TheVariants.{Place, Move}
use Rattle.bars.specs.Padded.{pad_of}

abbrev pub count_in : List ℕ → ℕ
count_in rs = length rs / 5

-- the record k is one of the carrier i, at the time t
abbrev pub own_at : List ℕ → ℕ → ℕ → ℕ → Bool
own_at rs i t k = eqb (record_word rs k 1) i && eqb (record_word rs k 4) t

-- one more than the last record below n that is the carrier's at t, and 0 for none
abbrev pub chain : List ℕ → ℕ → ℕ → ℕ → ℕ
chain rs i t zero = 0
chain rs i t (suc k) = let r = chain rs i t k in cond (own_at rs i t k) (suc k) r

-- of the first n records: for each time the last, and for each record the one before it at its time
pub record Linked (rs : List ℕ) (i n : ℕ) (heads links : List ℕ) : Type 0 where
  pub size : length heads ≡ 256
  pub room : n ≤ length links
  pub head : (t : ℕ) → t < 256 → get_or heads t 0 ≡ chain rs i t n
  pub link : (k : ℕ) → k < n → get_or links k 0 ≡ chain rs i (record_word rs k 4) k

abbrev pub Chained : List ℕ → ℕ → List ℕ → List ℕ → Type 0
Chained rs i heads links = Linked rs i (count_in rs) heads links

-- the times of the records are indexes of the heads
abbrev pub Timely : List ℕ → Type 0
Timely rs = (k : ℕ) → k < count_in rs → record_word rs k 4 < 256

-- the places of the records are indexes of a layer
abbrev pub OnLayer : ℕ → List ℕ → Type 0
OnLayer w rs =
    (k : ℕ) → k < count_in rs
    → (record_word rs k 2 < 1024) × (record_word rs k 3 < 1024) × (pad_of w (record_word rs k 2) < 1156) × (pad_of w (record_word rs k 3) < 1156)

-- the places of the constraint are indexes of a layer, and it is of a time that a word holds
abbrev pub OnPadded : ℕ → Constraint → Type 0
OnPadded w (Place a u t) = (u < 1024) × (pad_of w u < 1156)
OnPadded w (Move a u v t) = (u < 1024) × (v < 1024) × (pad_of w u < 1156) × (pad_of w v < 1156)

abbrev pub OnTime : Constraint → Type 0
OnTime (Place a u t) = t < 65536
OnTime (Move a u v t) = t < 65536

-- the carrier's constraints at t among the first n records, the last first
abbrev pub ours : List ℕ → ℕ → ℕ → ℕ → List Constraint
ours rs i t zero = []
ours rs i t (suc k) = let r = ours rs i t k in cond (own_at rs i t k) (constraint_at rs k ∷ r) r

abbrev pub ours_at : List ℕ → ℕ → ℕ → List Constraint
ours_at rs i t = ours rs i t (count_in rs)

-- such a constraint bars the move from u to v, or the place v
abbrev pub moves : ℕ → ℕ → Constraint → Bool
moves u v (Place a x s) = false
moves u v (Move a x y s) = eqb u x && eqb v y

abbrev pub stands_on : ℕ → Constraint → Bool
stands_on v (Place a x s) = eqb v x
stands_on v (Move a x y s) = false

-- the way by which a step from the padded place a comes to b: from above, left, itself, right, below; 5 for none of these
abbrev pub way_of : ℕ → ℕ → ℕ → ℕ
way_of wide a b =
    cond (eqb (a + wide) b) 0 (cond (eqb (a + 1) b) 1 (cond (eqb a b) 2 (cond (eqb a (b + 1)) 3 (cond (eqb a (b + wide)) 4 5))))

-- where that way's mask stands: past the masks for none
abbrev pub slot_of : ℕ → ℕ → ℕ → ℕ
slot_of wide a b = 1156 * way_of wide a b + b

-- where the mask of the way stands that the constraint bars, forward or backward: past the masks for a place constraint
abbrev pub move_slot : ℕ → Bool → Constraint → ℕ
move_slot w back (Place a x s) = 5780
move_slot w back (Move a x y s) = cond back (slot_of (w + 2) (pad_of w y) (pad_of w x)) (slot_of (w + 2) (pad_of w x) (pad_of w y))

-- the padded place that the constraint bars: the border's 0 of a move constraint
abbrev pub place_slot : ℕ → Constraint → ℕ
place_slot w (Place a x s) = pad_of w x
place_slot w (Move a x y s) = 0

-- the slot x, where a list of n entries has it
abbrev pub SlotIn : ℕ → ℕ → Option ℕ → Type 0
SlotIn n x None = n ≤ x
SlotIn n x (Some y) = (y ≡ x) × (x < n)

-- the entries at the slots of the constraints are 0, and the others are as they were
pub record Cleared (slot : Constraint → ℕ) (cs : List Constraint) (before after : List ℕ) : Type 0 where
  pub size : length after ≡ length before
  pub gone : (c : Constraint) → Mem c cs → get_or after (slot c) 0 ≡ 0
  pub same : (x : ℕ) → ((c : Constraint) → Mem c cs → slot c ≢ x) → get_or after x 0 ≡ get_or before x 0
  pub less : (x : ℕ) → get_or after x 0 ≤ get_or before x 0
