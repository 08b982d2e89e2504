-- The tournament of the slots: which of them comes first, in one word for each number up to the latest root. The numbers are a
-- binary tree: under number k are 2 k + 1 and 2 k + 2. Assumes nothing.
use Rattle.std.specs.Prelude.{ℕ, zero, suc, ◌+◌, ◌*◌, ◌-◌, ◌<◌, ◌≤◌, ◌/◌, ◌%◌, ◌≡◌, ◌⊎◌, ◌≢◌, cond, get_or, ltb, Option, None, Some, List, [], ◌∷◌}
use mathlib.Core.List.{Memᴰ as Mem}
use Rattle.deck.specs.Lists.{count_from}
use Rattle.deck.specs.Calls.{task_list}
use Rattle.meaning.specs.Meaning.{Unbarred}
use Rattle.meaning.specs.Sorted.{Sorted}
use Rattle.records.specs.Record.{fields_at, row_in, tournament_in, key_at}
use Rattle.roots.specs.Slots.{slots_at, PartsHold}
use Rattle.roots.specs.Choices.{Chosen, first_of, over_slots, ChosenOf}
use Rattle.roots.specs.declared.Choice.{Choice}

-- THE WORD of a number is 16 times the choice among its own slots and those under it, and the choice among its own

-- a choice as a number
abbrev pub code_of : Option Choice → ℕ
code_of None = 0
code_of (Some c) = 16 * c.n + c.j + 1

abbrev pub choice_of : ℕ → Option Choice
choice_of zero = None
choice_of (suc c) = Chosen (c / 16) (c % 16)

-- a choice among the slots of one number, as a number
abbrev pub slot_code : Option Choice → ℕ
slot_code None = 0
slot_code (Some c) = c.j + 1

abbrev pub slot_choice : ℕ → ℕ → Option Choice
slot_choice k zero = None
slot_choice k (suc j) = Chosen k j

-- the choice among the slots of number k and those under it
unfoldable pub win_at : List ℕ → ℕ → Option Choice
win_at work k = choice_of (tournament_in (fields_at work k) / 16)

-- the choice among the slots of number k
unfoldable pub own_at : List ℕ → ℕ → Option Choice
own_at work k = slot_choice k (tournament_in (fields_at work k) % 16)

-- past the numbers there is none
unfoldable pub win_below : List ℕ → ℕ → ℕ → Option Choice
win_below work latest k = cond (ltb k latest) (win_at work k) None

-- the first of two choices
abbrev pub first_choice : List ℕ → Option Choice → Option Choice → Option Choice
first_choice work None b = b
first_choice work (Some c) b = first_of work c.n c.j b

-- the first of the choices at number k: its own and those of the two numbers under it
unfoldable pub first_here : List ℕ → ℕ → ℕ → Option Choice
first_here work latest k = first_choice work (win_below work latest (2 * k + 2)) (first_choice work (win_below work latest (2 * k + 1)) (own_at work k))

-- the first of the slots of root n
unfoldable pub best_own : ℕ → List ℕ → ℕ → Option Choice
best_own m work n = over_slots work n (count_from (row_in (fields_at work n)) (m - row_in (fields_at work n))) None

-- a choice is of a slot of a number below latest
abbrev pub Below : ℕ → Option Choice → Type 0
Below latest None = Unit {0}
Below latest (Some c) = (c.n < latest) × (c.j < 12)

-- a choice is of a slot of number k
abbrev pub Of : ℕ → Option Choice → Type 0
Of k None = Unit {0}
Of k (Some c) = (c.n ≡ k) × (c.j < 12)

-- each choice is of a slot of a number below latest, and each own choice of one of its number
pub record Named (work : List ℕ) (latest : ℕ) : Type 0 where
  pub wins : (k : ℕ) → k < latest → Below latest (win_at work k)
  pub owns : (k : ℕ) → k < latest → Of k (own_at work k)

-- the tournament is played, but for number n
pub record PlayedBut (work : List ℕ) (latest n : ℕ) : Type 0 where
  pub named : Named work latest
  pub first : (k : ℕ) → k < latest → k ≢ n → win_at work k ≡ first_here work latest k

pub record Played (work : List ℕ) (latest : ℕ) : Type 0 where
  pub named : Named work latest
  pub first : (k : ℕ) → k < latest → win_at work k ≡ first_here work latest k

-- THE TOURNAMENT: it is played, with the first of its slots for each root and none for each other number
pub record Tournament (m : ℕ) (work : List ℕ) (latest : ℕ) (roots : List ℕ) : Type 0 where
  pub played : Played work latest
  pub own : (k : ℕ) → Mem k roots → own_at work k ≡ best_own m work k
  pub others : (k : ℕ) → k < latest → (own_at work k ≡ None) ⊎ Mem k roots

-- WRITES

-- no word of the records of numbers but that of the tournament is written
pub record OnlyTournament (before after : List ℕ) (latest : ℕ) : Type 0 where
  pub fields : (k f : ℕ) → f ≢ 5 → get_or (fields_at after k) f [] ≡ get_or (fields_at before k) f []
  pub keys : (limit k : ℕ) → latest ≤ limit → key_at limit after k ≡ key_at limit before k

-- the word of number k is put anew
pub record WordPut (before after : List ℕ) (k : ℕ) (win own : Option Choice) : Type 0 where
  pub same : OnlyTournament before after (k + 1)
  pub win_here : win_at after k ≡ win
  pub own_here : own_at after k ≡ own
  pub wins : (i : ℕ) → i ≢ k → win_at after i ≡ win_at before i
  pub owns : (i : ℕ) → i ≢ k → own_at after i ≡ own_at before i

-- the tournament is played again; each number's own choice is as it was
pub record Replayed (before after : List ℕ) (latest : ℕ) : Type 0 where
  pub same : OnlyTournament before after latest
  pub own : (k : ℕ) → own_at after k ≡ own_at before k
  pub played : Played after latest

-- the own choice of number n is found anew, and the tournament is played again
pub record Refreshed (m : ℕ) (before after : List ℕ) (latest n : ℕ) : Type 0 where
  pub same : OnlyTournament before after latest
  pub own : own_at after n ≡ best_own m before n
  pub others : (k : ℕ) → k ≢ n → own_at after k ≡ own_at before k
  pub played : Played after latest

-- the numbers from `from` to `to` have no choice
pub record Emptied (before after : List ℕ) (from to : ℕ) : Type 0 where
  pub same : OnlyTournament before after to
  pub old_win : (k : ℕ) → k < from → win_at after k ≡ win_at before k
  pub old_own : (k : ℕ) → k < from → own_at after k ≡ own_at before k
  pub new_win : (k : ℕ) → from ≤ k → k < to → win_at after k ≡ None
  pub new_own : (k : ℕ) → from ≤ k → k < to → own_at after k ≡ None

-- root `made` has entered the tournament after the numbers below latest, and the own choice of number n is found anew
pub record Entered (m : ℕ) (before after : List ℕ) (latest made n : ℕ) : Type 0 where
  pub same : OnlyTournament before after (made + 1)
  pub played : Played after (made + 1)
  pub own : own_at after made ≡ best_own m after made
  pub taken : own_at after n ≡ best_own m after n
  pub old : (k : ℕ) → k < latest → k ≢ n → k ≢ made → own_at after k ≡ own_at before k
  pub new : (k : ℕ) → latest ≤ k → k < made → k ≢ n → own_at after k ≡ None

-- THE INVARIANT: the slots of the roots, whose numbers fall from below latest, hold the assignments that remain, and the
-- tournament says which comes first
pub record SlotsHold (m : ℕ) (table : List ℕ) (work : List ℕ) (latest : ℕ) (rest : List (List ℕ)) : Type 0 where
  pub roots : List ℕ
  pub low : (n : ℕ) → Mem n roots → n < latest
  pub falls : Sorted (λ x y. y < x) roots
  pub parts : PartsHold m table work roots rest
  pub tournament : Tournament m work latest roots

-- a choice is that of the slot whose assignment comes first, or there is no slot
abbrev pub FirstSlot : ℕ → List ℕ → ℕ → Option Choice → Type 0
FirstSlot m work latest choice =
    (table : List ℕ) (rest : List (List ℕ)) (H : SlotsHold m table work latest rest) → ChosenOf m work H.roots (slots_at m work H.roots) choice

-- the next assignment, whose list of 12 is tasks, is taken from those that remain: the slots after it hold the others
pub record NextTaken (m : ℕ) (table after : List ℕ) (latest : ℕ) (rest : List (List ℕ)) (tasks : List ℕ) : Type 0 where
  pub next : List ℕ
  pub others : List (List ℕ)
  pub first : rest ≡ next ∷ others
  pub unbarred : Unbarred m table next
  pub list : tasks ≡ task_list next
  pub hold : SlotsHold m table after latest others
