-- The numbers of an answer tell its cases apart: answers with the same numbers are the same. So what a call promises in numbers
-- says which case its answer is. Assumes nothing.
use Rattle.std.proofs.Common.{ℕ, zero, suc, List, [], ◌∷◌, length, get_or, drop, ℤ, Option, None, Some, Result, Ok, Err, ◌≡◌, refl, sym, ap, ◌∙◌}
use Rattle.deck.specs.Sheet.{read, carrier}
use Rattle.deck.specs.Causes.{number}
use Rattle.deck.specs.Calls.{path_cause, path_answer_for, PathCall, assignment_cause, assignment_answer_for, AssignmentCall, search_answer, SearchCall}
use Rattle.deck.specs.Numbers.{found_numbers, path_numbers, assignment_numbers, sum_told, collision_numbers, search_numbers}
use Rattle.deck.specs.declared.Carrier.{Carrier}
use Rattle.deck.specs.declared.Task.{Task}
use Rattle.deck.specs.declared.Assignment.{Assignment}
use Rattle.deck.specs.declared.Collision.{Collision}
use Rattle.deck.specs.declared.Collision.TheVariants.{Place, Move}
use Rattle.deck.specs.declared.SearchAnswer.{SearchAnswer}
use Rattle.deck.specs.declared.SearchAnswer.TheVariants.{Plan, NoPlan, Spent}
use Rattle.deck.specs.declared.cause.Cause.{Cause}
use Rattle.deck.specs.declared.cause.Cause.TheVariants.{ShortSheet, BadHeader, BadDirectory, BadGrid, BadStart, BadGoal, SharedLastGoal, BadNumber, BadRecords, BadCount, ShortWorkspace, WrongLength}

-- what can be read back from its numbers is told by them
told : {A : Type 0} (numbers : A → List ℕ) (back : List ℕ → A) → ((a : A) → back (numbers a) ≡ a) → (a b : A) → numbers a ≡ numbers b → a ≡ b
told numbers back law a b e = sym (law a) ∙ ap back e ∙ law b

-- CAUSES
abbrev named : ℕ → Cause
named n =
    get_or (BadCount ∷ ShortSheet ∷ BadHeader ∷ BadDirectory ∷ BadGrid ∷ BadStart ∷ BadGoal ∷ SharedLastGoal ∷ BadNumber ∷ BadRecords ∷ ShortWorkspace ∷ WrongLength ∷ BadCount ∷ []) n
    BadCount

named_lem : (c : Cause) → named (number c) ≡ c
named_lem ShortSheet = refl
named_lem BadHeader = refl
named_lem BadDirectory = refl
named_lem BadGrid = refl
named_lem BadStart = refl
named_lem BadGoal = refl
named_lem SharedLastGoal = refl
named_lem BadNumber = refl
named_lem BadRecords = refl
named_lem BadCount = refl
named_lem ShortWorkspace = refl
named_lem WrongLength = refl

-- the case that numbers are those of: cause; 1 if there is something; its values
abbrev case : {A : Type 0} → (List ℕ → A) → A → (ℕ → A) → List ℕ → A
case found none refused [] = none
case found none refused (suc c ∷ l) = refused (suc c)
case found none refused (zero ∷ []) = none
case found none refused (zero ∷ zero ∷ l) = none
case found none refused (zero ∷ suc k ∷ l) = found l

refused_case : {A : Type 0} (found : List ℕ → A) (none : A) (refused : ℕ → A) (c : Cause) (l : List ℕ)
    → case found none refused (number c ∷ l) ≡ refused (number c)
refused_case f n r ShortSheet l = refl
refused_case f n r BadHeader l = refl
refused_case f n r BadDirectory l = refl
refused_case f n r BadGrid l = refl
refused_case f n r BadStart l = refl
refused_case f n r BadGoal l = refl
refused_case f n r SharedLastGoal l = refl
refused_case f n r BadNumber l = refl
refused_case f n r BadRecords l = refl
refused_case f n r BadCount l = refl
refused_case f n r ShortWorkspace l = refl
refused_case f n r WrongLength l = refl

-- A NUMBER OR NONE: one carrier's least path, the plan check, the sum of a least assignment
abbrev found_in : List ℕ → Result (Option ℕ) Cause
found_in = case (λ l. Ok (Some (get_or l 0 0))) (Ok None) (λ c. Err (named c))

found_in_lem : (a : Result (Option ℕ) Cause) → found_in (found_numbers a) ≡ a
found_in_lem (Ok (Some n)) = refl
found_in_lem (Ok None) = refl
found_in_lem (Err c) = refused_case _ _ (λ k. Err (named k)) c (0 ∷ 0 ∷ []) ∙ ap (λ x. Err x) (named_lem c)

pub found_told : {a b : Result (Option ℕ) Cause} → found_numbers a ≡ found_numbers b → a ≡ b
found_told {a} {b} = told found_numbers found_in found_in_lem a b

-- the numbers of an answer with an assignment are those of its sum
pub sum_numbers : (a : Result (Option Assignment) Cause) → assignment_numbers a ≡ found_numbers (sum_told a)
sum_numbers (Ok (Some a)) = refl
sum_numbers (Ok None) = refl
sum_numbers (Err c) = refl

pub path_answered : {s : List ℕ} {i : Carrier} {j : Task} {work out rs work' out' : List ℕ} (a : Result (Option ℕ) Cause)
    → PathCall s i j work out rs (path_numbers a) work' out'
    → a ≡ path_answer_for (path_cause s i j (length work) (length out) rs) (read s) i j rs
path_answered a c = found_told c.answered

-- THE LEAST ASSIGNMENT: its sum, or none, or the cause
pub assignment_told : (a b : Result (Option Assignment) Cause) → assignment_numbers a ≡ assignment_numbers b → sum_told a ≡ sum_told b
assignment_told a b e = found_told (sym (sum_numbers a) ∙ e ∙ sum_numbers b)

pub assignment_answered : {m : ℕ} {table tasks : List ℕ} {rows columns : List ℤ} (a : Result (Option Assignment) Cause)
    → AssignmentCall m table (assignment_numbers a) tasks rows columns
    → sum_told a ≡ assignment_answer_for (assignment_cause m table) m table
assignment_answered a c = found_told (sym (sum_numbers a) ∙ c.answered)

-- THE FIRST COLLISION
abbrev collision_of : ℕ → (t i j u v : ℕ) → Collision
collision_of zero t i j u v = Place t (carrier i) (carrier j) u
collision_of (suc k) t i j u v = Move t (carrier i) (carrier j) u v

abbrev collision_in : List ℕ → Result (Option Collision) Cause
collision_in =
    case (λ l. Ok (Some (collision_of (get_or l 0 0) (get_or l 1 0) (get_or l 2 0) (get_or l 3 0) (get_or l 4 0) (get_or l 5 0)))) (Ok None)
    (λ c. Err (named c))

collision_in_lem : (a : Result (Option Collision) Cause) → collision_in (collision_numbers a) ≡ a
collision_in_lem (Ok (Some (Place t i j u))) = refl
collision_in_lem (Ok (Some (Move t i j u v))) = refl
collision_in_lem (Ok None) = refl
collision_in_lem (Err c) = refused_case _ _ (λ k. Err (named k)) c (0 ∷ 0 ∷ 0 ∷ 0 ∷ 0 ∷ 0 ∷ 0 ∷ []) ∙ ap (λ x. Err x) (named_lem c)

pub collision_told : {a b : Result (Option Collision) Cause} → collision_numbers a ≡ collision_numbers b → a ≡ b
collision_told {a} {b} = told collision_numbers collision_in collision_in_lem a b

-- THE SEARCH
abbrev search_of : ℕ → List ℕ → Result SearchAnswer Cause
search_of zero l = Ok (Plan (drop 5 l) (get_or l 2 0) (get_or l 3 0) (get_or l 4 0))
search_of (suc zero) l = Ok (NoPlan (get_or l 3 0))
search_of (suc (suc zero)) l = Ok (Spent (get_or l 3 0) (get_or l 4 0))
search_of (suc (suc (suc k))) l = Err (named (get_or l 0 0))

abbrev search_in : List ℕ → Result SearchAnswer Cause
search_in l = search_of (get_or l 1 0) l

search_in_lem : (a : Result SearchAnswer Cause) → search_in (search_numbers a) ≡ a
search_in_lem (Ok (Plan tasks f n b)) = refl
search_in_lem (Ok (NoPlan n)) = refl
search_in_lem (Ok (Spent n b)) = refl
search_in_lem (Err c) = ap (λ x. Err x) (named_lem c)

pub search_told : {a b : Result SearchAnswer Cause} → search_numbers a ≡ search_numbers b → a ≡ b
search_told {a} {b} = told search_numbers search_in search_in_lem a b

pub search_answered : {s work out work' out' : List ℕ} (a : Result SearchAnswer Cause) → SearchCall s work out (search_numbers a) work' out'
    → a ≡ search_answer s (length work) (length out)
search_answered a c = search_told c.answered
