-- Document 01's number and values for each case of an answer that is an enum: first the cause, 0 where the call is accepted,
-- then the values, zeros on a refusal. The numbers tell the cases apart (proofs/Told). Assumes nothing.
use Rattle.std.specs.Prelude.{ℕ, List, [], ◌∷◌, ◌++◌, replicate, Option, None, Some, Result, Ok, Err, ℤ, pos}
use Rattle.deck.specs.Causes.{number}
use Rattle.deck.specs.declared.cause.Cause.{Cause}
use Rattle.deck.specs.declared.Collision.{Collision}
use Rattle.deck.specs.declared.Collision.TheVariants.{Place, Move}
use Rattle.deck.specs.declared.Assignment.{Assignment}
use Rattle.deck.specs.declared.SearchAnswer.{SearchAnswer}
use Rattle.deck.specs.declared.SearchAnswer.TheVariants.{Plan, NoPlan, Spent}

-- a task list of 12 with no task
abbrev pub no_tasks : List ℕ
no_tasks = replicate 12 255

-- the number of a cause, 0 for none
abbrev pub cause_number : Option Cause → ℕ
cause_number None = 0
cause_number (Some c) = number c

-- "Each returns its number, zeros": a cause and n zeros
abbrev pub refusal : Cause → ℕ → List ℕ
refusal c n = number c ∷ replicate n 0

-- cause; 1 if there is a number; the number
abbrev pub found_numbers : Result (Option ℕ) Cause → List ℕ
found_numbers (Ok (Some n)) = 0 ∷ 1 ∷ n ∷ []
found_numbers (Ok None) = 0 ∷ 0 ∷ 0 ∷ []
found_numbers (Err c) = refusal c 2

-- cause; 1 if there is a path; its finish
abbrev pub path_numbers : Result (Option ℕ) Cause → List ℕ
path_numbers = found_numbers

-- cause; 1 if there is an assignment; its sum
abbrev pub assignment_numbers : Result (Option Assignment) Cause → List ℕ
assignment_numbers (Ok (Some a)) = found_numbers (Ok (Some a.sum))
assignment_numbers (Ok None) = found_numbers (Ok None)
assignment_numbers (Err c) = found_numbers (Err c)

-- an answer's sum, or none, or the cause; its task list; its prices
abbrev pub sum_told : Result (Option Assignment) Cause → Result (Option ℕ) Cause
sum_told (Ok (Some a)) = Ok (Some a.sum)
sum_told (Ok None) = Ok None
sum_told (Err c) = Err c

abbrev pub tasks_told : Result (Option Assignment) Cause → List ℕ
tasks_told (Ok (Some a)) = a.tasks
tasks_told (Ok None) = no_tasks
tasks_told (Err c) = no_tasks

abbrev pub no_prices : List ℤ
no_prices = replicate 12 (pos 0)

abbrev pub rows_told : Result (Option Assignment) Cause → List ℤ
rows_told (Ok (Some a)) = a.rows
rows_told (Ok None) = no_prices
rows_told (Err c) = no_prices

abbrev pub columns_told : Result (Option Assignment) Cause → List ℤ
columns_told (Ok (Some a)) = a.columns
columns_told (Ok None) = no_prices
columns_told (Err c) = no_prices

-- "kind (0 place, 1 move), t, i, j, i's place at t and, for a move, i's place at t + 1 (0 for a place collision)"
abbrev pub collision_values : Collision → List ℕ
collision_values (Place t i j u) = 0 ∷ t ∷ i.0 ∷ j.0 ∷ u ∷ 0 ∷ []
collision_values (Move t i j u v) = 1 ∷ t ∷ i.0 ∷ j.0 ∷ u ∷ v ∷ []

-- cause; 1 if there is a collision; its values
abbrev pub collision_numbers : Result (Option Collision) Cause → List ℕ
collision_numbers (Ok (Some c)) = 0 ∷ 1 ∷ collision_values c
collision_numbers (Ok None) = replicate 8 0
collision_numbers (Err c) = refusal c 7

-- cause; kind: 0 plan, 1 none, 2 spent, 3 refused; flowtime, nodes made, bound, and the task list: "255 .. throughout unless a plan",
-- "flowtime (0 unless plan)", "bound (flowtime for a plan, 0 for none)"
abbrev pub search_numbers : Result SearchAnswer Cause → List ℕ
search_numbers (Ok (Plan tasks f n b)) = 0 ∷ 0 ∷ f ∷ n ∷ b ∷ tasks
search_numbers (Ok (NoPlan n)) = 0 ∷ 1 ∷ 0 ∷ n ∷ 0 ∷ no_tasks
search_numbers (Ok (Spent n b)) = 0 ∷ 2 ∷ 0 ∷ n ∷ b ∷ no_tasks
search_numbers (Err c) = number c ∷ 3 ∷ 0 ∷ 0 ∷ 0 ∷ no_tasks

-- cause; 1 for yes; the flowtime
abbrev pub check_numbers : Result (Option ℕ) Cause → List ℕ
check_numbers = found_numbers
