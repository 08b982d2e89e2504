-- The values of every answer fit words of 32 bits. Assumes nothing.
use Rattle.std.proofs.Common.{ℕ, zero, suc, ◌+◌, ◌*◌, ◌≤◌, ◌<◌, ◌≡◌, refl, sym, ⊎_elim, Bool, true, false, List, [], ◌∷◌, map, Option, None, Some, Result, Ok, Err, mul-le-mul_right, suc-mul, arith, length, get_or, leb, ◌∙◌}
use native.Mathlib.Decide.{dec_le}
use Rattle.std.proofs.lemmas.Bool.{cases_lt}
use Rattle.std.proofs.lemmas.Option.{none-some}
use Rattle.deck.specs.Lists.{below, sum, pieces}
use Rattle.deck.specs.Sheet.{Sheet, read, cause, sheet_cause, area, task, count_of, start_of}
use Rattle.deck.specs.Paths.{least_path, finish_of}
use Rattle.deck.specs.Assignments.{least_assignment, sum_of, entries, barred}
use Rattle.deck.specs.Search.{Node, State, Selected, Turn, done, more, Answer, plan, no_plan, spent, cheapest, to_make, extend, expand, turn_with, turn, onward, run, search_from, searched}
use Rattle.deck.specs.Planner.{problem, answer_or, plan_for, round_of}
use Rattle.deck.specs.Calls.{constraints_of, path_cause, path_found, path_answer_for, assignment_cause, sum_found, assignment_answer_for, search_cause, search_found, search_answer_for, search_answer}
use Rattle.deck.specs.declared.Constraint.{Constraint}
use Rattle.deck.specs.declared.Carrier.{Carrier}
use Rattle.deck.specs.declared.Task.{Task}
use Rattle.deck.specs.declared.Collision.TheVariants.{Place, Move}
use Rattle.deck.specs.declared.Collision.{Collision}
use Rattle.deck.specs.declared.SearchAnswer.{SearchAnswer}
use Rattle.deck.specs.declared.SearchAnswer.TheVariants.{Plan, NoPlan, Spent}
use Rattle.deck.specs.declared.cause.Cause.{Cause}
use Rattle.meaning.specs.Meaning.{◌at◌}
use Rattle.meaning.proofs.Lists.{length_below, get_or_below}
use Rattle.meaning.proofs.LeastPath.{LeastMeant, least_path_meant}
use Rattle.meaning.proofs.Accepted.{accepted, header_says, search_accepted, accepted_count, accepted_limit, accepted_horizon, accepted_start}
use Rattle.meaning.proofs.Dark.{most_carriers, short_horizon, with_carriers, round_has}
use Rattle.meaning.proofs.Assignments.{Least, least_assignment_lem, entries_length, entries_at}
use Rattle.optimal.specs.Plans.{Laws}
use Rattle.optimal.specs.Nodes.{IsNode}
use Rattle.optimal.specs.Invariant.{Invariant}
use Rattle.optimal.specs.Deck.{rules}
use Rattle.optimal.proofs.Invariant.{Chosen, Picked, start_inv, TurnRight, turn_right}
use Rattle.optimal.proofs.Select.{cheapest_picks}
use Rattle.optimal.proofs.Deck.{laws}
use Rattle.collision.specs.Meant.{Meant as CollisionMeant}
use Rattle.collision_scan.proofs.Words.{place_in_lem}
use Rattle.plan_check.specs.Meant.{PlanFor, Meant as CheckMeant}
use Rattle.path.proofs.Calling.{NoCause, no_cause}
use Rattle.assignment.proofs.Calls.{count_high}
use Rattle.sheet.proofs.Accepted.{area_range, last_goal_on_grid}
use Rattle.numbers.specs.Small.{word, SmallNumber, SmallFound, SmallSearch}
use Rattle.board_lines.specs.Board.{no_line}
use Rattle.board_lines.specs.Stands.{line_at, BoardStands}
use Rattle.board_lines.specs.Small.{SmallLine, SmallLines}
use Rattle.board_lines.specs.declared.Line.{Line}
use Rattle.board.specs.Call.{Written}

-- a sum of numbers of at most b
sum_most : (b : ℕ) (l : List ℕ) → ((i : ℕ) → i < length l → l at i ≤ b) → sum l ≤ length l * b
sum_most b [] h = omega arith
sum_most b (x ∷ l) h =
    let r = sum_most b l (λ i k. h (suc i) (omega arith)) in
    let f = h 0 (omega arith) in
    omega (arith, suc-mul (length l) b)

-- of at most twelve 16-bit numbers
sum_small : (l : List ℕ) → length l ≤ 12 → ((i : ℕ) → i < length l → l at i ≤ 65535) → sum l < word
sum_small l n h = omega (arith, sum_most 65535 l h, mul-le-mul_right 65535 n)

-- ONE CARRIER'S LEAST PATH: its finish is at most the horizon
module _ (s : List ℕ) (i : Carrier) (j : Task) (work out : ℕ) (rs : List ℕ) where
  path_small_for : (c : Option Cause) → c ≡ path_cause s i j work out rs → SmallNumber (path_answer_for c (read s) i j rs)
  unfolding path_answer_for path_found
  path_small_for None e = go (least_path (read s) i j (constraints_of rs)) (least_path_meant (read s) i j (constraints_of rs) start)
    where
      ok : NoCause s i j work out rs (sym e)
      ok = no_cause s i j work out rs (sym e)

      start : start_of (read s) i < area (read s)
      start = accepted_start s ok.accepted i.0 ok.carrier_in

      go : (o : Option (List ℕ)) → LeastMeant (read s) i j (constraints_of rs) o → SmallNumber (Ok (path_found (read s) j o))
      go None l = tt
      go (Some p) l = omega (arith, l.under.path.finishes.rests.0, accepted_horizon s ok.accepted)
  path_small_for (Some c) e = tt

  pub path_small : SmallNumber (path_answer_for (path_cause s i j work out rs) (read s) i j rs)
  path_small = path_small_for (path_cause s i j work out rs) refl

-- THE LEAST ASSIGNMENT: a sum of at most twelve entries
entry_small : (l : List ℕ) → ((k : ℕ) → l at k < 65536) → (k : ℕ) → get_or l k barred ≤ 65535
entry_small [] h k = omega arith
entry_small (x ∷ l) h zero = omega (arith, h 0)
entry_small (x ∷ l) h (suc k) = entry_small l (λ i. h (suc i)) k

module _ (m : ℕ) (table : List ℕ) (words : (k : ℕ) → table at k < 65536) where
  few : assignment_cause m table ≡ None → m ≤ 12
  few e = ⊎_elim (λ h. absurd (none-some _ (sym e ∙ count_high m table h))) (λ h. h) (cases_lt 12 m)

  sum_of_small : (a : List ℕ) → length a ≤ 12 → sum_of m table a < word
  unfolding sum_of
  sum_of_small a n =
      sum_small (entries m table a) (omega (arith, entries_length m table a))
      (λ i h.
      let l : i < length a = omega (arith, entries_length m table a) in
      omega (arith, entries_at m table a i l, entry_small table words (i * m + a at i)))

  assignment_small_for : (c : Option Cause) → c ≡ assignment_cause m table → SmallNumber (assignment_answer_for c m table)
  unfolding assignment_answer_for sum_found
  assignment_small_for None e = go (least_assignment m table) (least_assignment_lem m table)
    where
      go : (o : Option (List ℕ)) → Least m table o → SmallNumber (Ok (sum_found m table o))
      go None l = tt
      go (Some a) l = sum_of_small a (omega (arith, few (sym e), l.0.0.as_many))
  assignment_small_for (Some c) e = tt

  pub assignment_small : SmallNumber (assignment_answer_for (assignment_cause m table) m table)
  assignment_small = assignment_small_for (assignment_cause m table) refl

-- THE FIRST COLLISION: a time of at most h, carriers below m, and places that are words of the paths
module _ (m h : ℕ) (ws : List ℕ) (words : (k : ℕ) → ws at k < 65536) (short : h < 256) (low : m < 256) where
  place_small : (i t u : ℕ) → i < m → t ≤ h → get_or (pieces m (suc h) ws) i [] at t ≡ u → u < word
  place_small i t u a b e = omega (arith, e, place_in_lem m (suc h) ws i t a (omega arith), words (i * suc h + t))

  pub collision_small : (r : Result (Option Collision) Cause) → CollisionMeant m h ws r → SmallFound r
  collision_small (Ok (Some (Place t i j u))) l =
      let c = l.1.collided in
      (omega (arith, c.2.0), omega (arith, c.0, c.1), omega (arith, c.1), place_small i.0 t u (omega (arith, c.0, c.1)) c.2.0 c.2.1)
  collision_small (Ok (Some (Move t i j u v))) l =
      let c = l.1.collided in (
        omega (arith, c.2.0),
        omega (arith, c.0, c.1),
        omega (arith, c.1),
        place_small i.0 t u (omega (arith, c.0, c.1)) (omega (arith, c.2.0)) c.2.1,
        place_small i.0 (suc t) v (omega (arith, c.0, c.1)) c.2.0 c.2.2,
      )
  collision_small (Ok None) l = tt
  collision_small (Err n) l = tt

-- THE PLAN CHECK
module _ (s tasks ws : List ℕ) where
  flow_small : (f : ℕ) → PlanFor s tasks ws f → f < word
  flow_small f p = omega (arith, p.flowtime, sum_small p.finishes few finish)
    where
      few : length p.finishes ≤ 12
      few = omega (arith, p.plan.a_finish_each, most_carriers s p.accepted)

      finish : (i : ℕ) → i < length p.finishes → p.finishes at i ≤ 65535
      finish i h =
          let l : i < count_of s = omega (arith, p.plan.a_finish_each) in
          omega (arith, (p.plan.paths i l).finishes.rests.0, short_horizon s p.accepted)

  pub check_small : (r : Result (Option ℕ) Cause) → CheckMeant s tasks ws r → SmallNumber r
  check_small (Ok (Some f)) l = flow_small f ((l f).0 refl)
  check_small (Ok None) l = tt
  check_small (Err c) l = tt

-- THE SEARCH: a node costs a sum of finishes, and no more nodes are made than the limit
abbrev SmallAnswer : Answer (List ℕ) → Type 0
SmallAnswer (plan a ps f n b) = (f < word) × (n < word) × (b < word)
SmallAnswer (no_plan n) = n < word
SmallAnswer (spent n b) = (n < word) × (b < word)

abbrev SmallRun : Option (Answer (List ℕ)) → Type 0
SmallRun None = Unit {0}
SmallRun (Some a) = SmallAnswer a

abbrev SmallTurn : Turn (List ℕ) Constraint → Type 0
SmallTurn (done a) = SmallAnswer a
SmallTurn (more st) = Unit {0}

module _ (s : List ℕ) (ok : cause s ≡ None) where
  abbrev d : Sheet
  d = read s

  abbrev Kept : State (List ℕ) Constraint → ℕ → Type 0
  Kept st t = Invariant (problem d) (rules d) d.limit st t

  the_laws : Laws (problem d) (rules d)
  the_laws = laws d (accepted_start s ok) (omega (arith, accepted_horizon s ok))

  limit_small : d.limit < word
  limit_small = omega (arith, ((header_says s).fact (accepted s ok).header).0.0.1.1)

  -- at most twelve finishes of at most 255
  cost_small : (n : Node (List ℕ) Constraint) → IsNode (problem d) (rules d) n → n.cost < word
  unfolding problem
  cost_small n o = omega (arith, o.cost_is, sum_small (map finish_at_lem (below d.count)) few finish)
    where
      finish_at_lem : ℕ → ℕ
      finish_at_lem i = finish_of d (task (n.tasks at i)) (get_or n.paths i [])

      few : length (map finish_at_lem (below d.count)) ≤ 12
      few = omega (arith, length_below d.count finish_at_lem, accepted_count s ok)

      finish : (i : ℕ) → i < length (map finish_at_lem (below d.count)) → map finish_at_lem (below d.count) at i ≤ 65535
      finish i h =
          let l : i < d.count = omega (arith, length_below d.count finish_at_lem) in
          omega (arith, get_or_below d.count finish_at_lem i 0 l, (o.least i l).0.0.finishes.rests.0, accepted_horizon s ok)

  module _ (st : State (List ℕ) Constraint) (t : ℕ) (v : Kept st t) where
    made_small : st.made < word
    made_small = omega (arith, v.within, limit_small)

    module _ (k : Selected (List ℕ) Constraint) (ch : Chosen ◌≡◌ st.opened k) where
      taken_small : k.node.cost < word
      taken_small = cost_small k.node (v.nodes k.node ch.out.taken)

      bound_small : k.bound < word
      bound_small = omega (arith, taken_small, ch.below k.node ch.out.taken)

      extend_small : (new : List (Node (List ℕ) Constraint)) (b : Bool) → SmallTurn (extend (problem d) d.limit cheapest st k new b)
      extend_small new true = tt
      extend_small new false = (limit_small, bound_small)

      expand_small : (o : Option (Constraint × Constraint)) → SmallTurn (expand (problem d) d.limit cheapest st k o)
      expand_small None = (taken_small, made_small, bound_small)
      expand_small (Some cc) = extend_small (to_make (problem d) k.node cc st.rest) (leb (st.made + length (to_make (problem d) k.node cc st.rest)) d.limit)

    turn_small : SmallTurn (turn (problem d) d.limit cheapest st)
    turn_small = go (cheapest st.opened) (cheapest_picks st.opened)
      where
        go : (o : Option (Selected (List ℕ) Constraint)) → Picked ◌≡◌ st.opened o → SmallTurn (turn_with (problem d) d.limit cheapest st o)
        go None e = made_small
        go (Some k) ch = expand_small k ch ((problem d).collision k.node.paths)

  run_small : (f t : ℕ) (st : State (List ℕ) Constraint) → Kept st t → SmallRun (run (problem d) d.limit cheapest f st)
  run_small zero t st v = tt
  run_small (suc f) t st v =
      go (turn (problem d) d.limit cheapest st) (turn_small st t v)
      (turn_right (problem d) (rules d) the_laws d.limit ◌≡◌ cheapest cheapest_picks st t v) (λ u i. run_small f (suc t) u i)
    where
      go : (o : Turn (List ℕ) Constraint) → SmallTurn o → TurnRight (problem d) (rules d) the_laws d.limit ◌≡◌ cheapest cheapest_picks t o
          → ((u : State (List ℕ) Constraint) → Kept u (suc t) → SmallRun (run (problem d) d.limit cheapest f u))
          → SmallRun (onward (problem d) d.limit cheapest (run (problem d) d.limit cheapest f) o)
      go (done a) small right again = small
      go (more u) small right again = again u right

  from_small : (l : List (List ℕ)) → (problem d).assignments ≡ l → SmallRun (search_from (problem d) d.limit cheapest l)
  from_small [] e = omega arith
  from_small (a ∷ l) e = run_small (suc d.limit) 0 _ (start_inv (problem d) (rules d) the_laws d.limit a l e (accepted_limit s ok))

  plan_small : SmallAnswer (plan_for d)
  unfolding plan_for searched
  plan_small = go (search_from (problem d) d.limit cheapest (problem d).assignments) (from_small (problem d).assignments refl)
    where
      go : (o : Option (Answer (List ℕ))) → SmallRun o → SmallAnswer (answer_or o)
      go None h = omega arith
      go (Some a) h = h

round_small : (s : List ℕ) → sheet_cause s ≡ None → SmallAnswer (round_of (read s))
unfolding round_of
round_small s ok = round_has SmallAnswer s (plan_for (read s)) ok (λ none. (omega arith, omega arith, omega arith)) (plan_small s)

found_small : (a : Answer (List ℕ)) → SmallAnswer a → SmallSearch (Ok (search_found a))
unfolding search_found
found_small (plan a ps f n b) h = h
found_small (no_plan n) h = h
found_small (spent n b) h = h

pub search_small : (s : List ℕ) (work out : ℕ) → SmallSearch (search_answer s work out)
unfolding search_answer search_answer_for
search_small s work out = go (search_cause s work out) refl
  where
    go : (c : Option Cause) → search_cause s work out ≡ c → SmallSearch (search_answer_for c (read s))
    go None e = found_small (round_of (read s)) (round_small s (search_accepted s work out e).0)
    go (Some c) e = tt

-- THE GATE BOARD: a place of the grid, numbers below m, and a finish of at most the horizon
no_line_small : SmallLine no_line
no_line_small = (omega arith, omega arith, omega arith, omega arith)

pub board_small : (s words : List ℕ) (ls : List Line) (out : ℕ) (a : Result SearchAnswer Cause) → Written s out a → BoardStands (read s) a words ls → SmallLines ls
board_small s words ls out (Ok (Plan tasks f n b)) w h k = go (dec_le (read s).count k)
  where
    few : (read s).count ≤ 12
    few = most_carriers s w.0

    go : Dec ((read s).count ≤ k) → SmallLine (line_at ls k)
    go (yes b) = rw (h.rest k b) no_line_small
    go (no b) =
        let l : k < (read s).count = omega arith in
        let ok = with_carriers s w.0 (omega arith) in
        let c = h.carriers k l in (
          omega (arith, h.goals k l, last_goal_on_grid s ok (line_at ls k).task, area_range s ok),
          omega (arith, c.0, few),
          omega (arith, c.1, few),
          omega (arith, (h.finishes k l).finishes.rests.0, accepted_horizon s ok),
        )
board_small s words ls out (Ok (NoPlan n)) w h k = rw (h k) no_line_small
board_small s words ls out (Ok (Spent n b)) w h k = rw (h k) no_line_small
board_small s words ls out (Err c) w h k = rw (h k) no_line_small
