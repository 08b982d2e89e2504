-- The turns of the search always suffice: whichever rule takes one node out of the open ones, limit + 1 turns answer, and more of
-- them change nothing. So the answer of the deck's search is never the one that stands for no answer. Assumes nothing.
use Rattle.std.proofs.Common.{ℕ, zero, suc, ◌+◌, ◌-◌, ◌≤◌, ◌<◌, ◌≡◌, refl, sym, ap, ◌∙◌, Bool, true, false, List, [], ◌∷◌, Option, None, Some, arith, length, length-append, leb, leb-true}
use Rattle.deck.specs.Lists.{take_least}
use Rattle.deck.specs.Sheet.{Sheet}
use Rattle.deck.specs.Search.{Problem, Node, State, Selected, Answer, no_plan, Turn, done, more, root_of, to_make, extend, expand, turn_with, turn, onward, run, search_from, searched, selected, cheapest}
use Rattle.deck.specs.Planner.{problem, answer_or, plan_for}
use Rattle.meaning.proofs.Lists.{Took, took}

module _ {Path Constraint : Type 0} where
  -- what is asked of a selection rule
  abbrev pub TakesOne : (List (Node Path Constraint) → Option (Selected Path Constraint)) → Type 0
  TakesOne choose = (l : List (Node Path Constraint)) (k : Selected Path Constraint) → choose l ≡ Some k → length l ≡ suc (length k.others)

  -- how many nodes may yet be taken at most: those that may yet be made, and those that are open
  abbrev pub remaining : ℕ → State Path Constraint → ℕ
  remaining limit s = limit - s.made + length s.opened

  -- where a turn goes on, fewer than n nodes may yet be taken
  abbrev pub Fewer : ℕ → ℕ → Turn Path Constraint → Type 0
  Fewer limit n (done a) = Unit {0}
  Fewer limit n (more s) = remaining limit s < n

-- from n turns on the runs come to one and the same answer
abbrev pub Settled : {A : Type 0} → (ℕ → Option A) → ℕ → Type 0
Settled {A} r n = (a : A) × ((k : ℕ) → n ≤ k → r k ≡ Some a)

one_more : {A : Type 0} (r : ℕ → Option A) (n : ℕ) → Settled (λ k. r (suc k)) n → Settled r (suc n)
one_more {A} r n (a, h) = (a, go)
  where
    go : (k : ℕ) → suc n ≤ k → r k ≡ Some a
    go zero le = absurd (omega arith)
    go (suc k) le = h k (omega arith)

module _ {Path Constraint : Type 0} (w : Problem Path Constraint) (limit : ℕ)
    (choose : List (Node Path Constraint) → Option (Selected Path Constraint)) (takes_one : TakesOne choose) where
  -- each turn that goes on leaves fewer nodes to be taken
  pub turn_fewer : (s : State Path Constraint) → Fewer limit (remaining limit s) (turn w limit choose s)
  turn_fewer s = chosen (choose s.opened) refl
    where
      extended : (k : Selected Path Constraint) → length s.opened ≡ suc (length k.others) → (new : List (Node Path Constraint)) (b : Bool)
          → leb (s.made + length new) limit ≡ b → Fewer limit (remaining limit s) (extend w limit choose s k new b)
      extended k e new true q = rw (length-append k.others new) (omega (arith, leb-true (s.made + length new) limit q))
      extended k e new false q = tt

      expanded : (k : Selected Path Constraint) → length s.opened ≡ suc (length k.others) → (o : Option (Constraint × Constraint))
          → Fewer limit (remaining limit s) (expand w limit choose s k o)
      expanded k e None = tt
      expanded k e (Some sides) = extended k e (to_make w k.node sides s.rest) _ refl

      chosen : (o : Option (Selected Path Constraint)) → choose s.opened ≡ o → Fewer limit (remaining limit s) (turn_with w limit choose s o)
      chosen None e = tt
      chosen (Some k) e = expanded k (takes_one s.opened k e) (w.collision k.node.paths)

  -- with more turns than nodes may yet be taken there is an answer, and it does not depend on their number
  pub settled : (n : ℕ) (s : State Path Constraint) → remaining limit s < n → Settled (λ k. run w limit choose k s) n
  settled zero s h = absurd (omega arith)
  settled (suc n) s h = one_more (λ k. run w limit choose k s) n (go (turn w limit choose s) (turn_fewer s) (λ t f. settled n t (omega arith)))
    where
      go : (o : Turn Path Constraint) → Fewer limit (remaining limit s) o
          → ((t : State Path Constraint) → remaining limit t < remaining limit s → Settled (λ k. run w limit choose k t) n)
          → Settled (λ k. onward w limit choose (run w limit choose k) o) n
      go (done a) f again = (a, λ k le. refl)
      go (more t) f again = again t f

  -- limit + 1 turns are enough from every state with no more nodes made than the limit, and no more open than made
  enough : (s : State Path Constraint) → length s.opened ≤ s.made → s.made ≤ limit → Settled (λ k. run w limit choose k s) (suc limit)
  enough s o m = settled (suc limit) s (omega arith)

  -- more than limit + 1 turns change nothing, from node 0 alone as from every such state
  pub more_turns : (n : ℕ) (s : State Path Constraint) → length s.opened ≤ s.made → s.made ≤ limit
      → run w limit choose (suc limit + n) s ≡ run w limit choose (suc limit) s
  more_turns n s o m = let r = enough s o m in r.1 (suc limit + n) (omega arith) ∙ sym (r.1 (suc limit) (omega arith))

  -- the search answers
  pub answers : 1 ≤ limit → (a : Answer Path) × (searched w limit choose ≡ Some a)
  unfolding searched
  answers h = from w.assignments
    where
      from : (l : List (List ℕ)) → (a : Answer Path) × (search_from w limit choose l ≡ Some a)
      from [] = (no_plan 0, refl)
      from (a ∷ rest) =
          let r = enough (record { opened = root_of w a ∷ []; made = 1; rest = rest }) (omega arith) h in
          (r.0, r.1 (suc limit) (omega arith))

-- the rule of the exact search takes one node out
pub cheapest_takes_one : {Path Constraint : Type 0} → TakesOne (cheapest {Path = Path} {Constraint = Constraint})
cheapest_takes_one {Path} {Constraint} l k e = go (take_least (λ n. n.cost) l) (took (λ n. n.cost) l) e
  where
    go : (o : Option (Node Path Constraint × List (Node Path Constraint))) → Took (λ n. n.cost) l o → selected o ≡ Some k → length l ≡ suc (length k.others)
    go None t q = cc
    go (Some x) t q = let f = t.0.fewer in cc

-- the plan of a sheet is what its search answers
pub plan_answers : (d : Sheet) → 1 ≤ d.limit → searched (problem d) d.limit cheapest ≡ Some (plan_for d)
unfolding plan_for
plan_answers d h = let r = answers (problem d) d.limit cheapest cheapest_takes_one h in r.1 ∙ ap Some (sym (ap answer_or r.1))
