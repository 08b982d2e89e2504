-- Document 01, "Path and plan" as far as one carrier goes, and "One carrier's least path"; document 02, "One-way lanes". Assumes
-- nothing.
use Rattle.std.specs.Prelude.{ℕ, zero, suc, ◌/◌, ◌%◌, Bool, true, ◌&&◌, ◌||◌, not, cond, List, [], ◌∷◌, map, leb, eqb, Option, None, Some}
use Rattle.deck.specs.Lists.{◌at◌, below, all, select, each, take_least, is_nil}
use Rattle.deck.specs.Sheet.{Sheet, area, grid_byte, free, start_of, goals_of, last_goal}
use Rattle.deck.specs.declared.Carrier.{Carrier}
use Rattle.deck.specs.declared.Task.{Task}
use Rattle.deck.specs.declared.Constraint.{Constraint}
use Rattle.deck.specs.declared.Constraint.TheVariants.{Place, Move}

unfoldable pub one_apart : ℕ → ℕ → Bool
one_apart a b = eqb (suc a) b || eqb (suc b) a

-- v is next to u "in the same row or column" of a grid of width w: the row of a place is place / w, its column place % w. It is a
-- fact of the two numbers and the width, and the same seen from either place
unfoldable pub next_to : ℕ → ℕ → ℕ → Bool
next_to w u v = (eqb (u / w) (v / w) && one_apart (u % w) (v % w)) || (eqb (u % w) (v % w) && one_apart (u / w) (v / w))

-- a place u with the grid byte b "may be left only to the north (place − w), east, south or west": by row and column, since on a grid
-- of width 1 the place − 1 lies to the north. Asked of a place v next to u
unfoldable pub may_leave : ℕ → ℕ → ℕ → ℕ → Bool
may_leave w b u v =
    cond (eqb b 2) (eqb (suc (v / w)) (u / w))
    (cond (eqb b 3) (eqb (v % w) (suc (u % w)))
    (cond (eqb b 4) (eqb (v / w) (suc (u / w)))
    (cond (eqb b 5) (eqb (suc (v % w)) (u % w))
    true)))

-- v is "beside" u on the sheet, seen from u: next to it, and u may be left to it. "no longer the same seen from either place"
unfoldable pub beside : Sheet → ℕ → ℕ → Bool
beside d u v = next_to d.width u v && may_leave d.width (grid_byte d u) u v

-- "Each step waits or goes to a free place beside it": the one name for whether a step may go from u to v
unfoldable pub may_step : Sheet → ℕ → ℕ → Bool
may_step d u v = eqb u v || (free d v && beside d u v)

-- the places that one step from u may lead to, rising
unfoldable pub steps : Sheet → ℕ → List ℕ
steps d u = select (may_step d u) (below (area d))

-- every walk of n steps from u, in the order of lists "compared place by place from time 0"
unfoldable pub walks : Sheet → ℕ → ℕ → List (List ℕ)
walks d zero u = (u ∷ []) ∷ []
walks d (suc n) u = map (λ p. u ∷ p) (each (walks d n) (steps d u))

-- the goals that are left once one is on x: those in front that are x are visited. "passing over a goal counts, and equal
-- successive goals may share a time": the one place where goals are counted
unfoldable pub visit : ℕ → List ℕ → List ℕ
visit x [] = []
visit x (g ∷ gs) = let r = visit x gs in cond (eqb x g) r (g ∷ gs)

-- the goals that are left after the places of p, one after the other, from time 0 on
unfoldable pub left : List ℕ → List ℕ → List ℕ
left [] gs = gs
left (x ∷ p) gs = left p (visit x gs)

-- "the least time from which the path stays on gK up to H"; the length of p, which is above H, where there is none
unfoldable pub finish : ℕ → List ℕ → ℕ
finish g [] = 0
finish g (x ∷ p) = let r = suc (finish g p) in cond (all (eqb g) (x ∷ p)) 0 r

abbrev pub finish_of : Sheet → Task → List ℕ → ℕ
finish_of d j p = finish (last_goal d j) p

-- the walk visits the goals of the task in order and stays on the last: "A path without [a finish] is no path"
unfoldable pub serves : Sheet → Task → List ℕ → Bool
serves d j p = is_nil (left p (goals_of d j)) && leb (finish_of d j p) d.horizon

-- p, a path of the carrier i, keeps the constraint. A constraint of another carrier is kept; t is any time, after the finish too
unfoldable pub keeps : Carrier → List ℕ → Constraint → Bool
keeps i p (Place a u t) = not (eqb a.0 i.0 && eqb (p at t) u)
keeps i p (Move a u v t) = not (eqb a.0 i.0 && eqb (p at t) u && eqb (p at (suc t)) v)

-- the paths of the carrier for the task that keep the constraints, in order
unfoldable pub paths_under : Sheet → Carrier → Task → List Constraint → List (List ℕ)
paths_under d i j cs = select (λ p. serves d j p && all (keeps i p) cs) (walks d d.horizon (start_of d i))

abbrev pub taken : Option (List ℕ × List (List ℕ)) → Option (List ℕ)
taken None = None
taken (Some t) = Some t.0

-- "The least path keeps its carrier's constraints and has the least finish; among those it comes first"
unfoldable pub least_path : Sheet → Carrier → Task → List Constraint → Option (List ℕ)
least_path d i j cs = taken (take_least (finish_of d j) (paths_under d i j cs))
