-- One carrier's least path in two passes, on functions of time and place: what is computed. Assumes nothing.
use Rattle.std.specs.Prelude.{ℕ, zero, suc, ◌+◌, max, Bool, true, cond, ◌&&◌, List, [], ◌∷◌, replicate, eqb, ltb}

-- What the passes are told. Later changes of what a carrier may do change these parts alone. A label says how many goals of
-- the task are visited
pub record Parts : Type 0 where
  -- between t and t + 1 one may go, or wait, from u to v: the grid and the move constraints
  pub step : ℕ → ℕ → ℕ → Bool
  -- at t one may be on u: the place constraints
  pub stand : ℕ → ℕ → Bool
  -- the places to which a step from u may lead, rising, and those from which a step to v may come
  pub succs : ℕ → List ℕ
  pub preds : ℕ → List ℕ
  pub start : ℕ
  -- the last goal
  pub end : ℕ
  -- the label on the start at time 0, and the label once all goals are visited
  pub fresh : ℕ
  pub whole : ℕ
  -- the label on v, come from u with the label k
  pub raise : ℕ → ℕ → ℕ → ℕ
  -- the same backward, on (whole + 1) less the least label that suffices
  pub lower : ℕ → ℕ → ℕ → ℕ

-- the greatest f x over those x of the list that pass the test, and 0 for none
abbrev pub best : (ℕ → Bool) → (ℕ → ℕ) → List ℕ → ℕ
best ok f [] = 0
best ok f (x ∷ l) = let r = best ok f l in let s = max (f x) r in cond (ok x) s r

-- the first x of the list that passes the test, and 0 for none
abbrev pub first_of : (ℕ → Bool) → List ℕ → ℕ
first_of ok [] = 0
first_of ok (x ∷ l) = let r = first_of ok l in cond (ok x) x r

-- labels plus 1, and 0 for none
abbrev pub lift : (ℕ → ℕ) → ℕ → ℕ
lift f zero = zero
lift f (suc k) = suc (f k)

module _ (w : Parts) where
  -- one may go from u at t to v, and be there at t + 1
  abbrev pub pass : ℕ → ℕ → ℕ → Bool
  pass t u v = w.step t u v && w.stand (suc t) v

  -- 1 + the greatest label with which an allowed walk of t steps from the start is on v, and 0 for none
  abbrev pub front : ℕ → ℕ → ℕ
  front zero v = cond (eqb v w.start && w.stand 0 w.start) (suc w.fresh) 0
  front (suc t) v = best (λ u. pass t u v) (λ u. lift (w.raise u v) (front t u)) (w.preds v)

  -- (whole + 1) less the least label with which, being on u at t, one can be on the last goal n steps later with all goals
  -- visited; 0 for none
  abbrev pub back : ℕ → ℕ → ℕ → ℕ
  back zero t u = cond (eqb u w.end) 1 0
  back (suc n) t u = best (λ v. pass t u v) (λ v. w.lower u v (back n (suc t) v)) (w.succs u)

  -- from t on one may stay m steps on the last goal
  abbrev pub rest : ℕ → ℕ → Bool
  rest zero t = true
  rest (suc m) t = pass t w.end w.end && rest m (suc t)

  -- with the label k on u at t, v is a step by which n steps later the task is finished
  abbrev pub good : ℕ → ℕ → ℕ → ℕ → ℕ → Bool
  good n t u k v = pass t u v && ltb w.whole (w.raise u v k + back n (suc t) v)

  abbrev pub next : ℕ → ℕ → ℕ → ℕ → ℕ
  next n t u k = first_of (good n t u k) (w.succs u)

  -- the places after u: n steps, each to the least place from which the task is still finished in time, then m steps on the
  -- last goal
  abbrev pub trace : ℕ → ℕ → ℕ → ℕ → ℕ → List ℕ
  trace m zero t u k = replicate m w.end
  trace m (suc n) t u k = let v = next n t u k in v ∷ trace m n (suc t) v (w.raise u v k)
