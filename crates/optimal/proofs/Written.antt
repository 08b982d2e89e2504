-- Demand 3 of the search call, for every input: what the answer says and the words that are written are right. Assumes nothing.
use Rattle.std.proofs.Common.{ℕ, suc, ◌<◌, ◌≡◌, refl, ap, subst, List, [], ◌∷◌, ◌++◌, append_assoc, arith, length, get_or, take, drop, take_at, drop_at, Option, None, Some}
use Rattle.deck.specs.Lists.{flat, pieces}
use Rattle.deck.specs.Sheet.{Sheet, read, sheet_cause}
use Rattle.deck.specs.Search.{Answer, plan, no_plan, spent}
use Rattle.deck.specs.Planner.{plan_for, round_of}
use Rattle.deck.specs.Calls.{task_list, search_cause, search_found, search_written, search_answer_for, search_output_for, search_answer, search_output}
use Rattle.deck.specs.declared.cause.Cause.{Cause}
use Rattle.meaning.specs.Meaning.{Plan, Right}
use Rattle.meaning.proofs.Accepted.{search_accepted}
use Rattle.meaning.proofs.Dark.{round_has, empty_right}
use Rattle.optimal.specs.Demand.{RightAnswer, RightCall}
use Rattle.optimal.proofs.Demand3.{demand3}

-- what stands behind m lists of k elements each is cut into these lists again
pub pieces_flat : (k : ℕ) (ps : List (List ℕ)) (rest : List ℕ) → ((i : ℕ) → i < length ps → length (get_or ps i []) ≡ k)
    → pieces (length ps) k (flat ps ++ rest) ≡ ps
pieces_flat k [] rest h = refl
pieces_flat k (p ∷ ps) rest h =
    let e : length p ≡ k = h 0 (omega arith) in
    rw (append_assoc p (flat ps) rest, take_at p (flat ps ++ rest) k e, drop_at p (flat ps ++ rest) k e)
    (ap (λ l. p ∷ l) (pieces_flat k ps rest (λ i l. h (suc i) (omega arith))))

pub plan_pieces : (d : Sheet) (a : List ℕ) (ps : List (List ℕ)) (fs rest : List ℕ) → Plan d a ps fs
    → pieces d.count (suc d.horizon) (flat ps ++ rest) ≡ ps
plan_pieces d a ps fs rest p =
    subst (λ m. pieces m (suc d.horizon) (flat ps ++ rest) ≡ ps) p.a_path_each
    (pieces_flat (suc d.horizon) ps rest (λ i h. (p.paths i (rw p.a_path_each at h)).long))

plan_tasks : (d : Sheet) (a : List ℕ) (ps : List (List ℕ)) (fs : List ℕ) → Plan d a ps fs → take d.count (task_list a) ≡ a
plan_tasks d a ps fs p = take_at a _ d.count p.assigned.as_many

-- what is right of the search's answer is right of the answer handed back and of the words written
right_found : (d : Sheet) (out : List ℕ) (x : Answer (List ℕ)) → Right d x → RightAnswer d (search_found x) (search_written x out)
unfolding search_found search_written
right_found d out (plan a ps f n b) ((fs, p, e), same, least) = (
  (fs, rw (plan_tasks d a ps fs p, plan_pieces d a ps fs (drop (length (flat ps)) out) p) p, e),
  same,
  least,
)
right_found d out (no_plan n) h = h
right_found d out (spent n b) h = h

-- the round of every accepted sheet is right
pub round_right : (s : List ℕ) → sheet_cause s ≡ None → Right (read s) (round_of (read s))
unfolding round_of
round_right s ok = round_has (Right (read s)) s (plan_for (read s)) ok (empty_right (read s)) (demand3 s)

-- Demand 3, of every input
pub call_right : (s : List ℕ) (work : ℕ) (out : List ℕ) → RightCall (read s) (search_answer s work (length out)) (search_output s work out)
unfolding search_answer search_output search_answer_for search_output_for
call_right s work out = go (search_cause s work (length out)) refl
  where
    go : (c : Option Cause) → search_cause s work (length out) ≡ c → RightCall (read s) (search_answer_for c (read s)) (search_output_for c (read s) out)
    go None e = right_found (read s) out (round_of (read s)) (round_right s (search_accepted s work (length out) e).0)
    go (Some c) e = tt
