-- Collisions and paths of all carriers: what an answer says, and what is left from a carrier on. Assumes nothing.
use Rattle.std.proofs.Common.{ℕ, zero, suc, ◌+◌, ◌-◌, ◌*◌, ◌≤◌, ◌<◌, ◌≡◌, refl, sym, ap, subst, ◌∙◌, Bool, true, false, ◌&&◌, cond, List, [], map, Option, None, Some, arith, add-one, length, get_or, take, drop, length-take, length-drop, T}
use Rattle.deck.specs.Lists.{count_from, sum, pieces}
use Rattle.deck.specs.Sheet.{Sheet, carrier, task}
use Rattle.deck.specs.Paths.{finish_of}
use Rattle.deck.specs.PlanCheck.{is_path, are_paths}
use Rattle.deck.specs.declared.Carrier.{Carrier}
use Rattle.deck.specs.declared.Task.{Task}
use Rattle.meaning.proofs.Paths.{is_path_meant}
use Rattle.meaning.proofs.Flowtime.{finish_at, finishes, flowtime_sum}
use Rattle.meaning.proofs.Lists.{piece_at}
use Rattle.path_check.specs.Answers.{path_answer}
use Rattle.path_check.proofs.Parts.{rest_next, rest_none}
use Rattle.plan_check.specs.Answers.{flow_answer}

-- what the answer for one path says
module _ (d : Sheet) (i : Carrier) (j : Task) (p : List ℕ) where
  abbrev Says : Bool → Type 0
  Says b = is_path d i j p ≡ b

  pub path_found_lem : (t : ℕ) → Some t ≡ path_answer d i j p → Says true × (t ≡ finish_of d j p)
  unfolding path_answer
  path_found_lem t = go (is_path d i j p)
    where
      go : (b : Bool) → Some t ≡ cond b (Some (finish_of d j p)) None → (b ≡ true) × (t ≡ finish_of d j p)
      go true e = (refl, cc)
      go false e = absurd (cc)

  pub path_none : None ≡ path_answer d i j p → Says false
  unfolding path_answer
  path_none = go (is_path d i j p)
    where
      go : (b : Bool) → None ≡ cond b (Some (finish_of d j p)) None → b ≡ false
      go true e = absurd (cc)
      go false e = refl

  -- a path finishes by the horizon
  pub path_in_time : Says true → finish_of d j p ≤ d.horizon
  path_in_time e = ((is_path_meant d i j p).fact (subst T (sym e) tt)).finishes.rests.0

  pub path_small : (t : ℕ) {r : Option ℕ} → r ≡ path_answer d i j p → r ≡ Some t → t ≤ d.horizon
  path_small t q e = let k = path_found_lem t (sym e ∙ q) in omega (arith, k.1, path_in_time k.0)

-- the finishes of n carriers from carrier i on
abbrev finishes_from : Sheet → List ℕ → List (List ℕ) → ℕ → ℕ → List ℕ
finishes_from d a ps i n = map (finish_at d a ps) (count_from i n)

-- the flowtime from carrier i on, where the carriers before have the flowtime f
unfoldable pub flow_from : Sheet → List ℕ → List (List ℕ) → ℕ → ℕ → Option ℕ
flow_from d a ps f i = cond (are_paths d i (drop i a) (drop i ps)) (Some (f + sum (finishes_from d a ps i (d.count - i)))) None

module _ (d : Sheet) (a : List ℕ) (ps : List (List ℕ)) (m : ℕ) (lm : m ≡ d.count) (la : length a ≡ m) (lp : length ps ≡ m) where
  pub flow_start : flow_answer d a ps ≡ flow_from d a ps 0 0
  unfolding flow_answer flow_from
  flow_start =
      let n : d.count - 0 ≡ d.count = omega arith in
      let e : 0 + sum (finishes d a ps) ≡ sum (finishes d a ps) = omega arith in
      rw (flowtime_sum d a ps, n, e)

  pub flow_over : (f i : ℕ) → m ≤ i → flow_from d a ps f i ≡ Some f
  unfolding flow_from are_paths
  flow_over f i h =
      let n : d.count - i ≡ 0 = omega arith in
      let e : f + 0 ≡ f = omega arith in
      rw (rest_none 0 a i (omega arith), rest_none [] ps i (omega arith), n, e)

  -- r is the answer for the words p of carrier i and its task j
  module _ (f i : ℕ) (l : i < m) {j : ℕ} {p : List ℕ} (ej : j ≡ get_or a i 0) (ep : p ≡ get_or ps i []) {r : Option ℕ} (q : r ≡ path_answer d (carrier i) (task j) p) where
    from_here : flow_from d a ps f i
        ≡ cond (is_path d (carrier i) (task j) p && are_paths d (suc i) (drop (i + 1) a) (drop (i + 1) ps))
        (Some (f + (finish_of d (task j) p + sum (finishes_from d a ps (suc i) (d.count - suc i))))) None
    unfolding flow_from are_paths
    from_here =
        let n : d.count - i ≡ suc (d.count - suc i) = omega arith in
        rw (rest_next 0 a i (omega arith), rest_next [] ps i (omega arith), n, ej, ep)

    pub flow_next : (t : ℕ) → r ≡ Some t → flow_from d a ps f i ≡ flow_from d a ps (f + t) (i + 1)
    unfolding flow_from
    flow_next t e =
        let k = path_found_lem d (carrier i) (task j) p t (sym e ∙ q) in
        let s = sum (finishes_from d a ps (suc i) (d.count - suc i)) in
        let g : f + (finish_of d (task j) p + s) ≡ f + t + s = omega (arith, k.1) in
        from_here ∙ rw (k.0, g, add-one i)

    pub flow_none : r ≡ None → flow_from d a ps f i ≡ None
    flow_none e = from_here ∙ rw (path_none d (carrier i) (task j) p (sym e ∙ q))

-- the pieces of the paths' words
pub pieces_length : {A : Type 0} (m n : ℕ) (l : List A) → length (pieces m n l) ≡ m
pieces_length zero n l = refl
pieces_length (suc m) n l = ap suc (pieces_length m n (drop n l))

pub piece_is : (m h n i : ℕ) (ws : List ℕ) → n ≡ suc h → i < m → take (i * n + n - i * n) (drop (i * n) ws) ≡ get_or (pieces m (suc h) ws) i []
piece_is m h n i ws e l =
    let k : i * n + n - i * n ≡ n = omega arith in
    rw k (ap (λ x. take x (drop (i * x) ws)) e ∙ sym (piece_at m (suc h) ws i l))

pub piece_long : (h n i : ℕ) (ws : List ℕ) → n ≡ suc h → i * n + n ≤ length ws → length (take (i * n + n - i * n) (drop (i * n) ws)) ≡ suc h
piece_long h n i ws e l = simp (length-take, length-drop) (omega arith)
