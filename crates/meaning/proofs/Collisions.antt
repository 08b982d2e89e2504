-- The collisions that the definitions list are exactly those of the meaning, in its order. So the first of the list is the first
-- collision, and the list is empty exactly if no two paths collide. Assumes nothing.
use Rattle.std.proofs.Common.{ℕ, suc, ◌≤◌, ◌<◌, ◌≡◌, refl, sym, ap, subst, ◌∙◌, ◌↔◌, ◌⊎◌, inl, inr, ⊎_elim, ◌≢◌, Bool, true, false, cond, List, [], ◌∷◌, map, Option, None, Some, arith, T, ltb}
use Rattle.deck.proofs.Members.{Mem, not-nil, in_left, in_right, cases_append, map_mem}
use Rattle.deck.specs.Lists.{below, select, head_of}
use Rattle.deck.specs.Sheet.{carrier}
use Rattle.deck.specs.Collisions.{place_at, pairs, place_collides, move_collides, place_collision, move_collision, collisions_at, collisions, first_collision}
use Rattle.deck.specs.declared.Carrier.{Carrier}
use Rattle.deck.specs.declared.Collision.{Collision}
use Rattle.deck.specs.declared.Collision.TheVariants.{Place, Move}
use Rattle.meaning.specs.Meaning.{Before, path_of, Collides, Collided, rank, FirstCollision}
use Rattle.meaning.proofs.Tests.{Says, says_eqb, says_leb, says_and, says_not}
use Rattle.meaning.proofs.Before.{before_refl, before_antisym}
use Rattle.meaning.specs.Sorted.{Sorted}
use Rattle.meaning.proofs.Lists.{nil_of_none, Head, head_first, mem_map, mem_each, each_mem, mem_select, select_mem, mem_below, sorted_append, sorted_select, sorted_map, sorted_count_from, sorted_each}

-- a list that stands only if a test passes
module _ {A : Type 0} where
  mem_cond : (b : Bool) (l : List A) {x : A} → Mem x (cond b l []) ↔ (T b × Mem x l)
  mem_cond true l = (λ k. (tt, k), λ k. k.1)
  mem_cond false l = (λ k. absurd (not-nil k), λ k. absurd k.0)

  sorted_cond : (R : A → A → Type 0) (b : Bool) (l : List A) → Sorted R l → Sorted R (cond b l [])
  sorted_cond R true l h = h
  sorted_cond R false l h = tt

-- the pairs of i with each greater j below m
abbrev row : ℕ → ℕ → List (ℕ × ℕ)
row m i = map (λ j. (i, j)) (select (ltb i) (below m))

mem_row : (m i : ℕ) {e : ℕ × ℕ} → Mem e (row m i) → (j : ℕ) × (i < j) × (j < m) × (e ≡ (i, j))
mem_row m i k =
    let r = mem_map (λ j. (i, j)) (select (ltb i) (below m)) k in
    let s = mem_select (ltb i) (below m) r.1 in
    (r.0, says_leb.fact s.1, (mem_below m).0 s.0, r.2)

-- exactly the pairs i < j below m are listed
pub mem_pairs : (m : ℕ) (e : ℕ × ℕ) → Mem e (pairs m) ↔ ((e.0 < e.1) × (e.1 < m))
unfolding pairs
mem_pairs m e = (
  λ k. let r = mem_each (row m) (below m) k in
      let s = mem_row m r.0 r.2 in
      rw s.3 (s.1, s.2),
  λ h. each_mem (row m) ((mem_below m).1 (omega arith))
      (map_mem (λ j. (e.0, j)) (select_mem (ltb e.0) ((mem_below m).1 h.1) (says_leb.test h.0))),
)

-- by i, then by j
abbrev pub PairBefore : ℕ × ℕ → ℕ × ℕ → Type 0
PairBefore e f = Before (e.0 ∷ e.1 ∷ []) (f.0 ∷ f.1 ∷ [])

pub sorted_pairs : (m : ℕ) → Sorted PairBefore (pairs m)
unfolding pairs
sorted_pairs m =
    sorted_each ◌<◌ PairBefore (row m)
    (λ i. sorted_map ◌<◌ PairBefore (λ j. (i, j)) (λ j k h. inr (refl, inl h)) (select (ltb i) (below m)) (sorted_select ◌<◌ (ltb i) (below m) (sorted_count_from 0 m)))
    (λ i j h u v k n. inl (rw ((mem_row m i k).3, (mem_row m j n).3) h))
    (below m) (sorted_count_from 0 m)

-- c is made by f of a pair of which P holds
abbrev Found : {B : Type 0} → (ℕ × ℕ → B) → (ℕ × ℕ → Type 0) → ℕ → B → Type 0
Found f P m c = (e : ℕ × ℕ) × (e.0 < e.1) × (e.1 < m) × P e × (c ≡ f e)

-- what is made of the pairs that pass a test g, which says P
module _ {B : Type 0} (f : ℕ × ℕ → B) (g : ℕ × ℕ → Bool) (P : ℕ × ℕ → Type 0) (says : (e : ℕ × ℕ) → Says (g e) (P e)) (m : ℕ) where
  mem_found : {c : B} → Mem c (map f (select g (pairs m))) ↔ Found f P m c
  mem_found {c} = (
    λ k. let r = mem_map f (select g (pairs m)) k in
        let s = mem_select g (pairs m) r.1 in
        let o = (mem_pairs m r.0).0 s.0 in
        (r.0, o.0, o.1, (says r.0).fact s.1, r.2),
    λ r. rw r.4 (map_mem f (select_mem g ((mem_pairs m r.0).1 (r.1, r.2)) ((says r.0).test r.3))),
  )

sorted_found : {B : Type 0} (f : ℕ × ℕ → B) (g : ℕ × ℕ → Bool) (S : B → B → Type 0) → ((x y : ℕ × ℕ) → PairBefore x y → S (f x) (f y))
    → (m : ℕ) → Sorted S (map f (select g (pairs m)))
sorted_found f g S up m = sorted_map PairBefore S f up (select g (pairs m)) (sorted_select PairBefore g (pairs m) (sorted_pairs m))

same_carrier : (i j : Carrier) → i.0 ≡ j.0 → i ≡ j
same_carrier i j e = ap carrier e

-- the order of collisions
abbrev pub Earlier : Collision → Collision → Type 0
Earlier c e = Before (rank c) (rank e)

module _ (ps : List (List ℕ)) (t : ℕ) where
  abbrev OnePlace : ℕ × ℕ → Type 0
  OnePlace e = place_at ps e.0 t ≡ place_at ps e.1 t

  abbrev Exchange : ℕ × ℕ → Type 0
  Exchange e =
      ((place_at ps e.0 t ≡ place_at ps e.1 (suc t)) × (place_at ps e.0 (suc t) ≡ place_at ps e.1 t))
      × (place_at ps e.0 t ≢ place_at ps e.0 (suc t))

  says_place : (e : ℕ × ℕ) → Says (place_collides ps t e) (OnePlace e)
  unfolding place_collides
  says_place e = says_eqb

  says_move : (e : ℕ × ℕ) → Says (move_collides ps t e) (Exchange e)
  unfolding move_collides
  says_move e = says_and (says_and says_eqb says_eqb) (says_not says_eqb)

module _ (m h : ℕ) (ps : List (List ℕ)) where
  abbrev places : ℕ → List Collision
  places t = map (place_collision ps t) (select (place_collides ps t) (pairs m))

  abbrev moves : ℕ → List Collision
  moves t = map (move_collision ps t) (select (move_collides ps t) (pairs m))

  mem_places : (t : ℕ) {c : Collision} → Mem c (places t) ↔ Found (place_collision ps t) (OnePlace ps t) m c
  mem_places t = mem_found (place_collision ps t) (place_collides ps t) (OnePlace ps t) (says_place ps t) m

  mem_moves : (t : ℕ) {c : Collision} → Mem c (moves t) ↔ Found (move_collision ps t) (Exchange ps t) m c
  mem_moves t = mem_found (move_collision ps t) (move_collides ps t) (Exchange ps t) (says_move ps t) m

  -- the collisions at t are place collisions or, with t < h, move collisions
  abbrev FoundAt : ℕ → Collision → Type 0
  FoundAt t c = Found (place_collision ps t) (OnePlace ps t) m c ⊎ ((t < h) × Found (move_collision ps t) (Exchange ps t) m c)

  mem_at : (t : ℕ) {c : Collision} → Mem c (collisions_at m h ps t) ↔ FoundAt t c
  unfolding collisions_at
  mem_at t {c} = (
    λ k. ⊎_elim
        (λ n. inl ((mem_places t).0 n))
        (λ n. let r = (mem_cond (ltb t h) (moves t)).0 n in inr (says_leb.fact r.0, (mem_moves t).0 r.1))
        (cases_append (places t) k),
    λ k. ⊎_elim
        (λ f. in_left (cond (ltb t h) (moves t) []) ((mem_places t).1 f))
        (λ f. in_right (places t) ((mem_cond (ltb t h) (moves t)).1 (says_leb.test f.0, (mem_moves t).1 f.1)))
        k,
  )

  found_collided : (t : ℕ) (c : Collision) → t ≤ h → FoundAt t c → Collided m h ps c
  found_collided t c le (inl (e, ij, jm, on, q)) = rw q (ij, jm, (le, refl, sym on))
  found_collided t c le (inr (lt, (e, ij, jm, on, q))) = rw q (ij, jm, (lt, refl, refl, sym on.0.1, sym on.0.0, on.1))

  collided_found : (c : Collision) → Collided m h ps c → (t : ℕ) × (t ≤ h) × FoundAt t c
  collided_found (Place t i j u) (ij, jm, (le, pu, qu)) = (t, le, inl ((i.0, j.0), ij, jm, pu ∙ sym qu, ap (Place t i j) (sym pu)))
  collided_found (Move t i j u v) (ij, jm, (lt, pu, pv, qv, qu, ne)) =
      (t, omega arith, inr (lt, ((i.0, j.0), ij, jm, ((pu ∙ sym qu, pv ∙ sym qv), λ e. ne (sym pu ∙ e ∙ pv)), cc)))

  -- exactly the collisions of the m paths are listed
  pub collided_mem : (c : Collision) → Mem c (collisions m h ps) ↔ Collided m h ps c
  unfolding collisions
  collided_mem c = (
    λ k. let r = mem_each (collisions_at m h ps) (below (suc h)) k in
        let b = (mem_below (suc h)).0 r.1 in
        found_collided r.0 c (omega arith) ((mem_at r.0).0 r.2),
    λ k. let r = collided_found c k in
        each_mem (collisions_at m h ps) ((mem_below (suc h)).1 (omega (arith, r.1))) ((mem_at r.0).1 r.2),
  )

  -- the rank of a collision at t begins with t
  rank_at : (t : ℕ) (c : Collision) → FoundAt t c → (r : List ℕ) × (rank c ≡ t ∷ r)
  rank_at t c (inl (e, ij, jm, on, q)) = (0 ∷ e.0 ∷ e.1 ∷ [], ap rank q)
  rank_at t c (inr (lt, (e, ij, jm, on, q))) = (1 ∷ e.0 ∷ e.1 ∷ [], ap rank q)

  sorted_at : (t : ℕ) → Sorted Earlier (collisions_at m h ps t)
  unfolding collisions_at
  sorted_at t =
      sorted_append Earlier (places t) (cond (ltb t h) (moves t) [])
      (sorted_found (place_collision ps t) (place_collides ps t) Earlier (λ x y b. inr (refl, inr (refl, b))) m)
      (sorted_cond Earlier (ltb t h) (moves t)
      (sorted_found (move_collision ps t) (move_collides ps t) Earlier (λ x y b. inr (refl, inr (refl, b))) m))
      (λ x y k n.
      let e : x ≡ place_collision ps t _ = ((mem_places t).0 k).4 in
      let f : y ≡ move_collision ps t _ = ((mem_moves t).0 ((mem_cond (ltb t h) (moves t)).0 n).1).4 in
      rw (e, f) (inr (refl, inl (omega arith))))

  -- the list stands in the order of the ranks
  pub sorted_collisions : Sorted Earlier (collisions m h ps)
  unfolding collisions
  sorted_collisions =
      sorted_each ◌<◌ Earlier (collisions_at m h ps) sorted_at
      (λ s t lt c e k n.
      let a = rank_at s c ((mem_at s).0 k) in
      let b = rank_at t e ((mem_at t).0 n) in
      rw (a.1, b.1) (inl lt))
      (below (suc h)) (sorted_count_from 0 (suc h))

  pub none_listed : (collisions m h ps ≡ []) ↔ ((c : Collision) → ¬ Collided m h ps c)
  none_listed = (λ e c k. not-nil (rw e at ((collided_mem c).1 k)), λ n. nil_of_none (collisions m h ps) (λ c k. n c ((collided_mem c).0 k)))

  -- what an answer to "which is the first collision" means
  abbrev pub FirstMeant : Option Collision → Type 0
  FirstMeant None = (c : Collision) → ¬ Collided m h ps c
  FirstMeant (Some c) = FirstCollision m h ps c

  -- the first collision is none exactly if nothing collides, and else the first by time, place before move, i and j
  pub first_collision_meant : FirstMeant (first_collision m h ps)
  unfolding first_collision
  first_collision_meant = go (head_of (collisions m h ps)) (head_first Earlier (collisions m h ps) sorted_collisions)
    where
      go : (o : Option Collision) → Head Earlier (collisions m h ps) o → FirstMeant o
      go None e = none_listed.0 e
      go (Some c) k = record { collided = (collided_mem c).0 k.0; first = λ e n. ⊎_elim (λ q. rw q (before_refl (rank c))) (λ r. r) (k.1 e ((collided_mem e).1 n)) }

  -- the rank determines the collision: it says the time and the carriers, and these say the places
  rank_same : (c e : Collision) → Collided m h ps c → Collided m h ps e → rank c ≡ rank e → c ≡ e
  rank_same (Place t i j u) (Place s k l v) a b q = let f = same_carrier i k (cc) in let g = same_carrier j l (cc) in cc
  rank_same (Place t i j u) (Move s k l v w) a b q = let z : ◌≡◌ {A = ℕ} 0 1 = cc in absurd (omega arith)
  rank_same (Move t i j u x) (Place s k l v) a b q = let z : ◌≡◌ {A = ℕ} 0 1 = cc in absurd (omega arith)
  rank_same (Move t i j u x) (Move s k l v w) a b q = let f = same_carrier i k (cc) in let g = same_carrier j l (cc) in cc

  pub first_collision_unique : (c e : Collision) → FirstCollision m h ps c → FirstCollision m h ps e → c ≡ e
  first_collision_unique c e f g =
      rank_same c e f.collided g.collided (before_antisym (rank c) (rank e) (f.first e g.collided) (g.first c f.collided))

  -- the first collision of the meaning is the one that the definition finds
  pub first_collision_is : {c : Collision} → FirstCollision m h ps c → first_collision m h ps ≡ Some c
  first_collision_is {c} f = go (first_collision m h ps) first_collision_meant
    where
      go : (o : Option Collision) → FirstMeant o → o ≡ Some c
      go None k = absurd (k c f.collided)
      go (Some e) k = ap Some (first_collision_unique e c k f)

  -- where nothing collides, the definition finds nothing
  pub no_first_collision : ((c : Collision) → ¬ Collided m h ps c) → first_collision m h ps ≡ None
  no_first_collision n = go (first_collision m h ps) first_collision_meant
    where
      go : (o : Option Collision) → FirstMeant o → o ≡ None
      go None k = refl
      go (Some c) k = absurd (n c k.collided)

  -- the paths of a collision collide, and two paths that collide have a collision
  pub none_collided : ((c : Collision) → ¬ Collided m h ps c) ↔ ((i j : ℕ) → i < j → j < m → ¬ Collides h (path_of ps i) (path_of ps j))
  none_collided = (
    λ n i j ij jm. ⊎_elim
        (λ k. n (Place k.0 (carrier i) (carrier j) k.1) (ij, jm, k.2))
        (λ k. n (Move k.0 (carrier i) (carrier j) k.1 k.2) (ij, jm, k.3)),
    go,
  )
    where
      go : ((i j : ℕ) → i < j → j < m → ¬ Collides h (path_of ps i) (path_of ps j)) → (c : Collision) → ¬ Collided m h ps c
      go n (Place t i j u) k = n i.0 j.0 k.0 k.1 (inl (t, u, k.2))
      go n (Move t i j u v) k = n i.0 j.0 k.0 k.1 (inr (t, u, v, k.2))

  -- no collision is listed exactly if no two paths collide
  pub no_collisions : (collisions m h ps ≡ []) ↔ ((i j : ℕ) → i < j → j < m → ¬ Collides h (path_of ps i) (path_of ps j))
  no_collisions = (λ e. none_collided.0 (none_listed.0 e), λ n. none_listed.1 (none_collided.1 n))

  -- where there is no first collision, no two paths collide
  pub no_first_collides : first_collision m h ps ≡ None → (i j : ℕ) → i < j → j < m → ¬ Collides h (path_of ps i) (path_of ps j)
  no_first_collides e = none_collided.0 (subst FirstMeant e first_collision_meant)
