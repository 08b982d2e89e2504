-- A walk on the sheet's grid is one that is packed and read back; a least path is such a walk; and it depends on the constraints of its
-- carrier alone. Assumes nothing.
use Rattle.std.specs.Prelude.{Option, None, Some}
use Rattle.std.proofs.Common.{◌≡◌, refl, sym, ◌∙◌, ap, subst, inl, inr, Bool, true, false, cond, ◌&&◌, List, [], ◌∷◌, ℕ, zero, suc, ◌+◌, ◌*◌, ◌/◌, ◌%◌, ◌<◌, ◌≤◌, div-add-mod', suc-mul, add-one, arith, length, get_or, ltb, ltb-true, ltb-false}
use Rattle.deck.proofs.Members.{Mem}
use Rattle.std.proofs.Math.ListN.{get_or-eq_default}
use Rattle.deck.specs.Lists.{all, select, take_least}
use Rattle.deck.specs.Sheet.{Sheet, area, start_of, carrier}
use Rattle.deck.specs.Paths.{walks, finish_of, serves, keeps, paths_under, taken, least_path}
use Rattle.deck.specs.declared.Carrier.{Carrier}
use Rattle.deck.specs.declared.Task.{Task}
use Rattle.deck.specs.declared.Constraint.{Constraint}
use Rattle.deck.specs.declared.Constraint.TheVariants.{Place, Move}
use Rattle.meaning.specs.Meaning.{OneApart, Step}
use Rattle.meaning.proofs.Lists.{mem_select, Took, took}
use Rattle.meaning.proofs.Walks.{Walk, walk_of_mem, step_iff}
use Rattle.meaning.proofs.Paths.{step_meant}
use Rattle.pack.specs.Pack.{Walk as Packed, Step as PackedStep, pack_of, unpack_of}
use Rattle.pack.proofs.Trips.{round_trip}
use Rattle.nodes.specs.Nodes.{binds}
use Rattle.nodes.specs.Stored.{Fits}
use Rattle.nodes.proofs.Tables.{select_every}

-- a step of the grid is one of the five
module _ (d : Sheet) (u v : ℕ) where
  place : (x : ℕ) → x / d.width * d.width + x % d.width ≡ x
  place x = div-add-mod' x d.width

  row : u / d.width ≡ v / d.width → OneApart (u % d.width) (v % d.width) → PackedStep d.width u v
  row e (inl g) =
      let a : v / d.width * d.width + u % d.width ≡ u = rw e at (place u) in
      inr (inr (inr (inl (omega (arith, place v, a, g)))))
  row e (inr g) =
      let a : v / d.width * d.width + u % d.width ≡ u = rw e at (place u) in
      inr (inr (inl (omega (arith, place v, a, g))))

  column : u % d.width ≡ v % d.width → OneApart (u / d.width) (v / d.width) → PackedStep d.width u v
  column e (inl g) =
      let a : suc (u / d.width) * d.width + v % d.width ≡ v = rw (← g) at (place v) in
      inr (inr (inr (inr (omega (arith, place u, a, e, suc-mul (u / d.width) d.width)))))
  column e (inr g) =
      let a : suc (v / d.width) * d.width + u % d.width ≡ u = rw (← g) at (place u) in
      inr (inl (omega (arith, place v, a, e, suc-mul (v / d.width) d.width)))

  step_packed : Step d u v → PackedStep d.width u v
  step_packed (inl e) = inl (sym e)
  step_packed (inr (f, (inl (e, g), l))) = row e g
  step_packed (inr (f, (inr (e, g), l))) = column e g

module _ (d : Sheet) (f : Fits d) (i : ℕ) (b : i < d.count) (p : List ℕ) (m : Mem p (walks d d.horizon (start_of d (carrier i)))) where
  walk : Walk d d.horizon (start_of d (carrier i)) p
  walk = walk_of_mem d d.horizon (start_of d (carrier i)) m

  pub walk_long : length p ≡ d.horizon + 1
  walk_long = walk.long ∙ sym (add-one d.horizon)

  -- each place is on the grid
  pub walk_inside : (t : ℕ) → t ≤ d.horizon → get_or p t 0 < area d
  walk_inside zero h = rw walk.begins (f.starts i b)
  walk_inside (suc t) h = ((step_iff d (get_or p t 0) (get_or p (suc t) 0)).0 (walk.goes t (omega arith))).0

  small : (t : ℕ) → get_or p t 0 < 65536
  small t = go (ltb t (d.horizon + 1)) refl
    where
      go : (x : Bool) → ltb t (d.horizon + 1) ≡ x → get_or p t 0 < 65536
      go true e = omega (arith, walk_inside t (omega (arith, ltb-true t (d.horizon + 1) e)), f.places)
      go false e = rw (get_or-eq_default p 0 {n = t} (omega (arith, walk_long, ltb-false t (d.horizon + 1) e))) (omega arith)

  grid_walk : Packed d.width d.horizon (start_of d (carrier i)) p
  grid_walk =
      record {
        size = walk_long;
        begins = walk.begins;
        words = small;
        steps = λ t h. rw (add-one t) (step_packed d (get_or p t 0) (get_or p (suc t) 0) ((step_meant d (get_or p t 0) (get_or p (suc t) 0)).fact ((step_iff d (get_or p t 0) (get_or p (suc t) 0)).0 (walk.goes t h)).1));
      }

  -- a path of the grid is read back as it was packed
  pub read_back : unpack_of d.width d.horizon (pack_of d.width d.horizon p) (start_of d (carrier i)) ≡ p
  read_back = round_trip d.width d.horizon (start_of d (carrier i)) p f.width (omega (arith, f.horizon)) grid_walk

-- a least path is a walk
pub least_walk : (d : Sheet) (i : Carrier) (j : Task) (cs : List Constraint) (p : List ℕ) → least_path d i j cs ≡ Some p → Mem p (walks d d.horizon (start_of d i))
unfolding least_path paths_under
least_walk d i j cs p e =
    go (take_least (finish_of d j) (select test (walks d d.horizon (start_of d i)))) (took (finish_of d j) (select test (walks d d.horizon (start_of d i)))) e
  where
    test : List ℕ → Bool
    test q = serves d j q && all (keeps i q) cs

    go : (o : Option (List ℕ × List (List ℕ))) → Took (finish_of d j) (select test (walks d d.horizon (start_of d i))) o → taken o ≡ Some p → Mem p (walks d d.horizon (start_of d i))
    go None t q = absurd (let z : ◌≡◌ {A = ℕ} 0 1 = cc in omega arith)
    go (Some t) k q =
        let z : t.0 ≡ p = cc in
        subst (λ (x : List ℕ). Mem x (walks d d.horizon (start_of d i))) z (mem_select test (walks d d.horizon (start_of d i)) k.0.taken).0

-- THE CONSTRAINTS OF THE CARRIER ALONE
keeps_other : (i : Carrier) (p : List ℕ) (c : Constraint) → binds i c ≡ false → keeps i p c ≡ true
unfolding keeps
keeps_other i p (Place a u t) e = rw e
keeps_other i p (Move a u v t) e = rw e

keeps_bound : (i : Carrier) (p : List ℕ) (cs : List Constraint) → all (keeps i p) cs ≡ all (keeps i p) (select (binds i) cs)
keeps_bound i p [] = refl
keeps_bound i p (c ∷ cs) = go (binds i c) refl (keeps_bound i p cs)
  where
    go : (b : Bool) → binds i c ≡ b → all (keeps i p) cs ≡ all (keeps i p) (select (binds i) cs)
        → (keeps i p c && all (keeps i p) cs) ≡ all (keeps i p) (cond b (c ∷ select (binds i) cs) (select (binds i) cs))
    go true e ih = rw ih
    go false e ih = rw (keeps_other i p c e) ih

pub least_bound : (d : Sheet) (i : Carrier) (j : Task) (cs : List Constraint) → least_path d i j cs ≡ least_path d i j (select (binds i) cs)
unfolding least_path paths_under
least_bound d i j cs =
    ap (λ (l : List (List ℕ)). taken (take_least (finish_of d j) l))
    (select_every (λ p. serves d j p && all (keeps i p) cs) (λ p. serves d j p && all (keeps i p) (select (binds i) cs)) (walks d d.horizon (start_of d i))
    (λ p. ap (λ (b : Bool). serves d j p && b) (keeps_bound i p cs)))
