-- What records say as constraints: the carrier's of a time are those that bar it then, and each is a record. Assumes nothing.
use Rattle.std.proofs.Common.{ℕ, zero, suc, ◌/◌, ◌<◌, ◌≡◌, refl, sym, ap, ◌∙◌, subst, Bool, true, false, not, ◌&&◌, List, [], ◌∷◌, map, arith, length, T, eqb}
use Rattle.std.specs.List.{list_all, range_with_len}
use Rattle.std.proofs.lemmas.List.{length-map, get_or-map}
use Rattle.std.proofs.lemmas.List.FromFn.{fill_by_all}
use Rattle.deck.proofs.Members.{Mem, here, there, map_mem}
use Rattle.std.proofs.lemmas.Bool.{false≢true}
use Rattle.deck.specs.Lists.{below, all}
use Rattle.deck.specs.Sheet.{carrier}
use Rattle.deck.specs.Calls.{record_word, constraint_of, constraint_at, constraints_of}
use Rattle.deck.specs.declared.Carrier.{Carrier}
use Rattle.deck.specs.declared.Constraint.{Constraint}
use Rattle.meaning.proofs.Tests.{same_test}
use Rattle.meaning.proofs.Lists.{mem_map, mem_below, length_below, get_or_below}
use Rattle.kernel.specs.Parts.{bars_move, bars_place, free_move, free_place, stay_after}
use Rattle.kernel.proofs.Both.{and_left, and_right}
use Rattle.bars.specs.Padded.{pad_of}
use Rattle.bars.specs.Bars.{count_in, own_at, OnLayer, OnPadded, ours_at, moves, stands_on}
use Rattle.bars.proofs.Walks.{ours_mem, mem_ours}

-- a record is a constraint of the list, and each constraint is a record
pub record_mem : (rs : List ℕ) (k : ℕ) → k < count_in rs → Mem (constraint_at rs k) (constraints_of rs)
unfolding constraints_of
record_mem rs k h = map_mem (constraint_at rs) ((mem_below (length rs / 5)).1 h)

pub mem_record : (rs : List ℕ) (c : Constraint) → Mem c (constraints_of rs) → (k : ℕ) × (k < count_in rs) × (c ≡ constraint_at rs k)
unfolding constraints_of
mem_record rs c m = let r = mem_map (constraint_at rs) (below (length rs / 5)) m in (r.0, (mem_below (length rs / 5)).0 r.1, r.2)

-- a test that all pass, each does; and one that not all pass, one does not
module _ {A : Type 0} (f : A → Bool) where
  pub each_passes : (l : List A) → T (list_all (λ x. not (f x)) l) → (x : A) → Mem x l → ¬ T (f x)
  each_passes [] t x m = elim m [ ]
  each_passes (y ∷ l) t x (here e) = subst (λ (z : A). ¬ T (f z)) (sym e) (fails (f y) (and_left (not (f y)) _ t))
    where
      fails : (b : Bool) → T (not b) → ¬ T b
      fails true n = absurd n
      fails false n = λ k. k
  each_passes (y ∷ l) t x (there m) = each_passes l (and_right (not (f y)) _ t) x m

  pub all_pass : (l : List A) → ((x : A) → Mem x l → ¬ T (f x)) → T (list_all (λ x. not (f x)) l)
  all_pass [] h = tt
  all_pass (y ∷ l) h = go (f y) (h y (here refl)) (all_pass l (λ x m. h x (there m)))
    where
      go : (b : Bool) → ¬ T b → T (list_all (λ x. not (f x)) l) → T (not b && list_all (λ x. not (f x)) l)
      go true n r = absurd (n tt)
      go false n r = r

  pub one_fails : (l : List A) → list_all (λ x. not (f x)) l ≡ false → (x : A) × Mem x l × T (f x)
  one_fails [] e = absurd (false≢true (sym e))
  one_fails (y ∷ l) e = go (f y) refl e (one_fails l)
    where
      go : (b : Bool) → f y ≡ b → (not b && list_all (λ x. not (f x)) l) ≡ false → (list_all (λ x. not (f x)) l ≡ false → (x : A) × Mem x l × T (f x))
          → (x : A) × Mem x (y ∷ l) × T (f x)
      go true q h ih = (y, here refl, subst T (sym q) tt)
      go false q h ih = let r = ih h in (r.0, there r.1, r.2)

  all_is : (l : List A) → all f l ≡ list_all f l
  all_is [] = refl
  all_is (y ∷ l) = ap (λ (b : Bool). f y && b) (all_is l)

module _ (rs : List ℕ) (i t : ℕ) where
  -- a test of the constraints that only the carrier's at t can fail
  all_ours : (f g : Constraint → Bool) → ((k : ℕ) → f (constraint_at rs k) ≡ (own_at rs i t k && g (constraint_at rs k)))
      → all (λ c. not (f c)) (constraints_of rs) ≡ list_all (λ c. not (g c)) (ours_at rs i t)
  all_ours f g same = all_is (λ c. not (f c)) (constraints_of rs) ∙ same_test _ _
      (λ h. all_pass g (ours_at rs i t) (λ c m x.
      let r = ours_mem rs i t (count_in rs) m in
      each_passes f (constraints_of rs) h (constraint_at rs r.0) (record_mem rs r.0 r.1)
      (subst T (sym (same r.0)) (both (own_at rs i t r.0) _ r.2 (subst (λ (z : Constraint). T (g z)) r.3 x)))))
      (λ h. all_pass f (constraints_of rs) (λ c m x.
      let r = mem_record rs c m in
      let y : T (own_at rs i t r.0 && g (constraint_at rs r.0)) = subst T (ap f r.2 ∙ same r.0) x in
      each_passes g (ours_at rs i t) h (constraint_at rs r.0) (mem_ours rs i t (count_in rs) r.0 r.1 (and_left (own_at rs i t r.0) _ y)) (and_right (own_at rs i t r.0) _ y)))
    where
      both : (a b : Bool) → T a → T b → T (a && b)
      both true b x y = y
      both false b x y = absurd x

  -- which moves and places the carrier's constraints leave free
  pub move_ours : (u v : ℕ) → free_move (carrier i) (constraints_of rs) t u v ≡ list_all (λ c. not (moves u v c)) (ours_at rs i t)
  unfolding free_move
  move_ours u v = all_ours (bars_move (carrier i) t u v) (moves u v) (λ k. go k (record_word rs k 0))
    where
      and_assoc : (a b c : Bool) → (a && b && c) ≡ (a && (b && c))
      and_assoc true b c = refl
      and_assoc false b c = refl

      no : (a : Bool) → false ≡ (a && false)
      no true = refl
      no false = refl

      go : (k z : ℕ) → let c : Constraint = constraint_of z (carrier (record_word rs k 1)) (record_word rs k 2) (record_word rs k 3) (record_word rs k 4) in
          bars_move (carrier i) t u v c ≡ (own_at rs i t k && moves u v c)
      go k zero = no (own_at rs i t k)
      go k (suc z) = and_assoc (own_at rs i t k) (eqb u (record_word rs k 2)) (eqb v (record_word rs k 3))

  pub place_ours : (v : ℕ) → free_place (carrier i) (constraints_of rs) t v ≡ list_all (λ c. not (stands_on v c)) (ours_at rs i t)
  unfolding free_place
  place_ours v = all_ours (bars_place (carrier i) t v) (stands_on v) (λ k. go k (record_word rs k 0))
    where
      no : (a : Bool) → false ≡ (a && false)
      no true = refl
      no false = refl

      go : (k z : ℕ) → let c : Constraint = constraint_of z (carrier (record_word rs k 1)) (record_word rs k 2) (record_word rs k 3) (record_word rs k 4) in
          bars_place (carrier i) t v c ≡ (own_at rs i t k && stands_on v c)
      go k zero = refl
      go k (suc z) = no (own_at rs i t k)

  -- the places of each are indexes of a layer
  pub ours_on : (w : ℕ) → OnLayer w rs → (c : Constraint) → Mem c (ours_at rs i t) → OnPadded w c
  ours_on w on c m =
      let r = ours_mem rs i t (count_in rs) m in
      subst (OnPadded w) (sym r.3) (go r.0 (on r.0 r.1) (record_word rs r.0 0))
    where
      go : (k : ℕ) → (record_word rs k 2 < 1024) × (record_word rs k 3 < 1024) × (pad_of w (record_word rs k 2) < 1156) × (pad_of w (record_word rs k 3) < 1156)
          → (z : ℕ) → OnPadded w (constraint_of z (carrier (record_word rs k 1)) (record_word rs k 2) (record_word rs k 3) (record_word rs k 4))
      go k h zero = (h.0, h.2)
      go k h (suc z) = h

-- the times of all records, one by one
pub stay_times : (rs : List ℕ) (i : Carrier) (g : ℕ) → map (stay_after i g) (constraints_of rs) ≡ map (λ k. stay_after i g (constraint_at rs k)) (range_with_len 0 (count_in rs))
unfolding constraints_of
stay_times rs i g =
    fill_by_all (λ k. stay_after i g (constraint_at rs k)) _ (count_in rs) (stay_after i g (constraint_at rs 0))
    (length-map (constraints_of rs) (stay_after i g) ∙ length_below (count_in rs) (constraint_at rs))
    (λ k h. get_or-map (stay_after i g) (constraints_of rs) k (constraint_at rs 0) (stay_after i g (constraint_at rs 0)) (omega (arith, h, length_below (count_in rs) (constraint_at rs))) ∙ ap (stay_after i g) (get_or_below (count_in rs) (constraint_at rs) k (constraint_at rs 0) h))
