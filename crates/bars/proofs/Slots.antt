-- What is cleared along a chain is what the carrier's constraints bar. Assumes nothing.
use Rattle.std.proofs.Common.{ℕ, zero, suc, ◌+◌, ◌≤◌, ◌<◌, ◌≡◌, refl, sym, ap, ◌∙◌, subst, Bool, true, false, cond, not, List, [], ◌∷◌, length, get_or, Option, Some, None, T, eqb, arith, ◌⊎◌, inl, inr, ⊎_elim, set, length-set, get_or-set_same, get_or-set_other, eqb-true}
use Rattle.std.proofs.lemmas.Bool.{cases_lt}
use Rattle.std.specs.List.{list_all}
use Rattle.deck.proofs.Members.{Mem, here, there}
use Rattle.std.proofs.Math.Decide.{ℕ_discrete}
use Rattle.std.proofs.Math.ListN.{get_or-eq_default}
use Rattle.deck.specs.Sheet.{carrier}
use Rattle.deck.specs.Calls.{constraints_of}
use Rattle.deck.specs.declared.Constraint.{Constraint}
use Rattle.deck.specs.declared.Constraint.TheVariants.{Place, Move}
use Rattle.meaning.proofs.Tests.{says_eqb, says_and}
use Rattle.kernel.specs.Parts.{free_place, free_move}
use Rattle.bars.specs.Padded.{pad_of}
use Rattle.bars.specs.Bars.{OnLayer, OnPadded, ours_at, moves, stands_on, way_of, slot_of, move_slot, place_slot, SlotIn, Cleared}
use Rattle.bars.proofs.Records.{each_passes, one_fails, move_ours, place_ours, ours_on}
use Rattle.bars.proofs.Grid.{pad_inj}

-- The way between two padded places says where it comes from
abbrev Came : ℕ → ℕ → ℕ → ℕ → Type 0
Came wide a b zero = a + wide ≡ b
Came wide a b (suc zero) = a + 1 ≡ b
Came wide a b (suc (suc zero)) = a ≡ b
Came wide a b (suc (suc (suc zero))) = a ≡ b + 1
Came wide a b (suc (suc (suc (suc zero)))) = a ≡ b + wide
Came wide a b (suc (suc (suc (suc (suc k))))) = Unit {0}

came : (wide a b : ℕ) → Came wide a b (way_of wide a b)
came wide a b = go0 (eqb (a + wide) b) refl
  where
    go4 : (c : Bool) → eqb a (b + wide) ≡ c → Came wide a b (cond c 4 5)
    go4 true e = eqb-true a (b + wide) e
    go4 false e = tt

    go3 : (c : Bool) → eqb a (b + 1) ≡ c → Came wide a b (cond c 3 (cond (eqb a (b + wide)) 4 5))
    go3 true e = eqb-true a (b + 1) e
    go3 false e = go4 (eqb a (b + wide)) refl

    go2 : (c : Bool) → eqb a b ≡ c → Came wide a b (cond c 2 (cond (eqb a (b + 1)) 3 (cond (eqb a (b + wide)) 4 5)))
    go2 true e = eqb-true a b e
    go2 false e = go3 (eqb a (b + 1)) refl

    go1 : (c : Bool) → eqb (a + 1) b ≡ c → Came wide a b (cond c 1 (cond (eqb a b) 2 (cond (eqb a (b + 1)) 3 (cond (eqb a (b + wide)) 4 5))))
    go1 true e = eqb-true (a + 1) b e
    go1 false e = go2 (eqb a b) refl

    go0 : (c : Bool) → eqb (a + wide) b ≡ c
        → Came wide a b (cond c 0 (cond (eqb (a + 1) b) 1 (cond (eqb a b) 2 (cond (eqb a (b + 1)) 3 (cond (eqb a (b + wide)) 4 5)))))
    go0 true e = eqb-true (a + wide) b e
    go0 false e = go1 (eqb (a + 1) b) refl

came_one : (wide a e b k : ℕ) → k < 5 → Came wide a b k → Came wide e b k → a ≡ e
came_one wide a e b zero l p q = omega arith
came_one wide a e b (suc zero) l p q = omega arith
came_one wide a e b (suc (suc zero)) l p q = omega arith
came_one wide a e b (suc (suc (suc zero))) l p q = omega arith
came_one wide a e b (suc (suc (suc (suc zero)))) l p q = omega arith
came_one wide a e b (suc (suc (suc (suc (suc k))))) l p q = absurd (omega arith)

-- a slot is that of one step only
slot_inj : (wide a b e f : ℕ) → b < 1156 → f < 1156 → way_of wide e f < 5 → slot_of wide a b ≡ slot_of wide e f → (a ≡ e) × (b ≡ f)
slot_inj wide a b e f l m k h =
    let y : b ≡ f = omega arith in
    let z : way_of wide a b ≡ way_of wide e f = omega arith in
    let p : Came wide a f (way_of wide e f) = subst (λ (x : ℕ). Came wide a x (way_of wide e f)) y (subst (Came wide a b) z (came wide a b)) in
    (came_one wide a e f (way_of wide e f) k p (came wide e f), y)

-- a value that is kept where the test passes, and 0 where not
kept_if : (b : Bool) (after before : ℕ) → (b ≡ true → after ≡ before) → (b ≡ false → after ≡ 0) → after ≡ cond b before 0
kept_if true after before h g = h refl
kept_if false after before h g = g refl

-- Clearing one slot after the other
module _ (n : ℕ) (slot : Constraint → ℕ) where
  abbrev pub clear_all : List Constraint → List ℕ → List ℕ
  clear_all [] x = x
  clear_all (c ∷ cs) x = clear_all cs (set x (slot c) 0)

  pub cleared_all : (cs : List Constraint) (x : List ℕ) → length x ≡ n → Cleared slot cs x (clear_all cs x)
  cleared_all [] x e = record { size = refl; gone = λ c m. elim m [ ]; same = λ y h. refl; less = λ y. omega arith }
  cleared_all (c ∷ cs) x e =
      let r = cleared_all cs (set x (slot c) 0) (length-set x (slot c) 0 ∙ e) in
      record {
        size = r.size ∙ length-set x (slot c) 0;
        gone = λ y m. at_one r y m;
        same = λ y h. r.same y (λ z m. h z (there m)) ∙ get_or-set_other x (slot c) y 0 0 (λ q. h c (here refl) (sym q));
        less = λ y. by_slot r y (ℕ_discrete y (slot c));
      }
    where
      zero_at : get_or (set x (slot c) 0) (slot c) 0 ≡ 0
      zero_at = zero_set (cases_lt (slot c) (length x))
        where
          zero_set : (slot c < length x) ⊎ (length x ≤ slot c) → get_or (set x (slot c) 0) (slot c) 0 ≡ 0
          zero_set (inl h) = get_or-set_same x (slot c) 0 0 h
          zero_set (inr h) = get_or-eq_default (set x (slot c) 0) 0 (omega (arith, length-set x (slot c) 0))

      at_one : Cleared slot cs (set x (slot c) 0) (clear_all cs (set x (slot c) 0)) → (y : Constraint) → Mem y (c ∷ cs) → get_or (clear_all cs (set x (slot c) 0)) (slot y) 0 ≡ 0
      at_one r y (here q) = rw q (omega (arith, r.less (slot c), zero_at))
      at_one r y (there m) = r.gone y m

      by_slot : Cleared slot cs (set x (slot c) 0) (clear_all cs (set x (slot c) 0)) → (y : ℕ) → Dec (y ≡ slot c) → get_or (clear_all cs (set x (slot c) 0)) y 0 ≤ get_or x y 0
      by_slot r y (yes q) = rw q (omega (arith, r.less (slot c), zero_at))
      by_slot r y (no q) = omega (arith, r.less y, get_or-set_other x (slot c) y 0 0 q)

  -- while a walk clears: what is left to clear comes to the whole, which clears a list of n entries
  pub record Clearing (w : ℕ) (rest : List Constraint) (now whole : List ℕ) : Type 0 where
    pub on : (c : Constraint) → Mem c rest → OnPadded w c
    pub size : length now ≡ n
    pub comes : clear_all rest now ≡ whole

  pub clearing_begins : (w : ℕ) {rest cs : List Constraint} {x : List ℕ} → rest ≡ cs → ((c : Constraint) → Mem c cs → OnPadded w c) → length x ≡ n → Clearing w rest x (clear_all cs x)
  clearing_begins w {x} e on size = record { on = λ c m. on c (subst (Mem c) e m); size = size; comes = ap (λ l. clear_all l x) e }

  module _ (w : ℕ) {rest next : List Constraint} {c : Constraint} {now whole : List ℕ} (h : Clearing w rest now whole) (e : rest ≡ c ∷ next) where
    pub first_on : OnPadded w c
    first_on = h.on c (subst (Mem c) (sym e) (here refl))

    -- a turn that writes, as the list has the slot, and one that does not
    pub one_cleared : {x : ℕ} → x ≡ slot c → Clearing w next (set now x 0) whole
    one_cleared {x} f = record {
      on = λ b m. h.on b (subst (Mem b) (sym e) (there m));
      size = length-set now x 0 ∙ h.size;
      comes = rw f (sym (ap (λ l. clear_all l now) e) ∙ h.comes);
    }

    pub none_cleared : n ≤ slot c → Clearing w next now whole
    none_cleared past = record {
      on = λ b m. h.on b (subst (Mem b) (sym e) (there m));
      size = h.size;
      comes = ap (clear_all next) (sym (set_past now (slot c) (omega (arith, h.size)))) ∙ sym (ap (λ l. clear_all l now) e) ∙ h.comes;
    }
      where
        set_past : (l : List ℕ) (k : ℕ) → length l ≤ k → set l k 0 ≡ l
        set_past [] k h = refl
        set_past (z ∷ l) zero h = absurd (omega arith)
        set_past (z ∷ l) (suc k) h = ap (λ r. z ∷ r) (set_past l k (omega arith))

  pub all_cleared : (w : ℕ) {rest : List Constraint} {now : List ℕ} (cs : List Constraint) (x : List ℕ) → Clearing w rest now (clear_all cs x) → length x ≡ n → rest ≡ [] → Cleared slot cs x now
  all_cleared w {now} cs x h size e = subst (Cleared slot cs x) (sym h.comes ∙ ap (λ l. clear_all l now) e) (cleared_all cs x size)

-- no slot is none of the list
pub no_slot : {n x : ℕ} {r : Option ℕ} → SlotIn n x r → ((y : ℕ) → r ≡ Some y → ⊥) → n ≤ x
no_slot {r = None} h not = h
no_slot {r = Some y} h not = absurd (not y refl)

module _ (rs : List ℕ) (i t w : ℕ) (z : 0 < w) (before after : List ℕ) where
  -- the move that comes to the place v from u, or goes from v to u
  abbrev pub move_by : Bool → ℕ → ℕ → Bool
  move_by back u v = cond back (free_move (carrier i) (constraints_of rs) t v u) (free_move (carrier i) (constraints_of rs) t u v)

  -- what a slot is where the constraints that have it are those that fail a test
  by_slots : (slot : Constraint → ℕ) (test : Constraint → Bool) (free : Bool) → free ≡ list_all (λ c. not (test c)) (ours_at rs i t) → (x : ℕ)
      → ((c : Constraint) → Mem c (ours_at rs i t) → slot c ≡ x → T (test c)) → ((c : Constraint) → Mem c (ours_at rs i t) → T (test c) → slot c ≡ x)
      → Cleared slot (ours_at rs i t) before after → get_or after x 0 ≡ cond free (get_or before x 0) 0
  by_slots slot test free e x hits has c = kept_if free _ _
      (λ f. c.same x (λ b m q. each_passes test (ours_at rs i t) (subst T (sym (sym e ∙ f)) tt) b m (hits b m q)))
      (λ f. let r = one_fails test (ours_at rs i t) (sym e ∙ f) in subst (λ (y : ℕ). get_or after y 0 ≡ 0) (has r.0 r.1 r.2) (c.gone r.0 r.1))

  -- after the carrier's ways at t are shut, the mask of a way is what it was where the move is free, and else 0
  pub way_shut : (back : Bool) (u v : ℕ) → pad_of w u < 1156 → pad_of w v < 1156 → way_of (w + 2) (pad_of w u) (pad_of w v) < 5 → OnLayer w rs
      → Cleared (move_slot w back) (ours_at rs i t) before after
      → get_or after (slot_of (w + 2) (pad_of w u) (pad_of w v)) 0 ≡ cond (move_by back u v) (get_or before (slot_of (w + 2) (pad_of w u) (pad_of w v)) 0) 0
  way_shut true u v a b l on = by_slots (move_slot w true) (moves v u) _ (move_ours rs i t v u) _
      (λ c m. hits c (ours_on rs i t w on c m)) (λ c m. has c)
    where
      hits : (c : Constraint) → OnPadded w c → move_slot w true c ≡ slot_of (w + 2) (pad_of w u) (pad_of w v) → T (moves v u c)
      hits (Place j x s) p q = absurd (omega arith)
      hits (Move j x y s) p q =
          let s = slot_inj (w + 2) (pad_of w y) (pad_of w x) (pad_of w u) (pad_of w v) p.2 b l q in
          (says_and says_eqb says_eqb).test (sym (pad_inj w x v z s.1), sym (pad_inj w y u z s.0))

      has : (c : Constraint) → T (moves v u c) → move_slot w true c ≡ slot_of (w + 2) (pad_of w u) (pad_of w v)
      has (Place j x s) h = absurd h
      has (Move j x y s) h = let f = (says_and (says_eqb {a = v} {b = x}) (says_eqb {a = u} {b = y})).fact h in rw (← f.0, ← f.1) refl
  way_shut false u v a b l on = by_slots (move_slot w false) (moves u v) _ (move_ours rs i t u v) _
      (λ c m. hits c (ours_on rs i t w on c m)) (λ c m. has c)
    where
      hits : (c : Constraint) → OnPadded w c → move_slot w false c ≡ slot_of (w + 2) (pad_of w u) (pad_of w v) → T (moves u v c)
      hits (Place j x s) p q = absurd (omega arith)
      hits (Move j x y s) p q =
          let s = slot_inj (w + 2) (pad_of w x) (pad_of w y) (pad_of w u) (pad_of w v) p.3 b l q in
          (says_and says_eqb says_eqb).test (sym (pad_inj w x u z s.0), sym (pad_inj w y v z s.1))

      has : (c : Constraint) → T (moves u v c) → move_slot w false c ≡ slot_of (w + 2) (pad_of w u) (pad_of w v)
      has (Place j x s) h = absurd h
      has (Move j x y s) h = let f = (says_and (says_eqb {a = u} {b = x}) (says_eqb {a = v} {b = y})).fact h in rw (← f.0, ← f.1) refl

  -- after the carrier's places at t are cleared, a label is what it was where the place is free, and else 0
  pub place_cleared : (v : ℕ) → length before ≡ 1156 → Cleared (place_slot w) (ours_at rs i t) before after
      → get_or after (pad_of w v) 0 ≡ cond (free_place (carrier i) (constraints_of rs) t v) (get_or before (pad_of w v) 0) 0
  place_cleared v size c = ⊎_elim
      (λ l. by_slots (place_slot w) (stands_on v) _ (place_ours rs i t v) _ (λ b m. hits l b) (λ b m. has b) c)
      (λ l. past (free_place (carrier i) (constraints_of rs) t v) (get_or-eq_default after 0 (omega (arith, c.size))) (get_or-eq_default before 0 (omega arith)))
      (cases_lt (pad_of w v) 1156)
    where
      past : (b : Bool) {x y : ℕ} → x ≡ 0 → y ≡ 0 → x ≡ cond b y 0
      past true e f = e ∙ sym f
      past false e f = e

      hits : pad_of w v < 1156 → (c : Constraint) → place_slot w c ≡ pad_of w v → T (stands_on v c)
      hits l (Place j x s) q = (says_eqb).test (sym (pad_inj w x v z q))
      hits l (Move j x y s) q = absurd (omega arith)

      has : (c : Constraint) → T (stands_on v c) → place_slot w c ≡ pad_of w v
      has (Place j x s) h = ap (pad_of w) (sym (says_eqb.fact h))
      has (Move j x y s) h = absurd h
