-- Choices as numbers, and the word of the tournament as it is read and written. Assumes nothing.
use Rattle.roots.specs.Choices.{Chosen}
use Rattle.std.specs.Prelude.{Some, None, Option}
use Rattle.std.proofs.Common.{ℕ, suc, ◌+◌, ◌*◌, ◌-◌, ◌<◌, ◌≤◌, ◌/◌, ◌%◌, ◌≡◌, refl, sym, ap, ◌∙◌, ◌≢◌, List, [], ◌∷◌, add-one, arith, get_or, set, get_or-set_same, get_or-set_other, lt-ltb, le-ltb}
use native.Mathlib.Decide.{ℕ_discrete}
use Rattle.records.specs.Record.{fields_at, tournament_in, Wrote}
use Rattle.roots.specs.Tournament.{code_of, choice_of, slot_code, slot_choice, win_at, own_at, win_below, Below, Of, WordPut}
use Rattle.roots.specs.declared.Choice.{Choice}
use Rattle.roots.proofs.Filling.{fields_long}

-- WRITTEN AND READ BACK
choice_code : (latest : ℕ) (b : Option Choice) → Below latest b → choice_of (code_of b) ≡ b
choice_code latest None h = refl
choice_code latest (Some c) h =
    let e : (16 * c.n + c.j) / 16 ≡ c.n = omega (arith, h.1) in
    let f : (16 * c.n + c.j) % 16 ≡ c.j = omega (arith, h.1) in
    rw (add-one (16 * c.n + c.j), e, f)

slot_code_lem : (k : ℕ) (b : Option Choice) → Of k b → slot_choice k (slot_code b) ≡ b
slot_code_lem k None h = refl
slot_code_lem k (Some c) h = rw (add-one c.j, h.0)

-- READ
module _ (work : List ℕ) (k : ℕ) where
  pub no_own : (q : ℕ) → q ≡ tournament_in (fields_at work k) → (1 ≤ q % 16 → ⊥) → None ≡ own_at work k
  unfolding own_at
  no_own q e n = let z : q % 16 ≡ 0 = omega (arith, n) in rw (← e, z)

  pub some_own : (q j : ℕ) → q ≡ tournament_in (fields_at work k) → (1 ≤ q % 16) × (j ≡ q % 16 - 1) → Chosen k j ≡ own_at work k
  unfolding own_at
  some_own q j e h =
      let z : q % 16 ≡ suc j = omega (arith, h.0, h.1) in
      rw (← e) (sym (ap (slot_choice k) z))

  pub below_yes : (latest : ℕ) → k < latest → win_below work latest k ≡ win_at work k
  unfolding win_below
  below_yes latest h = rw (lt-ltb k latest h)

  pub below_no : (latest : ℕ) → latest ≤ k → win_below work latest k ≡ None
  unfolding win_below
  below_no latest h = rw (le-ltb k latest h)

  pub win_read : (latest q : ℕ) (r : Option Choice) → k < latest → q ≡ tournament_in (fields_at work k) → r ≡ choice_of (q / 16) → r ≡ win_below work latest k
  unfolding win_at
  win_read latest q r h e f = f ∙ ap (λ (x : ℕ). choice_of (x / 16)) e ∙ sym (below_yes latest h)

-- only the word is read
module _ (before after : List ℕ) (k : ℕ) (e : get_or (fields_at after k) 5 [] ≡ get_or (fields_at before k) 5 []) where
  pub win_kept : win_at after k ≡ win_at before k
  unfolding win_at
  win_kept = rw e

  pub own_kept : own_at after k ≡ own_at before k
  unfolding own_at
  own_kept = rw e

-- WRITTEN
module _ (before after : List ℕ) (k v : ℕ) (u : Wrote before after k (set (fields_at before k) 5 (v ∷ []))) where
  tournament_here : tournament_in (fields_at after k) ≡ v
  tournament_here = ap tournament_in u.here ∙ ap (λ (l : List ℕ). get_or l 0 0) (get_or-set_same (fields_at before k) 5 (v ∷ []) [] (omega (arith, fields_long before k)))

  tournament_fields : (i f : ℕ) → f ≢ 5 → get_or (fields_at after i) f [] ≡ get_or (fields_at before i) f []
  tournament_fields i f ne = go (ℕ_discrete i k)
    where
      go : Dec (i ≡ k) → get_or (fields_at after i) f [] ≡ get_or (fields_at before i) f []
      go (yes e) = rw e (ap (λ (l : List (List ℕ)). get_or l f []) u.here ∙ get_or-set_other (fields_at before k) 5 f (v ∷ []) [] ne)
      go (no e) = ap (λ (l : List (List ℕ)). get_or l f []) (u.records i e)

  pub word_put : (win own : Option Choice) → Below 4097 win → Of k own → k < 4097 → v ≡ 16 * code_of win + slot_code own → WordPut before after k win own
  unfolding win_at own_at
  word_put win own h o l e =
      record {
        same = record { fields = tournament_fields; keys = λ limit i b. u.keys limit i (omega arith) };
        win_here = ap (λ (q : ℕ). choice_of (q / 16)) (tournament_here ∙ e) ∙ ap choice_of high ∙ choice_code 4097 win h;
        own_here = ap (λ (q : ℕ). slot_choice k (q % 16)) (tournament_here ∙ e) ∙ ap (slot_choice k) low ∙ slot_code_lem k own o;
        wins = λ i ne. ap (λ (l : List (List ℕ)). choice_of (tournament_in l / 16)) (u.records i ne);
        owns = λ i ne. ap (λ (l : List (List ℕ)). slot_choice i (tournament_in l % 16)) (u.records i ne);
      }
    where
      small : (b : Option Choice) → Of k b → slot_code b < 16
      small None h = omega arith
      small (Some c) h = omega (arith, h.1)

      high : (16 * code_of win + slot_code own) / 16 ≡ code_of win
      high = omega (arith, small own o)

      low : (16 * code_of win + slot_code own) % 16 ≡ slot_code own
      low = omega (arith, small own o)
