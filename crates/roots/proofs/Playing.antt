-- The choices at a number of the tournament, and what they are read from. Assumes nothing.
use Rattle.std.specs.Prelude.{Some, None, Option}
use Rattle.std.proofs.Common.{ℕ, ◌+◌, ◌*◌, ◌-◌, ◌<◌, ◌≤◌, ◌≡◌, refl, sym, ap, subst, ◌∙◌, ⊎_elim, Bool, true, false, cond, List, [], ◌∷◌, arith, get_or, eqb}
use Rattle.std.proofs.lemmas.Bool.{cases_lt}
use Rattle.deck.specs.Lists.{count_from}
use Rattle.records.specs.Record.{fields_at, row_in, flag_in, sum_in, slot_tasks_in}
use Rattle.roots.specs.Choices.{Chosen, slot_before, first_of, better_of, over_slots, Inside}
use Rattle.roots.specs.Tournament.{win_at, own_at, win_below, first_choice, first_here, best_own, Below, Of, Named, Played, OnlyTournament}
use Rattle.roots.specs.declared.Choice.{Choice}
use Rattle.roots.proofs.Codes.{below_yes, below_no}

-- WHAT A CHOICE NAMES
pub below_wider : (a b : ℕ) (c : Option Choice) → a ≤ b → Below a c → Below b c
below_wider a b None l h = tt
below_wider a b (Some c) l h = (omega (arith, h.0), h.1)

pub below_inside : (latest size : ℕ) (c : Option Choice) → 512 * latest ≤ size → Below latest c → Inside size c
below_inside latest size None l h = tt
below_inside latest size (Some c) l h = (omega (arith, h.0), h.1)

pub of_below : (k latest : ℕ) (c : Option Choice) → k < latest → Of k c → Below latest c
of_below k latest None l h = tt
of_below k latest (Some c) l h = (omega (arith, h.0), h.1)

pub below_first : (work : List ℕ) (latest : ℕ) (a b : Option Choice) → Below latest a → Below latest b → Below latest (first_choice work a b)
below_first work latest None b x y = y
below_first work latest (Some c) None x y = x
below_first work latest (Some c) (Some d) x y = go (slot_before (fields_at work c.n) c.j (fields_at work d.n) d.j)
  where
    go : (t : Bool) → Below latest (cond t (Chosen c.n c.j) (Chosen d.n d.j))
    go true = x
    go false = y

module _ (work : List ℕ) (latest : ℕ) (N : Named work latest) where
  pub below_win : (k : ℕ) → Below latest (win_below work latest k)
  below_win k = ⊎_elim
      (λ l. subst (Below latest) (sym (below_yes work k latest l)) (N.wins k l))
      (λ l. subst (Below latest) (sym (below_no work k latest l)) tt) (cases_lt k latest)

  pub below_own : (k : ℕ) → k < latest → Below latest (own_at work k)
  below_own k l = of_below k latest (own_at work k) l (N.owns k l)

  pub below_here : (k : ℕ) → k < latest → Below latest (first_here work latest k)
  unfolding first_here
  below_here k l =
      below_first work latest (win_below work latest (2 * k + 2)) (first_choice work (win_below work latest (2 * k + 1)) (own_at work k)) (below_win (2 * k + 2))
      (below_first work latest (win_below work latest (2 * k + 1)) (own_at work k) (below_win (2 * k + 1)) (below_own k l))

  -- as they are read
  pub win_inside : (size k : ℕ) (r : Option Choice) → 512 * latest ≤ size → r ≡ win_below work latest k → Inside size r
  win_inside size k r l e = subst (Inside size) (sym e) (below_inside latest size (win_below work latest k) l (below_win k))

  pub own_inside : (size k : ℕ) (r : Option Choice) → 512 * latest ≤ size → k < latest → r ≡ own_at work k → Inside size r
  own_inside size k r l h e = subst (Inside size) (sym e) (below_inside latest size (own_at work k) l (below_own k h))

  pub first_inside : (size k : ℕ) (left own r : Option Choice) → 512 * latest ≤ size → k < latest → left ≡ win_below work latest (2 * k + 1) → own ≡ own_at work k → r ≡ first_choice work left own → Inside size r
  first_inside size k left own r l h a b e =
      subst (Inside size) (sym (rw (a, b) at e))
      (below_inside latest size (first_choice work (win_below work latest (2 * k + 1)) (own_at work k)) l (below_first work latest (win_below work latest (2 * k + 1)) (own_at work k) (below_win (2 * k + 1)) (below_own k h)))

  pub here_read : (k : ℕ) (left right own first r : Option Choice) → k < latest → latest ≤ 4097 → own ≡ own_at work k → left ≡ win_below work latest (2 * k + 1) → right ≡ win_below work latest (2 * k + 2)
      → first ≡ first_choice work left own → r ≡ first_choice work right first → (r ≡ first_here work latest k) × Below 4097 r
  unfolding first_here
  here_read k left right own first r h few a b c d e =
      let z : r ≡ first_here work latest k = e ∙ rw (c, d, b, a) in
      (z, subst (Below 4097) (sym z) (below_wider latest 4097 (first_here work latest k) few (below_here k h)))

-- WHAT THE ORDER IS READ FROM: the sums and the tasks of the slots, not their flags
pub record SameOrder (fs gs : List (List ℕ)) : Type 0 where
  pub sums : (j : ℕ) → j < 12 → sum_in fs j ≡ sum_in gs j
  pub tasks : (j : ℕ) → j < 12 → slot_tasks_in fs j ≡ slot_tasks_in gs j

pub order_slots : (fs gs : List (List ℕ)) → get_or fs 6 [] ≡ get_or gs 6 [] → SameOrder fs gs
order_slots fs gs e = record { sums = λ j l. rw e; tasks = λ j l. rw e }

module _ (before after : List ℕ) (latest : ℕ) (order : (k : ℕ) → k < latest → SameOrder (fields_at after k) (fields_at before k)) where
  first_same : (a b : Option Choice) → Below latest a → Below latest b → first_choice after a b ≡ first_choice before a b
  first_same None b x y = refl
  first_same (Some c) None x y = refl
  first_same (Some c) (Some d) x y =
      let s = order c.n x.0 in
      let t = order d.n y.0 in
      rw (s.sums c.j x.1, t.sums d.j y.1, s.tasks c.j x.1, t.tasks d.j y.1)

  pub here_same : (to k : ℕ) → Named before latest → k < latest → own_at after k ≡ own_at before k → win_below after to (2 * k + 1) ≡ win_below before latest (2 * k + 1)
      → win_below after to (2 * k + 2) ≡ win_below before latest (2 * k + 2) → first_here after to k ≡ first_here before latest k
  unfolding first_here
  here_same to k N l own left right =
      rw (own, left, right)
      (ap (first_choice after (win_below before latest (2 * k + 2))) (first_same (win_below before latest (2 * k + 1)) (own_at before k) a b)
      ∙ first_same (win_below before latest (2 * k + 2)) (first_choice before (win_below before latest (2 * k + 1)) (own_at before k)) (below_win before latest N (2 * k + 2)) (below_first before latest (win_below before latest (2 * k + 1)) (own_at before k) a b))
    where
      a : Below latest (win_below before latest (2 * k + 1))
      a = below_win before latest N (2 * k + 1)

      b : Below latest (own_at before k)
      b = below_own before latest N k l

-- MORE NUMBERS, which have no choice; the words of the others are as they were
module _ (before after : List ℕ) (latest to : ℕ) (more : latest ≤ to) (order : (k : ℕ) → k < latest → SameOrder (fields_at after k) (fields_at before k)) (wins : (k : ℕ) → k < latest → win_at after k ≡ win_at before k) (owns : (k : ℕ) → k < latest → own_at after k ≡ own_at before k)
    (no_win : (k : ℕ) → latest ≤ k → k < to → win_at after k ≡ None) (no_own : (k : ℕ) → latest ≤ k → k < to → own_at after k ≡ None) (P : Played before latest) where
  win_same : (k : ℕ) → win_below after to k ≡ win_below before latest k
  win_same k = ⊎_elim
      (λ l. below_yes after k to (omega arith) ∙ wins k l ∙ sym (below_yes before k latest l))
      (λ l. past l ∙ sym (below_no before k latest l)) (cases_lt k latest)
    where
      past : latest ≤ k → win_below after to k ≡ None
      past l = ⊎_elim (λ g. below_yes after k to g ∙ no_win k l g) (λ g. below_no after k to g) (cases_lt k to)

  none_here : (k : ℕ) → latest ≤ k → k < to → first_here after to k ≡ None
  unfolding first_here
  none_here k l g =
      rw (no_own k l g, win_same (2 * k + 1), win_same (2 * k + 2), below_no before (2 * k + 1) latest (omega arith), below_no before (2 * k + 2) latest (omega arith))

  pub played_on : Played after to
  played_on =
      record {
        named =
            record {
              wins = λ k g. ⊎_elim
                  (λ l. subst (Below to) (sym (wins k l)) (below_wider latest to (win_at before k) more (P.named.wins k l)))
                  (λ l. subst (Below to) (sym (no_win k l g)) tt) (cases_lt k latest);
              owns = λ k g. ⊎_elim
                  (λ l. subst (Of k) (sym (owns k l)) (P.named.owns k l))
                  (λ l. subst (Of k) (sym (no_own k l g)) tt) (cases_lt k latest);
            };
        first = λ k g. ⊎_elim
            (λ l. wins k l ∙ P.first k l ∙ sym (here_same before after latest order to k P.named l (owns k l) (win_same (2 * k + 1)) (win_same (2 * k + 2))))
            (λ l. no_win k l g ∙ sym (none_here k l g)) (cases_lt k latest);
      }

-- THE FIRST OF THE SLOTS OF A ROOT is one of its own, and is read from its record alone
abbrev Own : ℕ → Option Choice → Type 0
Own n None = Unit {0}
Own n (Some c) = c.n ≡ n

module _ (work : List ℕ) (n : ℕ) where
  own_better : (j : ℕ) (b : Option Choice) → Own n b → Own n (better_of work n j b)
  unfolding better_of
  own_better j b h = go (eqb (flag_in (fields_at work n) j) 1) b h
    where
      two : (p q : ℕ) (t : Bool) → p ≡ n → Own n (cond t (Chosen n j) (Chosen p q))
      two p q true h = refl
      two p q false h = h

      go : (t : Bool) (b : Option Choice) → Own n b → Own n (cond t (first_of work n j b) b)
      go false b h = h
      go true None h = refl
      go true (Some c) h = two c.n c.j (slot_before (fields_at work n) j (fields_at work c.n) c.j) h

  own_over : (js : List ℕ) (b : Option Choice) → Own n b → Own n (over_slots work n js b)
  own_over [] b h = h
  own_over (j ∷ js) b h = own_over js (better_of work n j b) (own_better j b h)

  pub best_is : (m : ℕ) (r : Option Choice) → r ≡ over_slots work n (count_from (row_in (fields_at work n)) (m - row_in (fields_at work n))) None → r ≡ best_own m work n
  unfolding best_own
  best_is m r e = e

  pub best_of : (m size : ℕ) (b : Option Choice) → b ≡ best_own m work n → Inside size b → Of n b
  unfolding best_own
  best_of m size b e i = both b (subst (Own n) (sym e) (own_over (count_from (row_in (fields_at work n)) (m - row_in (fields_at work n))) None tt)) i
    where
      both : (b : Option Choice) → Own n b → Inside size b → Of n b
      both None o i = tt
      both (Some c) o i = (o, i.1)

module _ (before after : List ℕ) (n : ℕ) (slots : get_or (fields_at after n) 6 [] ≡ get_or (fields_at before n) 6 []) where
  better_same : (j : ℕ) (b : Option Choice) → Own n b → better_of after n j b ≡ better_of before n j b
  unfolding better_of
  better_same j None h = rw slots
  better_same j (Some c) h = rw (h, slots)

  over_same : (js : List ℕ) (b : Option Choice) → Own n b → over_slots after n js b ≡ over_slots before n js b
  over_same [] b h = refl
  over_same (j ∷ js) b h = rw (better_same j b h) (over_same js (better_of before n j b) (own_better before n j b h))

  pub best_same : (m : ℕ) → get_or (fields_at after n) 4 [] ≡ get_or (fields_at before n) 4 [] → best_own m after n ≡ best_own m before n
  unfolding best_own
  best_same m row = rw row (over_same (count_from (row_in (fields_at before n)) (m - row_in (fields_at before n))) None tt)

-- WRITES OF WORDS OF THE TOURNAMENT, one after another
pub only_none : (work : List ℕ) (latest : ℕ) → OnlyTournament work work latest
only_none work latest = record { fields = λ k f ne. refl; keys = λ limit k l. refl }

pub only_wider : (a b : List ℕ) (l to : ℕ) → l ≤ to → OnlyTournament a b l → OnlyTournament a b to
only_wider a b l to h q = record { fields = q.fields; keys = λ limit k g. q.keys limit k (omega arith) }

pub only_then : (a b c : List ℕ) (latest : ℕ) → OnlyTournament a b latest → OnlyTournament b c latest → OnlyTournament a c latest
only_then a b c latest u v = record { fields = λ k f ne. v.fields k f ne ∙ u.fields k f ne; keys = λ limit k l. v.keys limit k l ∙ u.keys limit k l }

module _ (before after : List ℕ) (latest : ℕ) (q : OnlyTournament before after latest) where
  pub only_order : (k : ℕ) → SameOrder (fields_at after k) (fields_at before k)
  only_order k = order_slots (fields_at after k) (fields_at before k) (q.fields k 6 (λ e. omega arith))

  pub only_best : (m n : ℕ) → best_own m after n ≡ best_own m before n
  only_best m n = best_same before after n (q.fields n 6 (λ e. omega arith)) m (q.fields n 4 (λ e. omega arith))
