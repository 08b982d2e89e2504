-- The tournament after a root has entered it. Assumes nothing.
use Rattle.std.proofs.Common.{None, ℕ, ◌+◌, ◌*◌, ◌<◌, ◌≤◌, ◌≡◌, refl, sym, ap, subst, ◌∙◌, ◌⊎◌, inl, inr, ⊎_elim, ◌≢◌, List, [], ◌∷◌, arith, get_or, length}
use Rattle.std.proofs.lemmas.Bool.{cases_lt}
use native.Mathlib.Decide.{ℕ_discrete}
use Rattle.deck.proofs.Members.{Mem, here, there, not-nil, cases_cons}
use Rattle.meaning.specs.Sorted.{Sorted}
use Rattle.records.specs.Record.{fields_at}
use Rattle.roots.specs.Slots.{PartsHold, RootMade}
use Rattle.roots.specs.Choices.{Chosen, Live, Cleared}
use Rattle.roots.specs.Tournament.{own_at, best_own, Played, Tournament, Entered, SlotsHold, FirstSlot}
use Rattle.roots.proofs.Codes.{win_kept, own_kept}
use Rattle.roots.proofs.Playing.{SameOrder, played_on, best_same, only_best}
use Rattle.roots.proofs.Taken.{taken_tournament, taken_order}
use Rattle.roots.proofs.Begun.{parts_kept, only_alike}

-- the roots are `made` and some older ones; the own choices of these but root n are right already
module _ (m : ℕ) (after final : List ℕ) (latest made n : ℕ) (old : List ℕ) (le : latest ≤ made) (low : (k : ℕ) → Mem k old → k < latest) (falls : Sorted (λ x y. y < x) old) (member : Mem n (made ∷ old))
    (known : (k : ℕ) → Mem k old → k ≢ n → own_at after k ≡ best_own m after k) (none : (k : ℕ) → k < latest → (own_at after k ≡ None) ⊎ Mem k old) (E : Entered m after final latest made n) where
  old_own : (k : ℕ) → Mem k old → Dec (k ≡ n) → own_at final k ≡ best_own m final k
  old_own k j (yes e) = rw e E.taken
  old_own k j (no e) = E.old k (low k j) e (λ z. omega (arith, low k j)) ∙ known k j e ∙ sym (only_best after final (made + 1) E.same m k)

  other : (k : ℕ) → k < made + 1 → Dec (k ≡ made) → Dec (k ≡ n) → (own_at final k ≡ None) ⊎ Mem k (made ∷ old)
  other k l (yes e) d = inr (subst (λ (x : ℕ). Mem x (made ∷ old)) (sym e) (here refl))
  other k l (no e) (yes z) = inr (subst (λ (x : ℕ). Mem x (made ∷ old)) (sym z) member)
  other k l (no e) (no z) = ⊎_elim
      (λ g. ⊎_elim (λ q. inl (E.old k g z e ∙ q)) (λ q. inr (there q)) (none k g))
      (λ g. inl (E.new k g (omega (arith, e)) z)) (cases_lt k latest)

  tournament_entered : Tournament m final (made + 1) (made ∷ old)
  tournament_entered =
      record {
        played = E.played;
        own = λ k i. ⊎_elim (λ e. rw e E.own) (λ j. old_own k j (ℕ_discrete k n)) (cases_cons i);
        others = λ k l. other k l (ℕ_discrete k made) (ℕ_discrete k n);
      }

  pub slots_entered : (table : List ℕ) (others : List (List ℕ)) → PartsHold m table after (made ∷ old) others → SlotsHold m table final (made + 1) others
  slots_entered table others H =
      record {
        roots = made ∷ old;
        low = λ k i. ⊎_elim (λ e. omega (arith, e)) (λ j. omega (arith, low k j)) (cases_cons i);
        falls = (λ k i. omega (arith, low k i), falls);
        parts = parts_kept m table after final (made ∷ old) others (λ k i. only_alike after final (made + 1) E.same k) H;
        tournament = tournament_entered;
      }

-- THE NEXT ROOT: a slot of root n is cleared, and root `made` is made
module _ (m : ℕ) (table before mid : List ℕ) (latest made n j : ℕ) (rest : List (List ℕ)) (small : m ≤ 12) (size : 512 * latest ≤ length before) (le : latest ≤ made)
    (H : SlotsHold m table before latest rest) (chosen : FirstSlot m before latest (Chosen n j)) (cleared : Cleared before mid n j)
    (after tasks : List ℕ) (row : ℕ) (closed : List ℕ) (u : RootMade m table mid after made tasks row closed) where
  live : Live m before H.roots n j
  live = (chosen table rest H).0

  room : 512 * n + 512 ≤ length before
  room = omega (arith, H.low n live.root)

  made_record : (k : ℕ) → k < latest → fields_at after k ≡ fields_at mid k
  made_record k l = u.same.records k (λ e. omega arith)

  tournament_kept : (k : ℕ) → k < latest → get_or (fields_at after k) 5 [] ≡ get_or (fields_at before k) 5 []
  tournament_kept k l = ap (λ (fs : List (List ℕ)). get_or fs 5 []) (made_record k l) ∙ taken_tournament m before mid H.roots n j small room live cleared k

  pub next_played : Played after latest
  next_played =
      played_on before after latest latest (omega arith)
      (λ k l. subst (λ (fs : List (List ℕ)). SameOrder fs (fields_at before k)) (sym (made_record k l)) (taken_order m before mid H.roots n j small room live cleared k))
      (λ k l. win_kept before after k (tournament_kept k l)) (λ k l. own_kept before after k (tournament_kept k l))
      (λ k a b. absurd (omega arith)) (λ k a b. absurd (omega arith)) H.tournament.played

  pub next_entered : (final : List ℕ) → Entered m after final latest made n → (others : List (List ℕ)) → PartsHold m table after (made ∷ H.roots) others → SlotsHold m table final (made + 1) others
  next_entered final E = slots_entered m after final latest made n H.roots le H.low H.falls (there live.root) known none E table
    where
      known : (k : ℕ) → Mem k H.roots → k ≢ n → own_at after k ≡ best_own m after k
      known k i ne =
          let e : fields_at after k ≡ fields_at before k = made_record k (H.low k i) ∙ cleared.records k ne in
          own_kept before after k (tournament_kept k (H.low k i)) ∙ H.tournament.own k i
          ∙ sym (best_same before after k (ap (λ (fs : List (List ℕ)). get_or fs 6 []) e) m (ap (λ (fs : List (List ℕ)). get_or fs 4 []) e))

      none : (k : ℕ) → k < latest → (own_at after k ≡ None) ⊎ Mem k H.roots
      none k l = ⊎_elim (λ e. inl (own_kept before after k (tournament_kept k l) ∙ e)) inr (H.tournament.others k l)

-- THE FIRST ROOT
pub first_played : (work : List ℕ) → Played work 0
first_played work =
    record {
      named = record { wins = λ k l. absurd (omega arith); owns = λ k l. absurd (omega arith) };
      first = λ k l. absurd (omega arith);
    }

pub first_entered : (m : ℕ) (table after final : List ℕ) → Entered m after final 0 0 0 → (others : List (List ℕ)) → PartsHold m table after (0 ∷ []) others → SlotsHold m table final 1 others
first_entered m table after final E =
    slots_entered m after final 0 0 0 [] (omega arith) (λ k i. absurd (not-nil i)) tt (here refl) (λ k i. absurd (not-nil i)) (λ k l. absurd (omega arith)) E table
