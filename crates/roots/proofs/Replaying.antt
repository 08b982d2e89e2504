-- The tournament played again from a number up, its own choice found anew, and a root that enters. Assumes nothing.
use Rattle.std.specs.Prelude.{None, Option}
use Rattle.std.proofs.Common.{ℕ, ◌+◌, ◌*◌, ◌-◌, ◌<◌, ◌≤◌, ◌/◌, ◌≡◌, refl, sym, subst, ◌∙◌, ⊎_elim, ◌≢◌, List, arith}
use Rattle.std.proofs.lemmas.Bool.{cases_lt}
use native.Mathlib.Decide.{ℕ_discrete}
use Rattle.roots.specs.Tournament.{win_at, own_at, win_below, first_here, best_own, Below, Of, Named, PlayedBut, Played, OnlyTournament, WordPut, Replayed, Refreshed, Emptied, Entered}
use Rattle.roots.specs.declared.Choice.{Choice}
use Rattle.roots.proofs.Codes.{below_yes, below_no}
use Rattle.roots.proofs.Playing.{below_here, here_same, played_on, only_none, only_wider, only_then, only_order, only_best}

-- A WORD IS PUT ANEW
module _ (before after : List ℕ) (latest k : ℕ) (l : k < latest) (win own : Option Choice) (N : Named before latest) (u : WordPut before after k win own) where
  put_same : OnlyTournament before after latest
  put_same = only_wider before after (k + 1) latest (omega arith) u.same

  put_named : Below latest win → Of k own → Named after latest
  put_named b o = record { wins = λ i g. win_of i g (ℕ_discrete i k); owns = λ i g. own_of i g (ℕ_discrete i k) }
    where
      win_of : (i : ℕ) → i < latest → Dec (i ≡ k) → Below latest (win_at after i)
      win_of i g (yes e) = rw e (subst (Below latest) (sym u.win_here) b)
      win_of i g (no e) = subst (Below latest) (sym (u.wins i e)) (N.wins i g)

      own_of : (i : ℕ) → i < latest → Dec (i ≡ k) → Of i (own_at after i)
      own_of i g (yes e) = rw e (subst (Of k) (sym u.own_here) o)
      own_of i g (no e) = subst (Of i) (sym (u.owns i e)) (N.owns i g)

  put_below : (i : ℕ) → i ≢ k → win_below after latest i ≡ win_below before latest i
  put_below i ne = ⊎_elim
      (λ g. below_yes after i latest g ∙ u.wins i ne ∙ sym (below_yes before i latest g))
      (λ g. below_no after i latest g ∙ sym (below_no before i latest g)) (cases_lt i latest)

  -- the first choice at a number that k is not under
  put_here : (i : ℕ) → i < latest → own_at after i ≡ own_at before i → 2 * i + 1 ≢ k → 2 * i + 2 ≢ k → first_here after latest i ≡ first_here before latest i
  put_here i g o a b = here_same before after latest (λ n h. only_order before after latest put_same n) latest i N g o (put_below (2 * i + 1) a) (put_below (2 * i + 2) b)

-- THE FIRST CHOICE AT NUMBER k IS STORED
module _ (before after : List ℕ) (latest k : ℕ) (l : k < latest) (u : WordPut before after k (first_here before latest k) (own_at before k)) (P : PlayedBut before latest k) where
  abbrev N : Named before latest
  N = P.named

  settled_own : (i : ℕ) → own_at after i ≡ own_at before i
  settled_own i = go (ℕ_discrete i k)
    where
      go : Dec (i ≡ k) → own_at after i ≡ own_at before i
      go (yes e) = rw e u.own_here
      go (no e) = u.owns i e

  settled_named : Named after latest
  settled_named = put_named before after latest k l (first_here before latest k) (own_at before k) N u (below_here before latest N k l) (N.owns k l)

  settled_first : (i : ℕ) → i < latest → 2 * i + 1 ≢ k → 2 * i + 2 ≢ k → win_at after i ≡ first_here after latest i
  settled_first i g a b = go (ℕ_discrete i k) ∙ sym (put_here before after latest k l (first_here before latest k) (own_at before k) N u i g (settled_own i) a b)
    where
      go : Dec (i ≡ k) → win_at after i ≡ first_here before latest i
      go (yes e) = rw e u.win_here
      go (no e) = u.wins i e ∙ P.first i g e

  settled_same : OnlyTournament before after latest
  settled_same = put_same before after latest k l (first_here before latest k) (own_at before k) N u

-- FROM A NUMBER UP
pub record Replaying (before work : List ℕ) (latest at : ℕ) : Type 0 where
  pub same : OnlyTournament before work latest
  pub own : (k : ℕ) → own_at work k ≡ own_at before k
  pub played : PlayedBut work latest at
  pub low : at < latest

pub replay_none : (work : List ℕ) (latest n : ℕ) → n < latest → PlayedBut work latest n → Replaying work work latest n
replay_none work latest n l p = record { same = only_none work latest; own = λ k. refl; played = p; low = l }

module _ (before work after : List ℕ) (latest at : ℕ) (C : Replaying before work latest at) (u : WordPut work after at (first_here work latest at) (own_at work at)) where
  pub replay_more : at ≢ 0 → Replaying before after latest ((at - 1) / 2)
  replay_more ne =
      record {
        same = only_then before work after latest C.same (settled_same work after latest at C.low u C.played);
        own = λ k. settled_own work after latest at C.low u C.played k ∙ C.own k;
        played =
            record {
              named = settled_named work after latest at C.low u C.played;
              first = λ i g e. settled_first work after latest at C.low u C.played i g (λ a. e (omega arith)) (λ a. e (omega arith));
            };
        low = omega (arith, C.low);
      }

  pub replay_all : at ≡ 0 → Replayed before after latest
  replay_all z =
      record {
        same = only_then before work after latest C.same (settled_same work after latest at C.low u C.played);
        own = λ k. settled_own work after latest at C.low u C.played k ∙ C.own k;
        played =
            record {
              named = settled_named work after latest at C.low u C.played;
              first = λ i g. settled_first work after latest at C.low u C.played i g (λ a. omega arith) (λ a. omega arith);
            };
      }

-- THE OWN CHOICE OF A NUMBER IS FOUND ANEW
module _ (m : ℕ) (before mid : List ℕ) (latest n : ℕ) (l : n < latest) (win own : Option Choice) (w : win ≡ win_below before latest n) (P : Played before latest) (o : Of n own) (u : WordPut before mid n win own) where
  pub found_but : PlayedBut mid latest n
  found_but =
      record {
        named = put_named before mid latest n l win own P.named u (subst (Below latest) (sym same_win) (P.named.wins n l)) o;
        first = λ i g ne. u.wins i ne ∙ P.first i g ∙ sym (here_same before mid latest (λ k h. only_order before mid latest (put_same before mid latest n l win own P.named u) k) latest i P.named g (u.owns i ne) (all_wins (2 * i + 1)) (all_wins (2 * i + 2)));
      }
    where
      same_win : win ≡ win_at before n
      same_win = w ∙ below_yes before n latest l

      all_wins : (i : ℕ) → win_below mid latest i ≡ win_below before latest i
      all_wins i = go (ℕ_discrete i n)
        where
          go : Dec (i ≡ n) → win_below mid latest i ≡ win_below before latest i
          go (yes e) = rw e (below_yes mid n latest l ∙ u.win_here ∙ w)
          go (no e) = put_below before mid latest n l win own P.named u i e

  pub found_again : (after : List ℕ) → own ≡ best_own m before n → Replayed mid after latest → Refreshed m before after latest n
  found_again after e c =
      record {
        same = only_then before mid after latest (put_same before mid latest n l win own P.named u) c.same;
        own = c.own n ∙ u.own_here ∙ e;
        others = λ k ne. c.own k ∙ u.owns k ne;
        played = c.played;
      }

-- NUMBERS WITHOUT A CHOICE, one after another
pub empty_none : (work : List ℕ) (from : ℕ) → Emptied work work from from
empty_none work from =
    record {
      same = only_none work from;
      old_win = λ k l. refl;
      old_own = λ k l. refl;
      new_win = λ k a b. absurd (omega arith);
      new_own = λ k a b. absurd (omega arith);
    }

pub empty_more : (before work after : List ℕ) (from k : ℕ) → from ≤ k → Emptied before work from k → WordPut work after k None None → Emptied before after from (k + 1)
empty_more before work after from k l E u =
    record {
      same = only_then before work after (k + 1) (only_wider before work k (k + 1) (omega arith) E.same) u.same;
      old_win = λ i h. u.wins i (λ e. omega arith) ∙ E.old_win i h;
      old_own = λ i h. u.owns i (λ e. omega arith) ∙ E.old_own i h;
      new_win = λ i a b. win i a b (ℕ_discrete i k);
      new_own = λ i a b. own i a b (ℕ_discrete i k);
    }
  where
    win : (i : ℕ) → from ≤ i → i < k + 1 → Dec (i ≡ k) → win_at after i ≡ None
    win i a b (yes e) = rw e u.win_here
    win i a b (no e) = u.wins i e ∙ E.new_win i a (omega (arith, e))

    own : (i : ℕ) → from ≤ i → i < k + 1 → Dec (i ≡ k) → own_at after i ≡ None
    own i a b (yes e) = rw e u.own_here
    own i a b (no e) = u.owns i e ∙ E.new_own i a (omega (arith, e))

-- A ROOT ENTERS
module _ (m : ℕ) (before mid : List ℕ) (latest made : ℕ) (le : latest ≤ made) (P : Played before latest) (E : Emptied before mid latest (made + 1)) where
  pub played_emptied : Played mid (made + 1)
  played_emptied = played_on before mid latest (made + 1) (omega arith) (λ k l. only_order before mid (made + 1) E.same k) E.old_win E.old_own E.new_win E.new_own P

  pub root_entered : (next after : List ℕ) (n : ℕ) → Refreshed m mid next (made + 1) n → Refreshed m next after (made + 1) made → Entered m before after latest made n
  root_entered next after n r s =
      record {
        same = only_then before mid after (made + 1) E.same (only_then mid next after (made + 1) r.same s.same);
        played = s.played;
        own = s.own ∙ sym (only_best next after (made + 1) s.same m made);
        taken = go (ℕ_discrete n made);
        old = λ k l a b. s.others k b ∙ r.others k a ∙ E.old_own k l;
        new = λ k l g a. s.others k (λ e. omega arith) ∙ r.others k a ∙ E.new_own k l (omega arith);
      }
    where
      go : Dec (n ≡ made) → own_at after n ≡ best_own m after n
      go (yes e) = rw e (s.own ∙ sym (only_best next after (made + 1) s.same m made))
      go (no e) =
          s.others n e ∙ r.own ∙ sym (only_best mid next (made + 1) r.same m n) ∙ sym (only_best next after (made + 1) s.same m n)
