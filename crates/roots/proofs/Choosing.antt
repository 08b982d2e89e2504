-- The choice of a slot, step by step. Assumes nothing.
use Rattle.std.specs.Prelude.{Option, None, Some, cond}
use Rattle.std.proofs.Common.{ℕ, suc, ◌+◌, ◌-◌, ◌<◌, ◌≤◌, ◌≡◌, refl, sym, Bool, true, false, List, arith, eqb}
use Rattle.std.proofs.lemmas.Option.{none-some}
use Rattle.deck.specs.Lists.{count_from}
use Rattle.candidates.specs.declared.Candidate.{Candidate}
use Rattle.records.specs.Record.{fields_at, flag_in}
use Rattle.roots.specs.Choices.{first_of, better_of, over_slots}
use Rattle.roots.specs.declared.Choice.{Choice}

-- whether there is a slot
pub empty_slot : (b : Bool) (x : Candidate) → None ≡ cond b (Some x) None → b ≡ false
empty_slot true x e = absurd (none-some x e)
empty_slot false x e = refl

pub full_slot : (b : Bool) (x y : Candidate) → Some y ≡ cond b (Some x) None → b ≡ true
full_slot true x y e = refl
full_slot false x y e = absurd (none-some y (sym e))

-- the first of a slot and a choice
pub no_slot : (work : List ℕ) (n j : ℕ) (b : Option Choice) → eqb (flag_in (fields_at work n) j) 1 ≡ false → b ≡ better_of work n j b
unfolding better_of
no_slot work n j b e = rw e

pub some_slot : (work : List ℕ) (n j : ℕ) (b c : Option Choice) → eqb (flag_in (fields_at work n) j) 1 ≡ true → c ≡ first_of work n j b → c ≡ better_of work n j b
unfolding better_of
some_slot work n j b c e g = rw e g

-- one slot of a root after another
pub more_slots : (work : List ℕ) (n m j : ℕ) (b : Option Choice) → j < m → over_slots work n (count_from j (m - j)) b ≡ over_slots work n (count_from (j + 1) (m - (j + 1))) (better_of work n j b)
more_slots work n m j b h =
    let e : m - j ≡ suc (m - (j + 1)) = omega arith in
    let f : j + 1 ≡ suc j = omega arith in
    rw (e, f)

pub no_more_slots : (work : List ℕ) (n m j : ℕ) (b : Option Choice) → m ≤ j → over_slots work n (count_from j (m - j)) b ≡ b
no_more_slots work n m j b h = let e : m - j ≡ 0 = omega arith in rw e
