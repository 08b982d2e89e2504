-- The way of a step between two padded places. Assumes nothing.
use Rattle.std.proofs.Common.{ℕ, zero, suc, ◌+◌, ◌<◌, ◌≡◌, ◌≢◌, refl, get_or, arith, eq-eqb, ne_eqb}
use Rattle.bars.specs.Ways.{number_of, all_ways}
use Rattle.bars.specs.Bars.{way_of}
use Rattle.bars.specs.declared.Way.{Way}
use Rattle.bars.specs.declared.Way.TheVariants.{Above, Left, Same, Right, Below}

module _ (wide a b : ℕ) where
  pub way_above : a + wide ≡ b → 0 ≡ way_of wide a b
  way_above h = rw (eq-eqb (a + wide) b h) refl

  module _ (n0 : a + wide ≢ b) where
    pub way_left : a + 1 ≡ b → 1 ≡ way_of wide a b
    way_left h = rw (ne_eqb (a + wide) b n0, eq-eqb (a + 1) b h) refl

    module _ (n1 : a + 1 ≢ b) where
      pub way_same : a ≡ b → 2 ≡ way_of wide a b
      way_same h = rw (ne_eqb (a + wide) b n0, ne_eqb (a + 1) b n1, eq-eqb a b h) refl

      module _ (n2 : a ≢ b) where
        pub way_right : a ≡ b + 1 → 3 ≡ way_of wide a b
        way_right h = rw (ne_eqb (a + wide) b n0, ne_eqb (a + 1) b n1, ne_eqb a b n2, eq-eqb a (b + 1) h) refl

        module _ (n3 : a ≢ b + 1) where
          pub way_below : a ≡ b + wide → 4 ≡ way_of wide a b
          way_below h = rw (ne_eqb (a + wide) b n0, ne_eqb (a + 1) b n1, ne_eqb a b n2, ne_eqb a (b + 1) n3, eq-eqb a (b + wide) h) refl

          pub way_none : a ≢ b + wide → 5 ≡ way_of wide a b
          way_none h = rw (ne_eqb (a + wide) b n0, ne_eqb (a + 1) b n1, ne_eqb a b n2, ne_eqb a (b + 1) n3, ne_eqb a (b + wide) h) refl

-- the way with a number
pub way_at : (k : ℕ) → k < 5 → number_of (get_or all_ways k Above) ≡ k
way_at zero l = refl
way_at (suc zero) l = refl
way_at (suc (suc zero)) l = refl
way_at (suc (suc (suc zero))) l = refl
way_at (suc (suc (suc (suc zero)))) l = refl
way_at (suc (suc (suc (suc (suc k))))) l = absurd (omega arith)

pub number_small : (way : Way) → number_of way < 5
number_small Above = omega arith
number_small Left = omega arith
number_small Same = omega arith
number_small Right = omega arith
number_small Below = omega arith
