-- What is known of a task's labels by name: all that the crates above need to know. Assumes nothing.
use Rattle.std.proofs.Common.{ℕ, ◌+◌, ◌≤◌, ◌<◌, zero-le, ◌≡◌, refl, List, length}
use Rattle.deck.specs.Sheet.{Sheet, start_of, goals_of}
use Rattle.deck.specs.declared.Carrier.{Carrier}
use Rattle.deck.specs.declared.Task.{Task}
use Rattle.deck.specs.declared.Constraint.{Constraint}
use Rattle.kernel.specs.Goals.{up}
use Rattle.kernel.specs.Labels.{all_goals, first_label, raised}
use Rattle.kernel.specs.Parts.{parts_of}
use Rattle.kernel.proofs.Labels.{up_le, up_mono, lowered_iff}

module _ (d : Sheet) (j : Task) where
  -- the labels by the goals
  pub all_goals_is : all_goals d j ≡ length (goals_of d j)
  unfolding all_goals
  all_goals_is = refl

  pub raised_is : (u v k : ℕ) → raised d j u v k ≡ up v (goals_of d j) k
  unfolding raised
  raised_is u v k = refl

  pub first_label_is : (i : Carrier) → first_label d i j ≡ up (start_of d i) (goals_of d j) 0
  unfolding first_label
  first_label_is i = refl

  -- a larger label stays larger, and is at most that of all goals
  pub first_label_le : (i : Carrier) → first_label d i j ≤ all_goals d j
  unfolding first_label all_goals
  first_label_le i = up_le (start_of d i) (goals_of d j) 0 zero-le

  pub raised_le : (u v k : ℕ) → k ≤ all_goals d j → raised d j u v k ≤ all_goals d j
  unfolding raised all_goals
  raised_le u v k h = up_le v (goals_of d j) k h

  pub raised_mono : (u v k m : ℕ) → k ≤ m → raised d j u v k ≤ raised d j u v m
  unfolding raised
  raised_mono u v k m h = up_mono v (goals_of d j) k m h

  -- what suffices before a step to v, and after it
  module _ (i : Carrier) (cs : List Constraint) (u v k b : ℕ) where
    pub before_step : all_goals d j < raised d j u v k + b → all_goals d j < k + (parts_of d i j cs).lower u v b
    unfolding raised all_goals
    before_step h = (lowered_iff (goals_of d j) v k b).0 h

    pub after_step : k ≤ all_goals d j → all_goals d j < k + (parts_of d i j cs).lower u v b → all_goals d j < raised d j u v k + b
    unfolding raised all_goals
    after_step l h = (lowered_iff (goals_of d j) v k b).1 h
