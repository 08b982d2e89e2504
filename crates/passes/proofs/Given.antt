-- What a ready sheet with good records gives. Assumes nothing.
use Prim.Native.Nat.{ℕ, zero, suc, ◌/◌, ◌%◌, ◌≤◌, ◌<◌}
use Rattle.std.proofs.Common.{◌≡◌, sym, ◌∙◌, subst, List, arith, length, T, leb, ltb, eqb, eqb→eq, leb→le, ltb→lt}
use Rattle.deck.proofs.Members.{Mem}
use Rattle.deck.specs.Lists.{below}
use Rattle.deck.specs.Sheet.{Sheet, read, area, free, carrier, start_of, goals_of, last_goal}
use Rattle.deck.specs.Calls.{record_word, constraint_of, constraints_of, good_tail, good_record, good_records}
use Rattle.deck.specs.declared.Carrier.{Carrier}
use Rattle.deck.specs.declared.Task.{Task}
use Rattle.deck.specs.declared.Constraint.{Constraint}
use Rattle.meaning.proofs.Tests.{says_itself, says_eqb, says_leb, says_and}
use Rattle.meaning.proofs.Lists.{mem_below}
use Rattle.meaning.proofs.ListTests.{says_all}
use Rattle.meaning.proofs.Accepted.{accepted_horizon}
use Rattle.sheet.proofs.Accepted.{width_range, height_range, area_range, start_free, goals_range, last_goal_free}
use Rattle.kernel.specs.Labels.{all_goals}
use Rattle.kernel.proofs.Both.{and_left, and_right}
use Rattle.kernel.proofs.OfTask.{all_goals_is}
use Rattle.kernel.proofs.OfSheet.{InTime}
use Rattle.bars.specs.Padded.{pad_of}
use Rattle.bars.specs.Bars.{count_in, Timely, OnLayer}
use Rattle.bars.proofs.Grid.{pad_most, size_of, size_small}
use Rattle.bars.proofs.Records.{mem_record}
use Rattle.passes.specs.Ready.{Ready}

-- the last two words of a place record, and of a move record
place_tail : (d : Sheet) (v t : ℕ) → T (good_tail d zero v t) → (v ≡ 0) × (t ≤ d.horizon)
place_tail d v t g = (eqb→eq v 0 (and_left (eqb v 0) (leb t d.horizon) g), leb→le t d.horizon (and_right (eqb v 0) (leb t d.horizon) g))

move_tail : (d : Sheet) (z v t : ℕ) → T (good_tail d (suc z) v t) → (v < area d) × (t < d.horizon)
move_tail d z v t g = (ltb→lt v (area d) (and_left (ltb v (area d)) (ltb t d.horizon) g), ltb→lt t d.horizon (and_right (ltb v (area d)) (ltb t d.horizon) g))

-- what good records say
module _ (d : Sheet) (rs : List ℕ) (ok : T (good_records d rs)) where
  all_good : ((length rs % 5 ≡ 0) × (count_in rs ≤ 4096)) × ((k : ℕ) → Mem k (below (length rs / 5)) → T (good_record d rs k))
  unfolding good_records
  all_good = (says_and (says_and says_eqb says_leb) (says_all (good_record d rs) (λ k. T (good_record d rs k)) (λ k. says_itself) (below (length rs / 5)))).fact ok

  pub good_count : count_in rs ≤ 4096
  good_count = all_good.0.1

  good_at : (k : ℕ) → k < count_in rs
      → (((record_word rs k 0 ≤ 1) × (record_word rs k 1 < d.count)) × (record_word rs k 2 < area d)) × T (good_tail d (record_word rs k 0) (record_word rs k 3) (record_word rs k 4))
  unfolding good_record
  good_at k h = (says_and (says_and (says_and says_leb says_leb) says_leb) says_itself).fact (all_good.1 k ((mem_below (length rs / 5)).1 h))

  pub good_u : (k : ℕ) → k < count_in rs → record_word rs k 2 < area d
  good_u k h = (good_at k h).0.1

  pub good_v : (k : ℕ) → k < count_in rs → record_word rs k 3 < area d
  good_v k h = go (record_word rs k 0) (record_word rs k 3) (record_word rs k 4) (good_at k h).1
    where
      go : (z v t : ℕ) → T (good_tail d z v t) → v < area d
      go zero v t g = omega (arith, good_u k h, (place_tail d v t g).0)
      go (suc z) v t g = (move_tail d z v t g).0

  pub good_t : (k : ℕ) → k < count_in rs → record_word rs k 4 ≤ d.horizon
  good_t k h = go (record_word rs k 0) (record_word rs k 3) (record_word rs k 4) (good_at k h).1
    where
      go : (z v t : ℕ) → T (good_tail d z v t) → t ≤ d.horizon
      go zero v t g = (place_tail d v t g).1
      go (suc z) v t g = omega (arith, (move_tail d z v t g).1)

  -- the constraints are in time
  pub good_in_time : (c : Constraint) → Mem c (constraints_of rs) → InTime d.horizon c
  good_in_time c m = let r = mem_record rs c m in subst (InTime d.horizon) (sym r.2) (go r.0 r.1 (record_word rs r.0 0) (good_at r.0 r.1).1)
    where
      go : (k : ℕ) → k < count_in rs → (z : ℕ) → T (good_tail d z (record_word rs k 3) (record_word rs k 4))
          → InTime d.horizon (constraint_of z (carrier (record_word rs k 1)) (record_word rs k 2) (record_word rs k 3) (record_word rs k 4))
      go k h zero g = good_t k h
      go k h (suc z) g = (move_tail d z (record_word rs k 3) (record_word rs k 4) g).1

module _ {s : List ℕ} {i : Carrier} {j : Task} {mask rs : List ℕ} (r : Ready s i j mask rs) where
  pub wide_one : 1 ≤ (read s).width
  wide_one = (width_range s r.accepted).0

  pub wide_most : (read s).width ≤ 32
  wide_most = (width_range s r.accepted).1

  pub high_one : 1 ≤ (read s).height
  high_one = (height_range s r.accepted).0

  pub high_most : (read s).height ≤ 32
  high_most = (height_range s r.accepted).1

  pub horizon_most : (read s).horizon ≤ 255
  horizon_most = accepted_horizon s r.accepted

  pub begins_free : T (free (read s) (start_of (read s) i))
  begins_free = start_free s r.accepted i.0 r.carrier_in

  pub ends_free : T (free (read s) (last_goal (read s) j))
  ends_free = last_goal_free s r.accepted j.0 r.task_in

  pub few_goals : length (goals_of (read s) j) ≤ 8
  few_goals = (goals_range s r.accepted j.0 r.task_in).1

  pub few_labels : all_goals (read s) j ≤ 8
  few_labels = omega (arith, few_goals, all_goals_is (read s) j)

  -- the number of goals that is read off the sheet is the label of all goals
  pub all_counted : {n : ℕ} → n ≡ length (goals_of (read s) j) → n ≡ all_goals (read s) j
  all_counted e = e ∙ sym (all_goals_is (read s) j)

  -- a padded place is an index of a layer
  pub pad_small : (v : ℕ) → v < area (read s) → pad_of (read s).width v < 1156
  pad_small v h = omega (arith, pad_most (read s) v h, size_of (read s).width (read s).height, size_small (read s).width (read s).height wide_most high_most, wide_most, high_most)

  -- the rows in use
  pub few_records : count_in rs ≤ 4096
  few_records = good_count (read s) rs r.records

  pub times_small : Timely rs
  times_small k h = omega (arith, good_t (read s) rs r.records k h, horizon_most)

  pub on_layer : OnLayer (read s).width rs
  on_layer k h =
      let u = good_u (read s) rs r.records k h in
      let v = good_v (read s) rs r.records k h in
      let a = (area_range s r.accepted).1 in
      (omega arith, omega arith, pad_small (record_word rs k 2) u, pad_small (record_word rs k 3) v)

  pub in_time : (c : Constraint) → Mem c (constraints_of rs) → InTime (read s).horizon c
  in_time = good_in_time (read s) rs r.records
