-- The words that the passes take of the search's workspace: the words past the nodes have room for them, or the spare words do, and
-- the nodes' words stay. Assumes nothing.
use Rattle.std.proofs.Common.{ℕ, suc, ◌+◌, ◌-◌, ◌*◌, ◌≤◌, ◌<◌, ◌≡◌, refl, List, mul-le-mul, add-one, arith, length, take, drop, length-take, length-drop}
use borrow.Rule.Slice.PartMut.{put_mid, take_put}
use Rattle.deck.specs.Sheet.{read, area, most_goals, horizon_of, limit_of}
use Rattle.deck.specs.Calls.{workspace_for}
use Rattle.passes.specs.declared.Errand.{Errand}
use Rattle.sheet.proofs.Accepted.{goals_range, within_most}
use Rattle.passes.specs.Ready.{room_for}
use Rattle.passes.proofs.Given.{few_records}
use Rattle.scratch.specs.Front.{Front}

-- the size of the layers fits, of any bytes
pub layers_fit : {h a : ℕ} → h < 256 → a < 65536 → (h + 1) * a < 16777216
layers_fit {h} {a} l m = omega (arith, mul-le-mul {n₁ = h + 1} {m₁ = a} {n₂ = 256} {m₂ = 65535} (omega arith) (omega arith))

-- the nodes' words are inside
pub nodes_inside : (s : List ℕ) {limit work : ℕ} → limit ≡ limit_of s → workspace_for (read s) ≤ work → 512 * limit + 4096 ≤ work
unfolding workspace_for
nodes_inside s e h = omega arith

module _ (errand : Errand) where
  abbrev s : List ℕ
  s = errand.sheet.now.bytes.now

  abbrev rs : List ℕ
  rs = errand.records.now

  module _ {h a : ℕ} (eh : h ≡ horizon_of s) (ea : a ≡ area (read s)) where
    -- the number of words of all layers, as the code computes it
    layers_of : (h + 1) * a ≡ suc (read s).horizon * area (read s)
    layers_of = rw (eh, ea, add-one) refl

    pub spare_room : (h + 1) * a < 4096 → room_for s rs ≤ 8192
    spare_room l = omega (arith, layers_of, few_records errand.ready)

    -- an accepted task has a goal, so that the workspace has the layers' words twice
    pub tail_room : 4096 ≤ (h + 1) * a → {limit : ℕ} → limit ≡ limit_of s → (work : List ℕ) → workspace_for (read s) ≤ length work
        → room_for s rs ≤ length (take (length work - (512 * limit + 4096)) (drop (512 * limit + 4096) work))
    unfolding workspace_for
    tail_room l {limit} e work room =
        let most : 1 ≤ most_goals (read s) = omega (arith, goals_range s errand.ready.accepted errand.task.0 errand.ready.task_in, within_most s errand.task) in
        let twice = mul-le-mul {n₁ = suc (read s).horizon * area (read s)} {m₁ = 2} {n₂ = suc (read s).horizon * area (read s)} {m₂ = suc (most_goals (read s))} (omega arith) (omega arith) in
        simp (length-take, length-drop) (omega (arith, layers_of, few_records errand.ready))

-- only words past the nodes are written
pub front_kept : (s : List ℕ) {limit : ℕ} → limit ≡ limit_of s → (work : List ℕ) → workspace_for (read s) ≤ length work → (k : ℕ) (after : List ℕ)
    → Front (read s).limit work (put_mid (512 * limit + 4096) k work after)
front_kept s {limit} e work room k after =
    rw (← e) (take_put (512 * limit + 4096) k work after (nodes_inside s e room))
