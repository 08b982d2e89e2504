-- The passes on a course, in the numbers of the code. Assumes nothing.
use Rattle.std.proofs.Common.{ℕ, Bool, suc, ◌+◌, ◌-◌, ◌*◌, ◌≤◌, ◌<◌, ◌≡◌, sym, ap, ◌∙◌, subst, true, false, ◌&&◌, List, reverse, length, get_or, replicate, ltb, leb, arith}
use Rattle.std.proofs.lemmas.List.{length-reverse}
use Rattle.deck.specs.Sheet.{start_of, last_goal, goals_of}
use Rattle.sheet.proofs.Accepted.{start_on_grid, last_goal_on_grid}
use Rattle.kernel.specs.Kernel.{hind}
use Rattle.bars.specs.Padded.{pad_of, Holds}
use Rattle.layers.specs.Raise.{Indexes}
use Rattle.layers.specs.Packed.{Kept, words_for}
use Rattle.layers.specs.Step.{Margin, Stepped, Seeded}
use Rattle.layers.proofs.Stepping.{holds_margin}
use Rattle.passes.specs.Ready.{Turned}
use Rattle.passes.specs.Listed.{listed}
use Rattle.passes.specs.Courses.{sheet_of, carrier_of, bars_of, EarlyOn, LeastOn, can_finish, Roomy, BackedOn}
use Rattle.passes.specs.declared.Course.{Course}
use Rattle.bars.specs.Bars.{OnLayer}
use Rattle.passes.proofs.Given.{horizon_most, on_layer}
use Rattle.passes.proofs.Turning.{turned_goals}
use Rattle.passes.proofs.Passing.{forth_on, back_on, place_small, hind_first, hind_next, Swept, ends_here, ends_late, swept_on, swept_first, zeros_margin}
use Rattle.passes.proofs.Backing.{layer_room, backed_first, backed_next, back_answer}

-- what the forward pass goes by
pub record Sweep (u : Course) (goals : List ℕ) (from p horizon : ℕ) : Type 0 where
  pub of_task : goals ≡ listed u.goals
  pub early : EarlyOn u from
  pub at : p ≡ pad_of u.size.width (last_goal (sheet_of u) u.task)
  pub last : horizon ≡ (sheet_of u).horizon

-- where it is at t
abbrev pub SweptOn : Course → List ℕ → List ℕ → ℕ → Type 0
SweptOn u a b t = Swept u.sheet.now.bytes.now (carrier_of u) u.task u.chains.now.records.now a b t

-- where the backward pass from `end` is at t
abbrev pub Layer : Course → ℕ → ℕ → List ℕ → Type 0
Layer u end t a = Holds (sheet_of u) a (hind (sheet_of u) (carrier_of u) u.task (bars_of u) (end - t) t)

abbrev pub Spare : Course → List ℕ → Type 0
Spare u b = Margin (sheet_of u).width (sheet_of u).height b

module _ (u : Course) where
  abbrev s : List ℕ
  s = u.sheet.now.bytes.now

  abbrev w : ℕ
  w = u.size.width

  abbrev h : ℕ
  h = u.size.height

  pub start_small : {v p : ℕ} → v ≡ start_of (sheet_of u) (carrier_of u) → p ≡ pad_of w v → p < 1156
  start_small {v} e f = place_small s (carrier_of u) u.task u.mask.now u.chains.now.records.now u.ready w h u.sized (rw e (start_on_grid s u.ready.accepted (carrier_of u))) f

  pub goal_small : {v p : ℕ} → v ≡ last_goal (sheet_of u) u.task → p ≡ pad_of w v → p < 1156
  goal_small {v} e f = place_small s (carrier_of u) u.task u.mask.now u.chains.now.records.now u.ready w h u.sized (rw e (last_goal_on_grid s u.ready.accepted u.task)) f

  pub time_small : {t : ℕ} → t ≤ (sheet_of u).horizon → t < 256
  time_small l = omega (arith, horizon_most u.ready)

  pub records_on : OnLayer w u.chains.now.records.now
  records_on = rw u.sized.0 (on_layer u.ready)

  -- Forward
  pub forth_asks : {goals : List ℕ} → goals ≡ listed u.goals → (length goals ≤ 8) × Indexes goals (length goals)
  forth_asks {goals} e = forth_on s (carrier_of u) u.task u.mask.now u.chains.now.records.now u.ready w h u.sized goals (rw e u.goals_at)

  pub sweep_first : {goals layer : List ℕ} {p v : ℕ} → goals ≡ listed u.goals → v ≡ start_of (sheet_of u) (carrier_of u) → p ≡ pad_of w v
      → Seeded w (carrier_of u) (bars_of u) 0 goals (length goals) p layer → SweptOn u layer (replicate 1156 0) 0
  sweep_first {goals} e f g sd =
      swept_first s (carrier_of u) u.task u.mask.now u.chains.now.records.now u.ready w h u.sized goals (rw e u.goals_at) (g ∙ ap (pad_of w) f) sd

  pub sweep_of : {goals : List ℕ} {from v p horizon : ℕ} → goals ≡ listed u.goals → EarlyOn u from → v ≡ last_goal (sheet_of u) u.task → p ≡ pad_of w v
      → horizon ≡ (sheet_of u).horizon → Sweep u goals from p horizon
  sweep_of e early f g z = record { of_task = e; early = early; at = g ∙ ap (pad_of w) f; last = z }

  module _ {goals : List ℕ} {from p horizon : ℕ} (q : Sweep u goals from p horizon) {a b : List ℕ} {t : ℕ} {m : Bool} (v : SweptOn u a b t)
      (x : m ≡ (leb from t && ltb (length goals) (get_or a p 0))) where
    pub sweep_ends : m ≡ true → LeastOn u t × (t ≤ (sheet_of u).horizon)
    sweep_ends e = (ends_here s (carrier_of u) u.task u.mask.now u.chains.now.records.now u.ready w h u.sized goals (rw q.of_task u.goals_at) from q.early p q.at v x e, v.in_time)

    pub sweep_late : m ≡ false → t ≡ horizon → LeastOn u (suc (sheet_of u).horizon)
    sweep_late e z = ends_late s (carrier_of u) u.task u.mask.now u.chains.now.records.now u.ready w h u.sized goals (rw q.of_task u.goals_at) from q.early p q.at v x e (z ∙ q.last)

    pub sweep_next : m ≡ false → (t ≡ horizon → ⊥) → {c : List ℕ} {on : ℕ} → on ≡ t + 1 → Stepped w h u.mask.now (carrier_of u) (bars_of u) t on false goals (length goals) a b c → SweptOn u c a on
    sweep_next e z o st = swept_on s (carrier_of u) u.task u.mask.now u.chains.now.records.now u.ready w h u.sized goals (rw q.of_task u.goals_at) from q.early p q.at v x e (λ y. z (y ∙ sym q.last)) o st

  -- Backward
  turned_at : {goals : List ℕ} → goals ≡ reverse (listed u.goals) → Turned s u.task goals
  turned_at {goals} e = turned_goals (sheet_of u).width (goals_of (sheet_of u) u.task) (listed u.goals) goals u.goals_at e

  pub back_asks : {goals : List ℕ} → goals ≡ reverse (listed u.goals) → (length goals ≤ 8) × Indexes goals (length goals)
  back_asks {goals} e = back_on s (carrier_of u) u.task u.mask.now u.chains.now.records.now u.ready w h u.sized goals (turned_at e)

  pub back_room : (words : List ℕ) (t : ℕ) → t ≤ (sheet_of u).horizon → Roomy u words → t * words_for w h + words_for w h ≤ length words
  back_room words t l room = layer_room s (carrier_of u) u.task u.mask.now u.chains.now.records.now u.ready w h u.sized t words l room

  pub back_first : (end : ℕ) {goals layer words after : List ℕ} {p v : ℕ} → goals ≡ reverse (listed u.goals) → v ≡ last_goal (sheet_of u) u.task → p ≡ pad_of w v
      → Seeded w (carrier_of u) (bars_of u) end goals (length goals) p layer → Roomy u words → Kept layer (w + 2) (end * words_for w h) (words_for w h) words after
      → Layer u end end layer × Spare u (replicate 1156 0) × BackedOn u end end after
  back_first end {goals} {p = p} e f g sd room k =
      let x = hind_first s (carrier_of u) u.task u.mask.now u.chains.now.records.now u.ready w h u.sized goals (turned_at e) p end (g ∙ ap (pad_of w) f) sd in
      let y = backed_first s (carrier_of u) u.task u.mask.now u.chains.now.records.now u.ready w h u.sized end room x k in
      (y.0, zeros_margin (sheet_of u).width (sheet_of u).height, y.1)

  -- one layer more, t, from that of the time after
  pub back_next : (end : ℕ) {t next : ℕ} {goals a b c words after : List ℕ} → next ≡ t + 1 → next ≤ end → goals ≡ reverse (listed u.goals) → Layer u end next a → Spare u b → BackedOn u end next words
      → Stepped w h u.mask.now (carrier_of u) (bars_of u) t t true goals (length goals) a b c → Kept c (w + 2) (t * words_for w h) (words_for w h) words after
      → Layer u end t c × Spare u a × BackedOn u end t after
  back_next end {t} {next} {goals} {a} {b} {c} {words} {after} n l e x m y st k =
      let below : t < end = omega arith in
      let z : Layer u end (t + 1) a = subst (λ (q : ℕ). Layer u end q a) n x in
      let v = hind_next s (carrier_of u) u.task u.mask.now u.chains.now.records.now u.ready w h u.sized goals (turned_at e) end t below z m st in (
        v,
        holds_margin (sheet_of u) _ (hind (sheet_of u) (carrier_of u) u.task (bars_of u) (end - next) next) x,
        backed_next s (carrier_of u) u.task u.mask.now u.chains.now.records.now u.ready w h u.sized end t below (subst (λ (q : ℕ). BackedOn u end q words) n y) v k,
      )

  pub back_says : (end : ℕ) {t p v b : ℕ} {goals x : List ℕ} → goals ≡ reverse (listed u.goals) → v ≡ start_of (sheet_of u) (carrier_of u) → p ≡ pad_of w v
      → t ≡ 0 → Layer u end t x → b ≡ get_or x p 0 → ltb (length goals) b ≡ can_finish u end
  back_says end {t} {p} {v} {b} {goals} {x} e f g z hs k =
      back_answer s (carrier_of u) u.task u.mask.now u.chains.now.records.now u.ready w h u.sized end p b (length goals) (subst (λ (q : ℕ). Layer u end q x) z hs)
      (sym (turned_at e).many ∙ length-reverse (goals_of (sheet_of u) u.task)) (g ∙ ap (pad_of w) f) k
