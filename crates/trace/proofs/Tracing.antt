-- The labels of a trace on a course, as the code counts them. Assumes nothing.
use Rattle.std.proofs.Common.{ℕ, ◌≤◌, ◌<◌, ◌≡◌, sym, ap, ◌∙◌, List, length}
use Rattle.deck.specs.Sheet.{goals_of, start_of}
use Rattle.kernel.specs.Labels.{all_goals, first_label, raised}
use Rattle.kernel.specs.Kernel.{OnTime}
use Rattle.kernel.proofs.Follow.{first_on_time}
use Rattle.bars.specs.Padded.{pad_of}
use Rattle.layers.specs.Raise.{GoalsAt}
use Rattle.passes.specs.Listed.{listed}
use Rattle.passes.specs.Courses.{sheet_of, carrier_of, bars_of, LeastOn}
use Rattle.passes.specs.declared.Course.{Course}
use Rattle.passes.proofs.Given.{all_counted, begins_free, ends_free, in_time}
use Rattle.trace.specs.Along.{Visited}
use Rattle.trace.proofs.Looking.{visited_first, visited_raised}

module _ (u : Course) {goals : List ℕ} (e : goals ≡ listed u.goals) where
  abbrev w : ℕ
  w = u.size.width

  z : 0 < w
  z = u.size.wide.0

  goals_here : GoalsAt w (goals_of (sheet_of u) u.task) goals (length goals)
  goals_here = rw (e, u.sized.0) u.goals_at

  pub first_visited : {v p r : ℕ} → v ≡ start_of (sheet_of u) (carrier_of u) → p ≡ pad_of w v → Visited goals (length goals) p 0 r → r ≡ first_label (sheet_of u) (carrier_of u) u.task
  first_visited {v} {p} {r} f g x = visited_first (sheet_of u) u.task w z goals (length goals) goals_here (carrier_of u) p r (g ∙ ap (pad_of w) f) x

  pub more_visited : (a v : ℕ) {p k r : ℕ} → p ≡ pad_of w v → Visited goals (length goals) p k r → r ≡ raised (sheet_of u) u.task a v k
  more_visited a v {p} {k} {r} g x = visited_raised (sheet_of u) u.task w z goals (length goals) goals_here a v p k r g x

  pub all_many : all_goals (sheet_of u) u.task ≡ length goals
  all_many = sym (all_counted u.ready (sym goals_here.many))

pub begins_on_time : (u : Course) (end : ℕ) → end ≤ (sheet_of u).horizon → LeastOn u end
    → OnTime (sheet_of u) (carrier_of u) u.task (bars_of u) end 0 (start_of (sheet_of u) (carrier_of u)) (first_label (sheet_of u) (carrier_of u) u.task)
begins_on_time u end l least = first_on_time (sheet_of u) (carrier_of u) u.task (bars_of u) (begins_free u.ready) (ends_free u.ready) (in_time u.ready) end least l
