-- The goals of a list with room for eight. Assumes nothing.
use Rattle.std.specs.Prelude.{ℕ, List, take}
use Rattle.passes.specs.declared.task_goals.Goals.{Goals}

abbrev pub listed : Goals → List ℕ
listed g = take g.count g.places
