-- The buffer has as many bytes as it is made with.
use Rattle.std.proofs.Common.{sym, ℕ}
use Rattle.std.proofs.lemmas.List.{length-replicate}
use Rattle.path_test.proofs.main.Goals as goal

pub slice_bounds-read-end : goal.slice_bounds-read-end
slice_bounds-read-end c = sym (length-replicate {A = ℕ} 524288 0)
